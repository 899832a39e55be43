use Rattle.std.proofs.Common.{rules}
use Rattle.sv_errors.proofs.error_queue.ErrorQueueLayer.act.Goals as goal

pub returns-in-Take-clause-stands : goal.returns-in-Take-clause-stands
returns-in-Take-clause-stands g c = search rules

pub returns-in-Report-clause-answer : goal.returns-in-Report-clause-answer
returns-in-Report-clause-answer g c = search rules
