use Rattle.std.proofs.Common.{rules}
use Rattle.sv_status.proofs.standard_event.StandardEvent.read.Goals as goal

pub returns-clause-answer : goal.returns-clause-answer
returns-clause-answer c = search rules
