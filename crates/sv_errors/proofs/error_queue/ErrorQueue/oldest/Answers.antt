use Rattle.std.proofs.Common.{rules}
use Rattle.sv_errors.proofs.error_queue.ErrorQueue.oldest.Goals as goal

pub returns : goal.returns
returns g c = search rules
