use Rattle.std.proofs.Common.{rules}
use Rattle.sv_errors.proofs.code.Code.standard_event.Goals as goal

pub returns-in-4 : goal.returns-in-4
returns-in-4 c = search rules
