use Rattle.std.proofs.Common.{rules}
use Rattle.sv_status.proofs.standard_event.StandardEvent.enable.Goals as goal

pub returns : goal.returns
returns c = search rules
