use Rattle.std.proofs.Common.{rules}
use Rattle.sv_vxi.proofs.reason.Reason.number.Goals as goal

pub returns : goal.returns
returns c = search rules
