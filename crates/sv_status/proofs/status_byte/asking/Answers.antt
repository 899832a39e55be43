use Rattle.std.proofs.Common.{arith}
use Rattle.sv_status.proofs.Words.{asking_bit}
use Rattle.sv_status.proofs.status_byte.asking.Goals as goal

pub returns : goal.returns
returns c k = asking_bit c.args.bits c.args.enable k (omega arith)
