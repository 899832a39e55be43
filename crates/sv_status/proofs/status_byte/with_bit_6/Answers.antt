use Rattle.std.proofs.Common.{true, false, arith}
use Rattle.sv_status.proofs.StatusBytes.{shown_bit}
use Rattle.sv_status.proofs.status_byte.with_bit_6.Goals as goal

pub returns-then-stands : goal.returns-then-stands
returns-then-stands c k = rw c.if-stands.true (shown_bit true c.args.bits k (omega arith))

pub returns-else-stands : goal.returns-else-stands
returns-else-stands c k = rw c.if-stands.false (shown_bit false c.args.bits k (omega arith))
