use Rattle.sv_laws.proofs.InOrder.{in_order}
use Rattle.sv_laws.proofs.laws.in_order.Goals as goal

pub returns : goal.returns
returns c = in_order
