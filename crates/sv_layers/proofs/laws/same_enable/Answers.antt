use Rattle.sv_layers.proofs.SameStandard.{same_enable}
use Rattle.sv_layers.proofs.laws.same_enable.Goals as goal

pub returns : goal.returns
returns c = same_enable
