use Rattle.sv_layers.proofs.AlwaysTold.{same_raising}
use Rattle.sv_layers.proofs.laws.same_raising.Goals as goal

pub returns : goal.returns
returns c = same_raising
