use Rattle.sv_layers.proofs.Projected.{projected}
use Rattle.sv_layers.proofs.laws.own_acts.Goals as goal

pub returns : goal.returns
returns c = projected
