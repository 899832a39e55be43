use Rattle.sv_layers.proofs.Lent.{errors_stand}
use Rattle.sv_layers.proofs.layers.Layers.errors.Goals as goal

pub returns : goal.returns
returns g c = λ log h. errors_stand _ log (rw (← c.self.view_is) at h)
