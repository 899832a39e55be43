use Rattle.std.proofs.Common.{refl}
use Rattle.sv_serve.proofs.driver.Driver.flush.Goals as goal

pub returns : goal.returns
returns g c = rw (← c.self.view_is) (λ first config history stands. (history, (stands.0, c.flush.ensures _ history stands.1), refl))
