use Rattle.std.proofs.Common.{refl}
use Rattle.sv_serve.proofs.driver.Driver.forget_dial.Goals as goal

pub returns : goal.returns
returns g c = rw (c.from.ensures, ← c.self.view_is) (λ first config history stands. (history, stands, refl))
