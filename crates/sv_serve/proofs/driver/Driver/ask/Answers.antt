use Rattle.std.proofs.Common.{refl}
use Rattle.sv_serve.proofs.driver.Driver.ask.Goals as goal

pub returns : goal.returns
returns g c = rw (← c.self.view_is) (λ first config history stands. (history, stands, (c.probe.new.self, c.probe.ensures, refl)))
