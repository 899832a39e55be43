use Rattle.std.proofs.Common.{refl}
use Rattle.sv_serve.proofs.driver.Driver.close_socket.Goals as goal

pub returns : goal.returns
returns g c = rw (← c.self.view_is) (λ first config history stands. (history, stands, (c.close.new.self, c.close.ensures, refl)))
