use Rattle.std.proofs.Common.{refl}
use Rattle.sv_history.specs.Act.{device_acts}
use Rattle.sv_server.proofs.server.Server.is_still_tick.Goals as goal

pub returns-in-Tick : goal.returns-in-Tick
returns-in-Tick g c = λ config log rep.
    let held = rw (← c.self.view_is) at rep in
    let still = c.is_still.ensures config (device_acts log) held.device in
    rw c.in-Tick.is ((λ e. (refl, still.0 e)), (λ so. still.1 so.1))
