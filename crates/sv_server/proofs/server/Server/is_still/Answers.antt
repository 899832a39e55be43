use Rattle.sv_history.specs.Act.{device_acts}
use Rattle.sv_server.proofs.server.Server.is_still.Goals as goal

pub returns : goal.returns
returns g c = λ config history s.
    let state = rw (← c.self.view_is) at s.represents in (s.log, s.is_log, c.is_still.ensures config (device_acts s.log) state.device)
