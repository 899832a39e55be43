use Rattle.sv_instrument.specs.Stimulus.{IsFired}
use Rattle.sv_history.specs.Act.{device_acts}
use Rattle.sv_server.proofs.OnServer.Going.{instrument_takes_step}
use Rattle.sv_server.proofs.server.Server.fire.Goals as goal

pub returns-clause-steps : goal.returns-clause-steps
returns-clause-steps g c = λ config log rep.
    let state = rw (← c.self.view_is) at rep in
    rw (← c.self.view_is) (instrument_takes_step IsFired _ c.fire.new.self config log c.fire.result state
    (c.fire.ensures.steps config (device_acts log) state.device) c.fire.ensures.waiting)
