use Rattle.sv_history.specs.Act.{instrument_acts}
use Rattle.sv_server.proofs.OnDevice.Raising.{instrument_steps, idle_as}
use Rattle.sv_instrument.specs.Stimulus.{IsFired}
use Rattle.sv_server.proofs.device.Device.fire.Goals as goal

pub returns-clause-steps : goal.returns-clause-steps
returns-clause-steps g c = λ config acts old.
    let is = rw (← c.self.view_is) at old in
    rw (← c.self.view_is, c.raise_if.ensures.answer)
    (instrument_steps IsFired _ _ c.fire-fired.new.self config acts c.fire-fired.result is
    (c.fire-fired.ensures.fires (instrument_acts acts) is.1) c.fire-fired.ensures.idle
    c.raise_if.ensures.some c.raise_if.ensures.none)

pub returns-clause-idle : goal.returns-clause-idle
returns-clause-idle g c = rw (← c.self.view_is, c.raise_if.ensures.answer)
    (λ e. idle_as _ _ c.fire-fired.new.self c.fire-fired.result c.fire-fired.ensures.idle c.raise_if.ensures.none e)
