use Rattle.sv_history.specs.Act.{instrument_acts}
use Rattle.sv_server.proofs.OnDevice.Raising.{instrument_steps, idle_as, none_named}
use Rattle.sv_instrument.specs.Step.{IsStep}
use Rattle.sv_server.proofs.device.Device.exchange.Goals as goal

pub returns-clause-steps : goal.returns-clause-steps
returns-clause-steps g c = λ config acts old.
    let is = rw (← c.self.view_is) at old in
    rw (← c.self.view_is, c.raise_if.ensures.answer)
    (instrument_steps IsStep _ _ c.step-stepped.new.self config acts c.step-stepped.result is
    (c.step-stepped.ensures.steps (instrument_acts acts) is.1) c.step-stepped.ensures.idle
    c.raise_if.ensures.some c.raise_if.ensures.none)

pub returns-clause-idle : goal.returns-clause-idle
returns-clause-idle g c = rw (← c.self.view_is, c.raise_if.ensures.answer)
    (λ e. idle_as _ _ c.step-stepped.new.self c.step-stepped.result c.step-stepped.ensures.idle c.raise_if.ensures.none e)

pub returns-clause-none : goal.returns-clause-none
returns-clause-none g c = λ config acts old e.
    let is = rw (← c.self.view_is) at old in
    none_named c.step-stepped.result _ (rw c.raise_if.ensures.answer at e) (c.step-stepped.ensures.due (instrument_acts acts) is.1)
