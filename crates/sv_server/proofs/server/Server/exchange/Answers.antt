use Rattle.sv_instrument.specs.Step.{IsStep}
use Rattle.sv_history.specs.Act.{device_acts}
use Rattle.sv_server.proofs.OnServer.Going.{instrument_takes_step}
use Rattle.sv_server.proofs.server.Server.exchange.Goals as goal

pub returns-clause-steps : goal.returns-clause-steps
returns-clause-steps g c = λ config log rep.
    let state = rw (← c.self.view_is) at rep in
    rw (← c.self.view_is) (instrument_takes_step IsStep _ c.exchange.new.self config log c.exchange.result state
    (c.exchange.ensures.steps config (device_acts log) state.device) c.exchange.ensures.waiting)

pub returns-clause-none : goal.returns-clause-none
returns-clause-none g c = λ config log rep e.
    let state = rw (← c.self.view_is) at rep in c.exchange.ensures.none config (device_acts log) state.device e
