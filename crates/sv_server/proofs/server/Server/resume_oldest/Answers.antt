use Rattle.std.proofs.Common.{refl}
use Rattle.sv_history.specs.Act.{device_acts}
use Rattle.sv_server.proofs.OnServer.Steps.{polled_now}
use Rattle.sv_server.proofs.server.Server.resume_oldest.Goals as goal

pub returns-in-Some-clause-steps : goal.returns-in-Some-clause-steps
returns-in-Some-clause-steps g c = λ config log rep.
    let state = rw (← c.self.view_is) at rep in
    let oldest = c.in-Some.ensures.answer config (device_acts log) state.device in
    let is = c.in-Some.ensures.entry config (device_acts log) state.device in
    let (polled, said) = polled_now _ config (device_acts log) state.device in (
      _,
      (c.in-Some.entry.conn, c.in-Some.entry.wait, polled, oldest, is.0, said, refl),
      c.resume.ensures.stands config polled log rep said oldest.0 is (rw (← c.self.view_is) c.in-Some.ensures.fewer),
    )

pub returns-in-None-clause-steps : goal.returns-in-None-clause-steps
returns-in-None-clause-steps g c = λ config log rep.
    let state = rw (← c.self.view_is) at rep in
    let none = c.in-None.ensures.answer config (device_acts log) state.device in
    (λ next step. none step.0 step.3.0, refl)

pub returns-in-None-clause-none : goal.returns-in-None-clause-none
returns-in-None-clause-none g c = λ config log rep e.
    let state = rw (← c.self.view_is) at rep in c.in-None.ensures.answer config (device_acts log) state.device
