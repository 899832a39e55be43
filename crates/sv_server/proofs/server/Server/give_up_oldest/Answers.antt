use Rattle.std.proofs.Common.{refl, sym, ap, ◌∙◌, ◌≡◌, ◌++◌, Some, None}
use Rattle.sv_vxi.specs.declared.error_code.ErrorCode.{ErrorCode}
use Rattle.sv_history.specs.Act.{of, device_acts}
use Rattle.sv_history.specs.Connection.{pending_call}
use Rattle.sv_history.specs.Request.{core_call_in}
use Rattle.sv_history.specs.Effect.{acts_of}
use Rattle.sv_history.specs.Resuming.{failure_effect}
use Rattle.sv_server.proofs.server.Server.give_up_oldest.Goals as goal

pub returns-in-Some-clause-steps : goal.returns-in-Some-clause-steps
returns-in-Some-clause-steps g c = λ config log rep.
    let state = rw (← c.self.view_is) at rep in
    let entry = c.in-Some.entry in
    let oldest = c.in-Some.ensures.answer config (device_acts log) state.device in
    let is = c.in-Some.ensures.entry config (device_acts log) state.device in (
      _,
      (
        entry.conn,
        entry.wait,
        oldest,
        is.0,
        ap (λ (e : ErrorCode). acts_of entry.conn (failure_effect e entry.conn (core_call_in (pending_call (of entry.conn log)))) ++ log)
            c.late.ensures,
      ),
      c.give_up.ensures.stands config log rep (λ none. let z : Some entry.wait ≡ None = sym is.0 ∙ none in cc),
    )

pub returns-in-None-clause-steps : goal.returns-in-None-clause-steps
returns-in-None-clause-steps g c = λ config log rep.
    let state = rw (← c.self.view_is) at rep in
    let none = c.in-None.ensures.answer config (device_acts log) state.device in
    (λ next step. none step.0 step.2.0, refl)

pub returns-in-None-clause-none : goal.returns-in-None-clause-none
returns-in-None-clause-none g c = λ config log rep e.
    let state = rw (← c.self.view_is) at rep in c.in-None.ensures.answer config (device_acts log) state.device
