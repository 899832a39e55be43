use Rattle.std.proofs.Common.{refl, sym, ap}
use Rattle.std.specs.Prelude.{is_some}
use Rattle.sv_history.specs.Act.{of, device_acts, wait_acts}
use Rattle.sv_history.specs.Event.{Dialed}
use Rattle.sv_server.proofs.OnServer.Logs.{connection_of}
use Rattle.sv_server.proofs.OnServer.Standing.{no_connection}
use Rattle.sv_server.proofs.OnServer.Going.{suspended_was_taken, stands_after_time_out}
use Rattle.sv_server.proofs.OnDevice.Channels.{dialing_call_is_suspended}
use Rattle.sv_server.proofs.server.Server.dialed.Goals as goal

pub returns-in_err-conn-clause-acts : goal.returns-in_err-conn-clause-acts
returns-in_err-conn-clause-acts g c = λ config log rep.
    no_connection config (Dialed c.args.conn c.args.ok) log c.from_residual.result _ _ c.from_residual.ensures
    (c.in_err-conn.ensures.answer config log rep) (λ shut channel_log tells. rw shut refl)

pub returns-then-not-is_dialing-clause-acts : goal.returns-then-not-is_dialing-clause-acts
returns-then-not-is_dialing-clause-acts g c = λ config log rep.
    let state = rw (← c.self.view_is) at rep in
    let unshut = rw (← c.in_ok-conn.ensures.same) at (c.in_ok-conn.ensures.answer config log rep) in
    rw (← c.in_ok-conn.ensures.same)
    (λ channel_log tells. rw (unshut, sym (c.if-not-is_dialing.ensures config (device_acts log) state.device)) refl)

pub returns-clause-acts : goal.returns-clause-acts
returns-clause-acts g c = λ config log rep.
    let conn = c.in_ok-conn.conn in
    let at = rw c.index.ensures at c.index_mut-connection.ensures.value in
    let state = rw (← c.self.view_is) at rep in
    let is = connection_of _ config log conn.number c.index_mut-connection.result.now state conn.within at in
    let unshut = rw (← c.in_ok-conn.ensures.same) at (c.in_ok-conn.ensures.answer config log rep) in
    let dialing = sym (c.if-not-is_dialing.ensures config (device_acts log) state.device) in
    let (call, known) = suspended_was_taken _ config log conn.number state
    (dialing_call_is_suspended conn.number (wait_acts (device_acts log)) dialing) in
    rw (← c.in_ok-conn.ensures.same) (
      λ channel_log tells. rw (unshut, dialing) refl,
      refl,
      λ polled said. rw c.index.ensures
          (stands_after_time_out _ config log conn.number _ c.continue_call.new.connection c.continue_call.new.device state
          c.self.invariant conn.within
          (c.continue_call.ensures.concludes config polled (of conn.number log) (device_acts log) is (ap is_some known) (state.device, said)
          dialing).0
          (c.continue_call.ensures.left refl) call known),
    )
