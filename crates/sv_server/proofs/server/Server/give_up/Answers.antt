use Rattle.std.proofs.Common.{ap, refl}
use Rattle.std.specs.Prelude.{is_some}
use Rattle.sv_history.specs.Act.{of, device_acts}
use Rattle.sv_server.proofs.OnServer.Logs.{connection_of}
use Rattle.sv_server.proofs.OnServer.Going.{suspended_was_taken, stands_after_time_out}
use Rattle.sv_server.proofs.OnServer.Steps.{polled_now}
use Rattle.sv_server.proofs.server.Server.give_up.Goals as goal

pub returns-clause-stands : goal.returns-clause-stands
returns-clause-stands g c = λ config log rep does.
    let conn = c.args.conn in
    let at = rw c.index.ensures at c.index_mut-connection.ensures.value in
    let state = rw (← c.self.view_is) at rep in
    let is = connection_of _ config log conn.number c.index_mut-connection.result.now state conn.within at in
    let (call, known) = suspended_was_taken _ config log conn.number state does in
    let (polled, said) = polled_now _ config (device_acts log) state.device in
    rw c.index.ensures (stands_after_time_out _ config log conn.number _ c.continue_call.new.connection c.continue_call.new.device state
    c.self.invariant
    conn.within
    (c.continue_call.ensures.concludes config polled (of conn.number log) (device_acts log) is (ap is_some known) (state.device, said) tt).0
    (c.continue_call.ensures.left refl) call known)
