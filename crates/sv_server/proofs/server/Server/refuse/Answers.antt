use Rattle.std.proofs.Common.{refl}
use Rattle.std.proofs.lemmas.Result.{err_from_is_err_and}
use Rattle.sv_history.specs.Act.{of}
use Rattle.sv_history.specs.Event.{Refuse}
use Rattle.sv_server.proofs.OnServer.Logs.{connection_of}
use Rattle.sv_server.proofs.OnServer.Standing.{no_connection}
use Rattle.sv_server.proofs.OnServer.Refusals.{refuse_refused, refuse_done}
use Rattle.sv_server.proofs.server.Server.refuse.Goals as goal

pub returns-in_err-conn-clause-acts : goal.returns-in_err-conn-clause-acts
returns-in_err-conn-clause-acts g c = λ config log rep.
    no_connection config (Refuse c.args.conn) log c.from_residual.result _ _ c.from_residual.ensures
    (c.in_err-conn.ensures.answer config log rep) (λ shut channel_log tells. rw shut refl)

pub returns-in_err-refuse-clause-acts : goal.returns-in_err-refuse-clause-acts
returns-in_err-refuse-clause-acts g c = λ config log rep.
    let conn = c.in_ok-conn.conn in
    let at = rw c.index.ensures at c.index_mut-connection.ensures.value in
    let state = rw (← c.self.view_is) at rep in
    let is = connection_of _ config log conn.number c.index_mut-connection.result.now state conn.within at in
    let unshut = rw (← c.in_ok-conn.ensures.same) at (c.in_ok-conn.ensures.answer config log rep) in
    let told = err_from_is_err_and c.from_residual-in_err-refuse.result c.from_residual-in_err-refuse.ensures.1 in
    rw (← c.in_ok-conn.ensures.same, told.1, told.2) (refuse_refused config conn.number log c.in_err-refuse.field-0.0
    c.refuse.new.connection _ unshut (c.in_err-refuse.ensures.acts (of conn.number log) is))

pub returns-clause-acts : goal.returns-clause-acts
returns-clause-acts g c = λ config log rep.
    let conn = c.in_ok-conn.conn in
    let at = rw c.index.ensures at c.index_mut-connection.ensures.value in
    let state = rw (← c.self.view_is) at rep in
    let is = connection_of _ config log conn.number c.index_mut-connection.result.now state conn.within at in
    let unshut = rw (← c.in_ok-conn.ensures.same) at (c.in_ok-conn.ensures.answer config log rep) in
    rw (← c.in_ok-conn.ensures.same, c.index.ensures) (refuse_done _ config log conn.number c.refuse.new.connection state c.self.invariant
    conn.within unshut (c.in_ok-refuse.ensures.acts (of conn.number log) is))
