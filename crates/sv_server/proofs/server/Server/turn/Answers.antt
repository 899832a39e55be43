use Rattle.std.proofs.Common.{ℕ, refl, subst}
use Rattle.std.proofs.lemmas.Result.{err_from_is_err_and}
use Rattle.std.specs.Prelude.{Err}
use Rattle.sv_server.specs.Server.Inside.Acting.{Turns}
use Rattle.sv_history.specs.Event.{Turn}
use Rattle.sv_server.proofs.OnServer.Logs.{connection_of}
use Rattle.sv_server.proofs.OnServer.Standing.{no_connection}
use Rattle.sv_server.proofs.OnServer.Turning.{turn_refused, turn_ends}
use Rattle.sv_server.proofs.server.Server.turn.Goals as goal

pub returns-in_err-conn-clause-acts : goal.returns-in_err-conn-clause-acts
returns-in_err-conn-clause-acts g c = λ config log rep.
    no_connection config (Turn c.args.conn) log c.from_residual.result _ _ c.from_residual.ensures
    (c.in_err-conn.ensures.answer config log rep) (λ shut channel_log tells. rw shut refl)

pub returns-in_err-did-clause-acts : goal.returns-in_err-did-clause-acts
returns-in_err-did-clause-acts g c = λ config log rep.
    let conn = c.in_ok-conn.conn in
    let at = rw c.index.ensures at c.index_mut-connection.ensures.value in
    let state = rw (← c.self.view_is) at rep in
    let is = connection_of _ config log conn.number c.index_mut-connection.result.now state conn.within at in
    let unshut = rw (← c.in_ok-conn.ensures.same) at (c.in_ok-conn.ensures.answer config log rep) in
    let told = err_from_is_err_and c.from_residual-in_err-did.result c.from_residual-in_err-did.ensures.1 in
    let refused = c.in_err-did.field-0.0 in
    rw (told.1, told.2) (turn_refused config c.args.conn log c.self.inside.device.waiting refused c.turn.new.connection c.turn.new.device _
    (c.in_ok-conn.ensures.answer config log rep)
    (subst (λ (n : ℕ). Turns config n log c.self.inside.device.waiting (Err refused) c.turn.new.connection c.turn.new.device)
    c.in_ok-conn.ensures.same (c.in_err-did.ensures.acts config log is state.device)))

pub returns-clause-acts : goal.returns-clause-acts
returns-clause-acts g c = λ config log rep.
    let conn = c.in_ok-conn.conn in
    let at = rw c.index.ensures at c.index_mut-connection.ensures.value in
    let state = rw (← c.self.view_is) at rep in
    let is = connection_of _ config log conn.number c.index_mut-connection.result.now state conn.within at in
    let unshut = rw (← c.in_ok-conn.ensures.same) at (c.in_ok-conn.ensures.answer config log rep) in
    rw (← c.in_ok-conn.ensures.same)
    (turn_ends _ c.abort.new.self config log conn.number c.in_ok-did.did c.in_ok-did.aborted c.turn.new.connection
    c.turn.new.device state c.self.invariant conn.within unshut (c.in_ok-did.ensures.acts config log is state.device)
    (rw c.index.ensures at c.abort.ensures))
