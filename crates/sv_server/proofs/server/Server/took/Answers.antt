use Rattle.std.proofs.Common.{length, refl, ap, arith}
use Rattle.std.proofs.lemmas.Bool.{le-ltb, lt-ltb}
use Rattle.sv_history.specs.Act.{BytesTaken, of}
use Rattle.sv_history.specs.Connection.{waiting}
use Rattle.sv_history.specs.declared.event.Port.TheVariants.{Conn}
use Rattle.sv_history.specs.Event.{Took}
use Rattle.sv_server.proofs.OnServer.Logs.{connection_of, stands_after_own_act}
use Rattle.sv_server.proofs.OnServer.Standing.{no_connection}
use Rattle.sv_server.proofs.OnServer.Used.{unshut_used, used_act}
use Rattle.sv_server.proofs.server.Server.took.Goals as goal

pub returns-in_err-conn-clause-acts : goal.returns-in_err-conn-clause-acts
returns-in_err-conn-clause-acts g c = λ config log rep.
    no_connection config (Took (Conn c.args.conn) c.args.count) log c.from_residual.result _ _ c.from_residual.ensures
    (c.in_err-conn.ensures.answer config log rep) (λ shut channel_log tells. rw shut refl)

pub returns-then-waiting-count-clause-acts : goal.returns-then-waiting-count-clause-acts
returns-then-waiting-count-clause-acts g c = λ config log rep.
    let conn = c.in_ok-conn.conn in
    let at = rw c.index.ensures at c.index_mut-connection.ensures.value in
    let state = rw (← c.self.view_is) at rep in
    let is = connection_of _ config log conn.number c.index_mut-connection.result.now state conn.within at in
    let unshut = rw (← c.in_ok-conn.ensures.same) at (c.in_ok-conn.ensures.answer config log rep) in
    let bytes = c.waiting.ensures.answer _ is in
    rw (← c.in_ok-conn.ensures.same) (λ channel_log tells. rw (
      unshut,
      lt-ltb (length (waiting (of conn.number log))) c.args.count
          (omega (arith, ap length bytes, c.if-waiting-count.true)),
    ) refl)

pub returns-clause-acts : goal.returns-clause-acts
returns-clause-acts g c = λ config log rep.
    let conn = c.in_ok-conn.conn in
    let at = rw c.index.ensures at c.index_mut-connection.ensures.value in
    let state = rw (← c.self.view_is) at rep in
    let is = connection_of _ config log conn.number c.index_mut-connection.result.now state conn.within at in
    let unshut = rw (← c.in_ok-conn.ensures.same) at (c.in_ok-conn.ensures.answer config log rep) in
    let bytes = c.waiting.ensures.answer _ is in
    rw (← c.in_ok-conn.ensures.same) (
      λ channel_log tells. rw (
        unshut,
        le-ltb (length (waiting (of conn.number log))) c.args.count
            (omega (arith, ap length bytes, c.if-waiting-count.false)),
      ) refl,
      refl,
      λ polled said. rw c.index.ensures (stands_after_own_act _ config log conn.number c.index_mut-connection.result.now c.took.new.self
          (BytesTaken c.args.count) state c.self.invariant conn.within at (c.took.ensures (of conn.number log)) (λ call known. known) _
          (used_act c.self.inside.connections_used conn.number (BytesTaken c.args.count) log state.connections_used
          (unshut_used conn.number log unshut))),
    )
