use Rattle.std.proofs.Common.{refl}
use Rattle.sv_history.specs.Act.{of}
use Rattle.sv_history.specs.declared.event.Port.TheVariants.{Conn}
use Rattle.sv_history.specs.Event.{Close}
use Rattle.sv_server.proofs.OnServer.Logs.{stands_after_close_of}
use Rattle.sv_server.proofs.OnServer.Standing.{no_connection}
use Rattle.sv_server.proofs.OnServer.Used.{unshut_used}
use Rattle.sv_server.proofs.server.Server.close.Goals as goal

pub returns-in_err-conn-clause-acts : goal.returns-in_err-conn-clause-acts
returns-in_err-conn-clause-acts g c = λ config log rep.
    no_connection config (Close (Conn c.args.conn)) log c.from_residual.result _ _ c.from_residual.ensures
    (c.in_err-conn.ensures.answer config log rep) (λ shut channel_log tells. rw shut refl)

pub returns-clause-acts : goal.returns-clause-acts
returns-clause-acts g c = λ config log rep.
    let conn = c.in_ok-conn.conn in
    let at = rw c.index.ensures at c.index_mut-connection.ensures.value in
    let state = rw (← c.self.view_is) at rep in
    let unshut = c.in_ok-conn.ensures.answer config log rep in (
      λ channel_log tells. rw unshut refl,
      refl,
      λ polled said. rw c.index.ensures (stands_after_close_of _ config log conn.number c.args.conn c.index_mut-connection.result.now
          c.close.new.self c.close_connection.new.self c.in_ok-conn.ensures.same state c.self.invariant conn.within at
          (c.close.ensures (of conn.number log)) (c.close_connection.ensures.stands config) c.close_connection.ensures.waiting
          (unshut_used conn.number log (rw (← c.in_ok-conn.ensures.same) at unshut))),
    )
