use Rattle.std.proofs.Common.{refl, sym, ◌∙◌, arith}
use Rattle.std.proofs.lemmas.Bool.{lt-ltb, le-ltb}
use Rattle.sv_history.specs.Act.{Opened, of}
use Rattle.sv_server.proofs.OnServer.Logs.{connection_of, is_open_by_role, stands_after_own_act, idle_has_no_call}
use Rattle.sv_server.proofs.OnServer.Used.{used_opened}
use Rattle.sv_server.proofs.server.Server.open.Goals as goal

pub returns-clause-acts : goal.returns-clause-acts
returns-clause-acts g c = λ config log rep.
    let conn = c.in-Some.conn in
    let at = rw c.index.ensures at c.index_mut-connection.ensures.value in
    let state = rw (← c.self.view_is) at rep in
    let is = connection_of _ config log conn.number c.index_mut-connection.result.now state conn.within at in
    let shut = is_open_by_role c.index_mut-connection.result.now _ _ is (sym c.is_open.ensures.value ∙ c.if-is_open.false) in
    rw (← c.in-Some.ensures) (
      λ channel_log tells. rw (le-ltb 15 conn.number (omega (arith, conn.within)), shut) refl,
      refl,
      λ polled said. rw c.index.ensures (stands_after_own_act _ config log conn.number c.index_mut-connection.result.now c.open.new.self
          (Opened c.args.role) state c.self.invariant conn.within at (c.open.ensures (of conn.number log))
          (λ call known. absurd {0} (idle_has_no_call _ _ call is (c.is_open.ensures.shut c.if-is_open.false) known)) _
          (used_opened c.self.inside.connections_used conn.number _
          (Opened c.args.role) log c.max-self-inside.ensures state.connections_used)),
    )

pub returns-in_default-clause-acts : goal.returns-in_default-clause-acts
returns-in_default-clause-acts g c = λ config log rep channel_log tells.
    rw (lt-ltb 15 c.args.conn (omega (arith, c.in_default.ensures))) refl
