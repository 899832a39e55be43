use Rattle.std.proofs.Common.{refl}
use Rattle.std.proofs.lemmas.Bool.{le-ltb, lt-ltb}
use Rattle.std.proofs.lemmas.List.{get_or_default}
use Rattle.sv_history.specs.Act.{Piece, of}
use Rattle.sv_history.specs.Event.{Bytes}
use Rattle.sv_server.proofs.OnServer.Logs.{connection_of, stands_after_own_act}
use Rattle.sv_server.proofs.OnServer.Standing.{no_connection}
use Rattle.sv_server.proofs.OnServer.Used.{unshut_used, used_act}
use Rattle.sv_server.proofs.server.Server.bytes.Goals as goal

pub returns-in_err-conn-clause-acts : goal.returns-in_err-conn-clause-acts
returns-in_err-conn-clause-acts g c = λ config log rep.
    no_connection config (Bytes c.args.conn c.args.piece.now) log c.from_residual.result _ _ c.from_residual.ensures
    (c.in_err-conn.ensures.answer config log rep) (λ shut channel_log tells. rw shut refl)

pub returns-then-room-piece-clause-acts : goal.returns-then-room-piece-clause-acts
returns-then-room-piece-clause-acts g c = λ config log rep.
    let conn = c.in_ok-conn.conn in
    let at = rw c.index.ensures at c.index_mut-connection.ensures.value in
    let state = rw (← c.self.view_is) at rep in
    let is = connection_of _ config log conn.number c.index_mut-connection.result.now state conn.within at in
    let unshut = rw (← c.in_ok-conn.ensures.same) at (c.in_ok-conn.ensures.answer config log rep) in
    let room = c.room.ensures.answer _ is in
    rw (← c.in_ok-conn.ensures.same) (λ channel_log tells. rw (unshut, lt-ltb _ _ (rw room at c.if-room-piece.true)) refl)

pub returns-clause-acts : goal.returns-clause-acts
returns-clause-acts g c = λ config log rep.
    let conn = c.in_ok-conn.conn in
    let at = rw c.index.ensures at c.index_mut-connection.ensures.value in
    let state = rw (← c.self.view_is) at rep in
    let is = connection_of _ config log conn.number c.index_mut-connection.result.now state conn.within at in
    let unshut = rw (← c.in_ok-conn.ensures.same) at (c.in_ok-conn.ensures.answer config log rep) in
    let room = c.room.ensures.answer _ is in
    rw (← c.in_ok-conn.ensures.same) (
      λ channel_log tells. rw (unshut, le-ltb _ _ (rw room at c.if-room-piece.false)) refl,
      refl,
      λ polled said. rw c.index.ensures (stands_after_own_act _ config log conn.number c.index_mut-connection.result.now c.push.new.self
          (Piece c.args.piece.now) state c.self.invariant conn.within at (c.push.ensures (of conn.number log)) (λ call known. known) _
          (used_act c.self.inside.connections_used conn.number (Piece c.args.piece.now) log state.connections_used
          (unshut_used conn.number log unshut))),
    )

pub returns-in_err-conn-clause-within : goal.returns-in_err-conn-clause-within
returns-in_err-conn-clause-within g c =
    (c.ranges.conn.fits, λ k d lt. rw (get_or_default c.args.piece.now k d 0 lt) (c.type_inv.piece k).fits)

pub returns-then-room-piece-clause-within : goal.returns-then-room-piece-clause-within
returns-then-room-piece-clause-within g c =
    (c.ranges.conn.fits, λ k d lt. rw (get_or_default c.args.piece.now k d 0 lt) (c.type_inv.piece k).fits)

pub returns-clause-within : goal.returns-clause-within
returns-clause-within g c =
    (c.ranges.conn.fits, λ k d lt. rw (get_or_default c.args.piece.now k d 0 lt) (c.type_inv.piece k).fits)
