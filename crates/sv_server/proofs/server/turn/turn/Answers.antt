use Rattle.std.proofs.Common.{rules, ◌≡◌, false, refl, sym, ap, ◌∙◌}
use Rattle.std.specs.Prelude.{nat_lt, Some, is_none}
use Rattle.sv_history.specs.Act.{of, device_acts}
use Rattle.sv_history.specs.Connection.{next_call, free}
use Rattle.sv_history.specs.Limits.{longest_reply}
use Rattle.sv_server.specs.Connection.Inside.Requests.{plain_request}
use Rattle.sv_server.proofs.OnServer.Steps.{polled_now}
use Rattle.sv_server.proofs.OnServer.Turned.{suspended_sends_nothing, next_request_is, turn_not_refused}
use Rattle.sv_server.proofs.server.turn.turn.Goals as goal
use Rattle.std.proofs.lemmas.Bool.{not-true}

pub returns-in_default-execute-clause-acts : goal.returns-in_default-execute-clause-acts
returns-in_default-execute-clause-acts g c = λ config log mine all.
    let acts = of c.args.conn.number log in
    let next : next_call acts ≡ Some c.in-Some.call.now = sym (c.in-Some.ensures.answer _ mine) in
    let roomy : nat_lt (free acts) longest_reply ≡ false = not-true _ (sym (c.if-not-has_reply_room.ensures.answer _ mine)) in (
      turn_not_refused acts roomy,
      c.in-Some.call.now,
      plain_request c.request_of-request.result,
      (
        next,
        next_request_is acts c.args.role c.in-Some.call.now _ (sym mine.role ∙ c.requires) next c.request_of-request.ensures,
        λ polled said. c.in_default-execute.ensures.lacks config polled (device_acts log) (all, said),
      ),
    )

pub returns-clause-acts : goal.returns-clause-acts
returns-clause-acts g c = λ config log mine all.
    let acts = of c.args.conn.number log in
    let next : next_call acts ≡ Some c.in-Some.call.now = sym (c.in-Some.ensures.answer _ mine) in
    let roomy : nat_lt (free acts) longest_reply ≡ false = not-true _ (sym (c.if-not-has_reply_room.ensures.answer _ mine)) in
    let (now, given) = polled_now _ config (device_acts log) all in (
      turn_not_refused acts roomy,
      ap is_none next,
      c.in-Some.call.now,
      plain_request c.request_of-request.result,
      (c.in-Ok.ensures.does config now (device_acts log) (all, given)).2,
      (
        next,
        next_request_is acts c.args.role c.in-Some.call.now _ (sym mine.role ∙ c.requires) next c.request_of-request.ensures,
        λ polled said.
            let (ends, holds, aborts) = c.in-Ok.ensures.does config polled (device_acts log) (all, said) in (
              c.conclude.ensures.ends config _ _ _ (c.take_call.ensures _ _ mine next) refl (rw (← c.xid-xid.ensures) at ends),
              rw c.conclude.ensures.waiting
                  (suspended_sends_nothing _ c.args.conn.number c.args.role c.in-Some.call.now _ _ config (device_acts log) _ _
                  _ c.request_of-request.ensures ends holds),
            ),
      ),
    )

pub returns-then-not-has_reply_room-clause-err : goal.returns-then-not-has_reply_room-clause-err
returns-then-not-has_reply_room-clause-err g c = search rules
