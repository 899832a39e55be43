use Rattle.std.proofs.Common.{◌≤◌, length, refl}
use Rattle.sv_exchange.proofs.Dues.{finish_due_has_ended}
use Rattle.sv_exchange.proofs.Measures.{finish_measure}
use Rattle.sv_exchange.proofs.Stands.{finish_stands}
use Rattle.sv_exchange.proofs.Fields.{later_is_one_write, finish_fields}
use Rattle.sv_exchange.proofs.exchange.Exchange.finish.Goals as goal
use Rattle.sv_exchange.specs.Limits.{max_message}

pub returns-then-has_answers-clause-value : goal.returns-then-has_answers-clause-value
returns-then-has_answers-clause-value g c =
    let first = c.first_message-cut.ensures in
    let fields = finish_fields c.self.inside.text.items c.deref.result.now c.self.inside.cursor c.self.inside.end c.self.inside.next_start
    _ _ c.self.inside.ended c.self.inside.end_pending c.self.inside.overlong c.self.inside.overrun_reported
    c.self.inside.answers_dropped c.self.inside.answering c.self.inside.response.items _ c.self.inside.read c.self.inside.executed _ _
    c.deref.ensures.value (first.size, first.next_start, first.ended, first.end_pending)
    (rw c.if-has_answers.true c.push_reserved.ensures.items) c.self.invariant.0.output in
    rw (← c.self.view_is) fields

pub returns-then-has_answers-clause-stands : goal.returns-then-has_answers-clause-stands
returns-then-has_answers-clause-stands g c =
    let few : length c.args.self.now.later ≤ max_message = rw (← c.self.view_is) (later_is_one_write _ _ _ _ _ c.self.invariant.0.bounds) in
    λ acts s.
    finish_stands c.args.self.now _ acts (finish_due_has_ended c.args.self.now c.requires) few (returns-then-has_answers-clause-value g c) s

pub returns-then-has_answers-clause-measure : goal.returns-then-has_answers-clause-measure
returns-then-has_answers-clause-measure g c =
    finish_measure c.args.self.now _ (finish_due_has_ended c.args.self.now c.requires) (returns-then-has_answers-clause-value g c)

pub returns-else-has_answers-clause-value : goal.returns-else-has_answers-clause-value
returns-else-has_answers-clause-value g c =
    let first = c.first_message-cut.ensures in
    let fields = finish_fields c.self.inside.text.items c.deref.result.now c.self.inside.cursor c.self.inside.end c.self.inside.next_start
    _ _ c.self.inside.ended c.self.inside.end_pending c.self.inside.overlong c.self.inside.overrun_reported
    c.self.inside.answers_dropped c.self.inside.answering c.self.inside.response.items _ c.self.inside.read c.self.inside.executed _ _
    c.deref.ensures.value (first.size, first.next_start, first.ended, first.end_pending)
    (rw c.if-has_answers.false refl) c.self.invariant.0.output in
    rw (← c.self.view_is) fields

pub returns-else-has_answers-clause-stands : goal.returns-else-has_answers-clause-stands
returns-else-has_answers-clause-stands g c =
    let few : length c.args.self.now.later ≤ max_message = rw (← c.self.view_is) (later_is_one_write _ _ _ _ _ c.self.invariant.0.bounds) in
    λ acts s.
    finish_stands c.args.self.now _ acts (finish_due_has_ended c.args.self.now c.requires) few (returns-else-has_answers-clause-value g c) s

pub returns-else-has_answers-clause-measure : goal.returns-else-has_answers-clause-measure
returns-else-has_answers-clause-measure g c =
    finish_measure c.args.self.now _ (finish_due_has_ended c.args.self.now c.requires) (returns-else-has_answers-clause-value g c)
