use Rattle.std.proofs.Common.{arith, rules}
use Rattle.sv_exchange.proofs.Stands.{done_stands}
use Rattle.sv_exchange.proofs.Fields.{contents_after_unit}
use Rattle.sv_exchange.proofs.exchange.Exchange.done.Goals as goal

pub returns-in-Some-clause-stands : goal.returns-in-Some-clause-stands
returns-in-Some-clause-stands g c =
    let due = rw (← c.self.view_is) at c.requires in
    let first = rw c.deref.ensures.value at c.in-Some.ensures in
    let holds =
    contents_after_unit c.self.inside.text.items _ _ c.self.inside.next_start c.self.inside.ended c.self.inside.end_pending
    c.self.inside.overlong
    c.self.inside.overrun_reported c.self.inside.answers_dropped c.self.inside.answering c.self.inside.response.items c.self.inside.read
    c.self.inside.executed c.in-Some.count
    c.self.invariant.0.order.0 (omega (arith, c.self.invariant.0.order)) first.within.1 in
    rw (← c.self.view_is) (λ acts s. done_stands _ _ acts _ _ due first holds s)

pub invariant_of-self : goal.invariant_of-self
invariant_of-self g c = search rules

pub returns-in-Some-clause-value : goal.returns-in-Some-clause-value
returns-in-Some-clause-value g c = search rules

pub returns-in-Some-clause-measure : goal.returns-in-Some-clause-measure
returns-in-Some-clause-measure g c = search rules

pub returns-in-Some-clause-may_respond : goal.returns-in-Some-clause-may_respond
returns-in-Some-clause-may_respond g c = search rules

pub returns-in-Some-clause-stays_open : goal.returns-in-Some-clause-stays_open
returns-in-Some-clause-stays_open g c = search rules
