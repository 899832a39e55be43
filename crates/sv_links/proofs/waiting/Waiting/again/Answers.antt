use Rattle.std.proofs.Common.{rules, arith}
use Rattle.std.proofs.lemmas.List.Edits.{map_over_more}
use Rattle.sv_links.specs.Limits.{max_connections}
use Rattle.sv_links.specs.Queue.{anew}
use Rattle.sv_links.proofs.Queues.{is_queue_anew, once_anew, below_anew, written}
use Rattle.sv_links.proofs.Anew.{measure_after_anew, creations_anew}
use Rattle.sv_links.proofs.waiting.Waiting.again.Goals as goal

pub loop-entry-preserved : goal.loop-entry-preserved
loop-entry-preserved g c =
    rw c.renew.ensures (map_over_more (anew c.args.conn c.args.wait c.args.deadline) _ _ c.loop-entry.entry-index _
    (search (rules, arith)) c.loop-entry.invariant (search (rules)))

pub invariant_of-self : goal.invariant_of-self
invariant_of-self g c =
    let vec = c.self.inside.entries in
    let lent = c.deref_mut-entry-items.ensures in
    let f = anew c.args.conn c.args.wait c.args.deadline in
    let items = written f vec.len c.loop-entry.entry-index vec.items c.deref_mut-entry-items.result.now c.loop-entry.entry-items
    lent.value lent.len c.loop-entry.auto.entry-items c.loop-entry-test.false c.loop-entry.invariant in (
      rw items (once_anew c.args.conn c.args.wait c.args.deadline vec.items c.self.invariant.0),
      rw items (below_anew c.args.conn c.args.wait c.args.deadline max_connections vec.items c.self.invariant.1),
      c.self.invariant.2,
    )

pub returns-clause-value : goal.returns-clause-value
returns-clause-value g c =
    let vec = c.self.inside.entries in
    let lent = c.deref_mut-entry-items.ensures in
    let f = anew c.args.conn c.args.wait c.args.deadline in
    rw (← c.self.view_is) (written f vec.len c.loop-entry.entry-index vec.items c.deref_mut-entry-items.result.now c.loop-entry.entry-items
    lent.value lent.len c.loop-entry.auto.entry-items c.loop-entry-test.false c.loop-entry.invariant)

pub returns-clause-stands : goal.returns-clause-stands
returns-clause-stands g c acts is =
    let vec = c.self.inside.entries in
    let lent = c.deref_mut-entry-items.ensures in
    let f = anew c.args.conn c.args.wait c.args.deadline in
    let items = written f vec.len c.loop-entry.entry-index vec.items c.deref_mut-entry-items.result.now c.loop-entry.entry-items
    lent.value lent.len c.loop-entry.auto.entry-items c.loop-entry-test.false c.loop-entry.invariant in
    rw items (is_queue_anew c.args.conn c.args.wait c.args.deadline acts vec.items (rw (← c.self.view_is) at is))

pub returns-clause-measure : goal.returns-clause-measure
returns-clause-measure g c =
    let vec = c.self.inside.entries in
    let lent = c.deref_mut-entry-items.ensures in
    let f = anew c.args.conn c.args.wait c.args.deadline in
    let items = written f vec.len c.loop-entry.entry-index vec.items c.deref_mut-entry-items.result.now c.loop-entry.entry-items
    lent.value lent.len c.loop-entry.auto.entry-items c.loop-entry-test.false c.loop-entry.invariant in
    rw (items, ← c.self.view_is) (measure_after_anew c.args.conn c.args.wait c.args.deadline vec.items c.self.invariant.0)

pub returns-clause-fewer : goal.returns-clause-fewer
returns-clause-fewer g c other =
    let vec = c.self.inside.entries in
    let lent = c.deref_mut-entry-items.ensures in
    let f = anew c.args.conn c.args.wait c.args.deadline in
    let items = written f vec.len c.loop-entry.entry-index vec.items c.deref_mut-entry-items.result.now c.loop-entry.entry-items
    lent.value lent.len c.loop-entry.auto.entry-items c.loop-entry-test.false c.loop-entry.invariant in
    rw (items, ← c.self.view_is) (creations_anew c.args.conn c.args.wait c.args.deadline vec.items other)
