use Rattle.sv_rpc.proofs.Records.{record_has_length, valid_without_first, held_without_first, stands_after_drop}
use Rattle.sv_rpc.proofs.record_buf.RecordBuf.drop_first.Goals as goal

pub invariant_of-self : goal.invariant_of-self
invariant_of-self g c =
    let some = record_has_length c.self.inside.bytes.items c.self.inside.lengths.items (rw (← c.self.view_is) at c.requires) in
    valid_without_first _ _ _ _ _ _ _ _ _ _ _ c.remove.result _ c.self.invariant some c.remove.ensures.value c.remove.ensures.items
    (rw c.from-size.ensures at c.drop_front.ensures.items) c.drop_front.ensures.capacity c.remove.ensures.capacity

pub returns-clause-value : goal.returns-clause-value
returns-clause-value g c =
    let some = record_has_length c.self.inside.bytes.items c.self.inside.lengths.items (rw (← c.self.view_is) at c.requires) in
    held_without_first _ _ _ _ _ c.self.inside.payload c.remove.result _ c.args.self.now c.self.view_is c.self.invariant.whole some
    c.remove.ensures.value c.remove.ensures.items (rw c.from-size.ensures at c.drop_front.ensures.items)

pub returns-clause-stands : goal.returns-clause-stands
returns-clause-stands g c = λ stream dropped s. stands_after_drop c.args.self.now _ stream dropped (returns-clause-value g c) c.requires s
