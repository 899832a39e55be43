use Rattle.std.proofs.Common.{arith}
use Rattle.sv_rpc.proofs.Records.{finish_room, finish_keeps, finish_holds}
use Rattle.sv_rpc.proofs.record_buf.RecordBuf.finish.Goals as goal

pub push_reserved-requires : goal.push_reserved-requires
push_reserved-requires g c =
    let k = c.self.invariant in
    let header = rw (← c.self.view_is) at c.requires.header in
    let fits = rw (← c.self.view_is) at c.requires.fits in
    omega (arith, finish_room _ _ _ _ _ _ _ _ k header fits, k.many)

pub invariant_of-self : goal.invariant_of-self
invariant_of-self g c =
    let k = c.self.invariant in
    let header = rw (← c.self.view_is) at c.requires.header in
    let fits = rw (← c.self.view_is) at c.requires.fits in
    finish_keeps _ _ _ _ _ _ _ _ _ _ k header (finish_room _ _ _ _ _ _ _ _ k header fits) c.push_reserved.ensures.items
    c.push_reserved.ensures.capacity

pub returns : goal.returns
returns g c =
    let header = rw (← c.self.view_is) at c.requires.header in
    rw (← c.self.view_is) (finish_holds _ _ _ _ _ _ _ _ _ c.self.invariant header c.push_reserved.ensures.items)
