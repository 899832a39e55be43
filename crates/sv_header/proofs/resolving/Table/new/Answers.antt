use Rattle.std.proofs.Common.{refl, lit≤}
use Rattle.sv_header.proofs.resolving.Table.new.Goals as goal

pub invariant_of-result : goal.invariant_of-result
invariant_of-result g c =
    rw (
      c.in_ok-extend_from_slice-5.ensures.items,
      c.in_ok-extend_from_slice-4.ensures.items,
      c.in_ok-extend_from_slice-3.ensures.items,
      c.in_ok-extend_from_slice-2.ensures.items,
      c.in_ok-extend_from_slice.ensures.items,
      c.in_ok-branches.ensures.items,
    )
    (record { size = lit≤ tt; common = refl; others = refl })
