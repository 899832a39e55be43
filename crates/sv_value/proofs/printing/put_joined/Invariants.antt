use Rattle.std.proofs.Common.{◌≡◌, ◌≤◌, ◌+◌, ◌*◌, ◌++◌, drop, vec_len, vec_capacity}
use Rattle.std.specs.Prelude.{codes, decimal}
use Rattle.std.specs.List.{flat_map, join_by}
use Rattle.sv_value.proofs.printing.put_joined.Given as goal

-- The channels before the index are written; a comma comes before each remaining one.
abbrev pub invariant-loop-channel : goal.invariant-loop-channel
invariant-loop-channel g l = record {
  text : l.out.items ++ flat_map (λ c. codes "," ++ decimal c) (drop l.channel-index l.others)
      ≡ l.fn.out.items ++ join_by decimal (codes ",") l.fn.channels;
  capacity : vec_capacity l.fn.out ≤ vec_capacity l.out;
  bounded : vec_len l.out ≤ vec_len l.fn.out + (3 + 4 * l.channel-index);
}
