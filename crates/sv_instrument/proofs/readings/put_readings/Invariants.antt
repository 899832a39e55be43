use Rattle.std.proofs.Common.{◌≡◌, ◌≤◌, ◌+◌, ◌*◌, ◌++◌, true, drop, vec_len, vec_capacity}
use Rattle.std.specs.Prelude.{codes}
use Rattle.std.specs.List.{flat_map, list_all}
use Rattle.sv_scan.specs.Scan.{is_bounded}
use Rattle.sv_instrument.specs.QueryResponse.{reading_text, readings_text}
use Rattle.sv_instrument.proofs.readings.put_readings.Given as goal

-- The text so far and the remaining readings, with a comma before each, make the whole text.
abbrev pub invariant-loop-reading : goal.invariant-loop-reading
invariant-loop-reading g l = record {
  text : l.out.items ++ flat_map (λ r. codes "," ++ reading_text r) (drop l.reading-index l.others)
      ≡ l.fn.out.items ++ readings_text l.fn.readings;
  capacity : vec_capacity l.fn.out ≤ vec_capacity l.out;
  bounded : vec_len l.out ≤ vec_len l.fn.out + (12 + 13 * l.reading-index);
  small : list_all is_bounded (drop l.reading-index l.others) ≡ true;
}
