use Rattle.std.proofs.Common.{◌≡◌, ◌+◌, ◌≤◌, [], length}
use Rattle.std.specs.List.{list_any}
use Rattle.sv_lexer.specs.Parameters.{cut_outside, is_blank}
use Rattle.sv_lexer.proofs.commas.filled.Given as goal

-- No part passed so far is blank. The count includes the first of the remaining parts.
abbrev pub invariant-loop-part : goal.invariant-loop-part
invariant-loop-part l = record {
  blank : list_any is_blank (cut_outside [] l.text) ≡ list_any is_blank (cut_outside [] l.rest);
  count : l.count + length (cut_outside [] l.rest) ≡ length (cut_outside [] l.text) + 1;
  within : l.count + length l.rest ≤ length l.text + 1;
}

abbrev pub decreases-loop-part : goal.decreases-loop-part
decreases-loop-part l = length l.rest
