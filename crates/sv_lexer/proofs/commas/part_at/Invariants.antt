use Rattle.std.proofs.Common.{◌≡◌, ◌-◌, ◌≤◌, [], drop}
use Rattle.sv_lexer.specs.Token.{StandsAt}
use Rattle.sv_lexer.specs.Parameters.{cut_outside, part_place}
use Rattle.sv_lexer.proofs.commas.part_at.Given as goal

-- The remaining text consists of the parts after those that were passed.
abbrev pub invariant-loop-passed : goal.invariant-loop-passed
invariant-loop-passed l = record {
  left : drop l.passed (cut_outside [] l.text) ≡ cut_outside [] l.rest;
  place : l.place ≡ part_place l.passed (cut_outside [] l.text);
  stands : StandsAt l.text l.place l.rest;
  few : l.passed ≤ l.index;
}

abbrev pub decreases-loop-passed : goal.decreases-loop-passed
decreases-loop-passed l = l.index - l.passed
