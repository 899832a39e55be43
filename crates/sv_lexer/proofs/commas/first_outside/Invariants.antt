use Rattle.std.proofs.Common.{◌≡◌, ◌+◌, false, length, drop}
use Rattle.sv_lexer.specs.Parameters.{first_size}
use Rattle.sv_lexer.proofs.commas.first_outside.Given as goal

-- The first part has the bytes that were passed, and then those of the rest's first part.
abbrev pub invariant-loop-rest : goal.invariant-loop-rest
invariant-loop-rest l = record {
  size : first_size false l.text ≡ l.place + first_size l.inside l.rest;
  left : l.rest ≡ drop l.place l.text;
  within : l.place + length l.rest ≡ length l.text;
}

abbrev pub decreases-loop-rest : goal.decreases-loop-rest
decreases-loop-rest l = length l.rest
