use Rattle.std.proofs.Common.{◌≡◌, ◌≤◌, length, min}
use Rattle.std.specs.Str.Parse.{digits_value_after}
use Rattle.sv_value.proofs.digits.value_after.Given as goal

-- The capped value so far and the remaining digits give the capped value of all digits.
abbrev pub invariant-loop-rest : goal.invariant-loop-rest
invariant-loop-rest l = record {
  value : min (digits_value_after l.base l.front l.digits) 1000000000000000000
      ≡ min (digits_value_after l.base l.value l.rest) 1000000000000000000;
  most : l.value ≤ 1000000000000000000;
}

abbrev pub decreases-loop-rest : goal.decreases-loop-rest
decreases-loop-rest l = length l.rest
