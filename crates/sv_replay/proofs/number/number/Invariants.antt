use Rattle.std.proofs.Common.{◌≡◌, ◌≤◌, drop}
use Rattle.sv_replay.specs.Reading.{number_at, digits_onto}
use Rattle.sv_replay.proofs.number.number.Given as goal

-- The value so far, continued with the remaining digits, is the number that all digits spell.
abbrev pub invariant-loop-digit : goal.invariant-loop-digit
invariant-loop-digit l = (digits_onto l.most l.value (drop l.digit-index l.digits) ≡ number_at l.most l.digits) × (l.value ≤ l.most)
