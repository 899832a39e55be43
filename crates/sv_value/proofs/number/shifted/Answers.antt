use Rattle.std.proofs.Common.{◌≡◌, ◌≤◌, ℕ, arith}
use Rattle.sv_value.proofs.Capped.{moved_past_cap}
use Rattle.sv_value.proofs.number.shifted.Goals as goal

some : (n : ℕ) → (n ≡ 0 → ⊥) → 1 ≤ n
some n h = omega (arith, h)

pub returns-then-tens-gt18 : goal.returns-then-tens-gt18
returns-then-tens-gt18 c = moved_past_cap c.args.value c.args.tens (some c.args.value c.if-value-eq0.false) c.if-tens-gt18.true
