use Rattle.std.proofs.Common.{◌≡◌, ℕ, ◌-◌, ◌*◌, ◌≤◌, inl, inr, arith}
use Rattle.std.specs.Prelude.{◌⊎◌}
use Rattle.sv_net.proofs.sleep_time.sleep_time.Goals as goal

pub returns-then-is_idle : goal.returns-then-is_idle
returns-then-is_idle g c = (c.if-left-gt-FEW.true, c.is_played.ensures.0 c.if-is_played.true, c.is_idle.ensures c.if-is_idle.true)

at_most : {Idle : Type 0} (nanos rest ticks since : ℕ) → nanos ≡ rest → rest ≡ ticks * 1000000 - since
    → (ticks ≡ 1) ⊎ ((ticks ≤ 100) × Idle) → (nanos ≤ 1 * 1000000 - since) ⊎ ((nanos ≤ 100 * 1000000 - since) × Idle)
at_most nanos rest ticks since is by (inl one) = inl (omega (arith, is, by, one))
at_most nanos rest ticks since is by (inr (many, idle)) = inr (omega (arith, is, by, many), idle)

pub returns : goal.returns
returns g c = at_most _ _ _ _ c.from_nanos.ensures c.sleep_time.ensures c.longest.ensures
