-- What is kept of waits, after one more.
use Rattle.std.proofs.Common.{◌≡◌, ℕ, ◌-◌, Bool, true, false, List, ◌∷◌, refl, ap, ◌∙◌, arith}
use Rattle.std.specs.Prelude.{zero, suc}
use Rattle.sv_pace.specs.Pace.{Wait, Missed, Slept, Kept, StandsFor, longer, is_any, misses, pause_after, after_wait}

-- looking found nothing
pub one_missed : (swept worked pause left : ℕ) (missed : Bool) (next : ℕ) (waits : List Wait)
    → StandsFor (record { swept = swept; worked = worked; missed = missed; pause = pause; left = left }) waits → next ≡ longer missed pause
    → StandsFor (record { swept = swept; worked = worked; missed = true; pause = next; left = next }) (Missed ∷ waits)
one_missed swept worked pause left missed next waits stands is =
    let same : next ≡ pause_after (suc (misses waits)) =
    is ∙ ap (λ (b : Bool). longer b pause) stands.missed ∙ ap (λ (p : ℕ). longer (is_any (misses waits)) p) stands.pause in
    record { missed = refl; pause = same; left = omega (arith, same) }

-- the server slept at once
pub one_slept : (swept worked pause left : ℕ) (missed : Bool) (next : ℕ) (waits : List Wait)
    → StandsFor (record { swept = swept; worked = worked; missed = missed; pause = pause; left = left }) waits → next ≡ left - 1
    → StandsFor (record { swept = swept; worked = worked; missed = missed; pause = pause; left = next }) (Slept ∷ waits)
one_slept swept worked pause left missed next waits stands is =
    record { missed = stands.missed; pause = stands.pause; left = is ∙ ap (λ (n : ℕ). n - 1) stands.left ∙ omega arith }

-- it looked, so a look's outcome is kept
pub some_look : (looks : ℕ) (found : Bool) (waits : List Wait) (kept : Kept) → (looks ≡ 0 → ⊥)
    → StandsFor kept (after_wait 1 found waits) → StandsFor kept (after_wait looks found waits)
some_look zero found waits kept any stands = absurd (any refl)
some_look (suc n) true waits kept any stands = stands
some_look (suc n) false waits kept any stands = stands
