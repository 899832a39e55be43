-- It can be computed whether a transition of a condition bit passes the register's filter.
use Rattle.std.proofs.Common.{◌≡◌, ℕ, Bool, true, false, List, refl, ◌⊎◌, arith, eq-eqb}
use Rattle.std.specs.Prelude.{◌↔◌, not, ◌&&◌, ◌||◌}
use Rattle.std.specs.Int.{bit_at}
use Rattle.std.proofs.lemmas.Bool.{eqb-true, eqb-false, ne_eqb, not-true}
use Rattle.std.proofs.lemmas.Nat.Bits.{bit_at-lt}
use Rattle.sv_logs.proofs.Since.{both_true, either_true}
use Rattle.sv_status.specs.declared.register_name.RegisterName.{RegisterName}
use Rattle.sv_layers.specs.Act.{Act}
use Rattle.sv_layers.specs.Condition.{condition}
use Rattle.sv_layers.specs.Filter.{has_bit, passes, leaves}
use Rattle.sv_layers.proofs.Either.{either_congruent}

-- At the newest act a bit of the condition passes its filter.
abbrev pub Passes : RegisterName → ℕ → List Act → Type 0
Passes name k log = passes (condition name) name k log ≡ true

-- The newest act doesn't clear the event register.
abbrev pub NotCleared : RegisterName → List Act → Type 0
NotCleared name log = leaves name log ≡ true

pub has_bit_is_one : (word k : ℕ) → (has_bit word k ≡ true) ↔ (bit_at word k ≡ 1)
has_bit_is_one word k = (eqb-true (bit_at word k) 1, eq-eqb (bit_at word k) 1)

lacks_bit_is_zero : (word k : ℕ) → (not (has_bit word k) ≡ true) ↔ (bit_at word k ≡ 0)
lacks_bit_is_zero word k = (
  (λ h. let ne = eqb-false (bit_at word k) 1 (not-true (has_bit word k) h) in let small = bit_at-lt word k in omega (arith, ne, small)),
  (λ e. rw (ne_eqb (bit_at word k) 1 (λ one. absurd (omega (arith, e, one)))) refl),
)

-- Whether bit k changes from `old` to `new`, and the filter `up` or `down` passes the change.
abbrev pub changes : ℕ → ℕ → ℕ → ℕ → ℕ → Bool
changes k old new up down = (not (has_bit old k) && (has_bit new k && has_bit up k))
    || (has_bit old k && (not (has_bit new k) && has_bit down k))

rises_is : (k old new up : ℕ) → ((not (has_bit old k) && (has_bit new k && has_bit up k)) ≡ true)
    ↔ ((bit_at old k ≡ 0) × (bit_at new k ≡ 1) × (bit_at up k ≡ 1))
rises_is k old new up =
    let first = both_true (not (has_bit old k)) (has_bit new k && has_bit up k) in
    let second = both_true (has_bit new k) (has_bit up k) in (
      (λ e.
          let h = first.0 e in
          let both = second.0 h.1 in
          ((lacks_bit_is_zero old k).0 h.0, (has_bit_is_one new k).0 both.0, (has_bit_is_one up k).0 both.1)),
      (λ h. first.1 ((lacks_bit_is_zero old k).1 h.0, second.1 ((has_bit_is_one new k).1 h.1, (has_bit_is_one up k).1 h.2))),
    )

falls_is : (k old new down : ℕ) → ((has_bit old k && (not (has_bit new k) && has_bit down k)) ≡ true)
    ↔ ((bit_at old k ≡ 1) × (bit_at new k ≡ 0) × (bit_at down k ≡ 1))
falls_is k old new down =
    let first = both_true (has_bit old k) (not (has_bit new k) && has_bit down k) in
    let second = both_true (not (has_bit new k)) (has_bit down k) in (
      (λ e.
          let h = first.0 e in
          let both = second.0 h.1 in
          ((has_bit_is_one old k).0 h.0, (lacks_bit_is_zero new k).0 both.0, (has_bit_is_one down k).0 both.1)),
      (λ h. first.1 ((has_bit_is_one old k).1 h.0, second.1 ((lacks_bit_is_zero new k).1 h.1, (has_bit_is_one down k).1 h.2))),
    )

pub changes_is : (k old new up down : ℕ) → (changes k old new up down ≡ true)
    ↔ (((bit_at old k ≡ 0) × (bit_at new k ≡ 1) × (bit_at up k ≡ 1)) ⊎ ((bit_at old k ≡ 1) × (bit_at new k ≡ 0) × (bit_at down k ≡ 1)))
changes_is k old new up down =
    either_congruent (
    either_true (not (has_bit old k) && (has_bit new k && has_bit up k)) (has_bit old k && (not (has_bit new k) && has_bit down k))
    )
    (rises_is k old new up) (falls_is k old new down)

-- A bit that doesn't change passes no filter.
pub unchanged_bit_passes_none : (b r f : Bool) → ((not b && (b && r)) || (b && (not b && f))) ≡ false
unchanged_bit_passes_none true r f = refl
unchanged_bit_passes_none false r f = refl
