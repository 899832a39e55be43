-- Words that are sums of single bits: which bits are set.
use Rattle.std.proofs.Common.{◌≡◌, ℕ, Bool, true, false, ◌+◌, ◌-◌, ◌^◌, ◌<◌, ◌≤◌, ap, sym, ◌∙◌, ◌⊎◌, inl, inr, arith, refl, zero-add, one-mul}
use Rattle.std.specs.Prelude.{◌↔◌}
use Rattle.std.specs.Int.{bit_at}
use Rattle.std.proofs.lemmas.Bool.{cases_eq, cases_lt}
use Rattle.std.proofs.lemmas.Nat.Bits.{bit_at-pow_same, bit_at-pow_other, bit_at-zero, bit_at_above, bit_at_cat_low, bit_at_cat_high}
use Rattle.sv_scan.specs.Condition.{bit}
use Rattle.sv_layers.proofs.Either.{iff_refl, either_congruent}

pub bit_of : (place : ℕ) (b : Bool) (k : ℕ) → (bit_at (bit place b) k ≡ 1) ↔ ((k ≡ place) × (b ≡ true))
bit_of place true k = (
  (λ h. elim (cases_eq k place) [
    | inl e ↦ (e, refl)
    | inr ne ↦ absurd (let none = bit_at-pow_other place k ne in omega arith)
  ]),
  (λ h. ap (bit_at (2 ^ place)) h.0 ∙ bit_at-pow_same place),
)
bit_of place false k = ((λ h. absurd (let none = bit_at-zero k in omega arith)), (λ h. absurd (let none = h.1 in cc)))

pub bit_le : (place : ℕ) (b : Bool) → bit place b ≤ 2 ^ place
bit_le place true = omega arith
bit_le place false = omega arith

-- Adding a bit above a word sets this bit and keeps the bits of the word.
above_word : (place w k : ℕ) → w < 2 ^ place → (bit_at (2 ^ place + w) k ≡ 1) ↔ ((k ≡ place) ⊎ (bit_at w k ≡ 1))
above_word place w k fits =
    let once = one-mul (2 ^ place) in
    elim (cases_lt k place) [
      | inl lt ↦
          let low = rw once at (bit_at_cat_low 1 place w k lt) in
          ((λ h. inr (sym low ∙ h)), (λ h. elim h [ inl e ↦ absurd (omega arith) | inr other ↦ low ∙ other ]))
      | inr le ↦
          let high = rw once at (bit_at_cat_high 1 place w k fits le) in
          let none = bit_at_above w place k fits le in (
            (λ h. elim (cases_eq k place) [
              | inl e ↦ inl e
              | inr ne ↦ absurd (let zero = bit_at-pow_other 0 (k - place) (omega arith) in omega arith)
            ]),
            (λ h. elim h [
              | inl e ↦ high ∙ ap (bit_at 1) (let none : k - place ≡ 0 = omega arith in none)
              | inr other ↦ absurd (omega arith)
            ]),
          )
    ]

pub top_bit : (place : ℕ) (b : Bool) (w k : ℕ) → w < 2 ^ place
    → (bit_at (bit place b + w) k ≡ 1) ↔ (((k ≡ place) × (b ≡ true)) ⊎ (bit_at w k ≡ 1))
top_bit place true w k fits = either_congruent (above_word place w k fits) ((λ e. (e, refl)), (λ h. h.0)) iff_refl
top_bit place false w k fits =
    rw (zero-add w) ((λ h. inr h), (λ h. elim h [ inl e ↦ absurd (let none = e.1 in cc) | inr other ↦ other ]))
