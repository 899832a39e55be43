-- Single bits of words under AND, OR and XOR.
use Rattle.std.proofs.Common.{◌≡◌, ◌≢◌, ℕ, zero, suc, ◌+◌, ◌<◌, ◌≤◌, ◌%◌, ◌/◌, true, eqb, refl, sym, ap, ◌∙◌, ◌⊎◌, inl, inr, arith, bit_and, bit_or, eq-eqb}
use Rattle.std.specs.Prelude.{◌↔◌, not, min, max, bit_xor}
use Rattle.std.specs.Int.{bit_at}
use Rattle.std.proofs.lemmas.Bool.{cases_eq, cases_lt, ne_eqb}
use Rattle.sv_logs.proofs.Since.{iff_transitive}
use Rattle.std.proofs.lemmas.Nat.Bits.{bit_at_and, bit_at_or, bit_at_xor, bit_at-lt, bit_at-zero, bit_at_lowest, bit_at-suc, bit_at_above}

-- A word that isn't 0 has a bit set.
bit_within : (most w : ℕ) → w ≤ most → w ≢ 0 → (k : ℕ) × (bit_at w k ≡ 1)
bit_within zero w le ne = absurd (ne (omega arith))
bit_within (suc most) w le ne = elim (cases_eq (w % 2) 1) [
  | inl odd ↦ (0, bit_at_lowest w ∙ odd)
  | inr even ↦
      let rest = bit_within most (w / 2) (grind arith) (λ e. even (grind arith)) in
      (suc rest.0, bit_at-suc w rest.0 ∙ rest.1)
]

pub some_bit : (w : ℕ) → w ≢ 0 → (k : ℕ) × (bit_at w k ≡ 1)
some_bit w ne = bit_within w w (omega arith) ne

pub no_bit : (w k : ℕ) → bit_at w k ≡ 1 → w ≢ 0
no_bit w k h e = absurd (omega (arith, h, ap (λ (n : ℕ). bit_at n k) e, bit_at-zero k))

both_of : (a b : ℕ) → a < 2 → b < 2 → min a b ≡ 1 → (a ≡ 1) × (b ≡ 1)
both_of a b p q h = (grind arith, grind arith)

pub bit_of_and : (a b k : ℕ) → (bit_at (bit_and a b) k ≡ 1) ↔ ((bit_at a k ≡ 1) × (bit_at b k ≡ 1))
bit_of_and a b k = (
  (λ h. both_of (bit_at a k) (bit_at b k) (bit_at-lt a k) (bit_at-lt b k) (sym (bit_at_and a b k) ∙ h)),
  (λ h. bit_at_and a b k ∙ ap (λ (n : ℕ). min n (bit_at b k)) h.0 ∙ ap (min 1) h.1),
)

pub not_zero : (w : ℕ) → (not (eqb w 0) ≡ true) ↔ ((k : ℕ) × (bit_at w k ≡ 1))
not_zero w = (
  (λ h. some_bit w (λ e. let yes : eqb w 0 ≡ true = eq-eqb w 0 e in absurd cc)),
  (λ h. ap not (ne_eqb w 0 (no_bit w h.0 h.1))),
)

pub zero_has_no_bit : (k : ℕ) (P : Type 0) → (P → ⊥) → (bit_at 0 k ≡ 1) ↔ P
zero_has_no_bit k P none = ((λ h. absurd (no_bit 0 k h refl)), (λ p. absurd (none p)))

-- Two words have a bit in common exactly if their and isn't 0.
pub some_common_bit : (a b : ℕ) → (not (eqb (bit_and a b) 0) ≡ true) ↔ ((k : ℕ) × (bit_at a k ≡ 1) × (bit_at b k ≡ 1))
some_common_bit a b = (
  (λ h. let some = (not_zero (bit_and a b)).0 h in let both = (bit_of_and a b some.0).0 some.1 in (some.0, both.0, both.1)),
  (λ h. (not_zero (bit_and a b)).1 (h.0, (bit_of_and a b h.0).1 (h.1, h.2))),
)

-- The same bits are enabled under equal masks.
pub same_enabled : {P Q : ℕ → Type 0} (mask other : ℕ) → mask ≡ other → ((k : ℕ) → P k ↔ Q k)
    → ((k : ℕ) × P k × (bit_at mask k ≡ 1)) ↔ ((k : ℕ) × Q k × (bit_at other k ≡ 1))
same_enabled mask other same stands = (
  (λ s. (s.0, (stands s.0).0 s.1, ap (λ (w : ℕ). bit_at w s.0) (sym same) ∙ s.2)),
  (λ s. (s.0, (stands s.0).1 s.1, ap (λ (w : ℕ). bit_at w s.0) same ∙ s.2)),
)

-- Some bit is set and enabled exactly if the and of both words isn't 0.
pub some_enabled_bit : {P : ℕ → Type 0} (event mask other : ℕ) → mask ≡ other → ((k : ℕ) → (bit_at event k ≡ 1) ↔ P k)
    → (not (eqb (bit_and event mask) 0) ≡ true) ↔ ((k : ℕ) × P k × (bit_at other k ≡ 1))
some_enabled_bit event mask other same stands = iff_transitive (some_common_bit event mask) (same_enabled mask other same stands)

either_of : (a b : ℕ) → a < 2 → b < 2 → max a b ≡ 1 → (a ≡ 1) ⊎ (b ≡ 1)
either_of a b p q h = elim (cases_eq a 1) [ inl e ↦ inl e | inr ne ↦ inr (grind arith) ]

pub bit_of_or : (a b k : ℕ) → (bit_at (bit_or a b) k ≡ 1) ↔ ((bit_at a k ≡ 1) ⊎ (bit_at b k ≡ 1))
bit_of_or a b k = (
  (λ h. either_of (bit_at a k) (bit_at b k) (bit_at-lt a k) (bit_at-lt b k) (sym (bit_at_or a b k) ∙ h)),
  (λ h. elim h [
    | inl e ↦ bit_at_or a b k ∙ (let l = bit_at-lt a k in let m = bit_at-lt b k in grind arith)
    | inr e ↦
        bit_at_or a b k ∙ (let l = bit_at-lt a k in let m = bit_at-lt b k in grind arith)
  ]),
)

-- The bits that rise, and those that fall, from one word to the next.
changed_of : (a b : ℕ) → a < 2 → b < 2 → (a + b) % 2 ≡ 1 → b ≡ 1 → a ≡ 0
changed_of a b p q h e = grind arith

pub bit_rises : (a b k : ℕ) → (bit_at (bit_and (bit_xor a b) b) k ≡ 1) ↔ ((bit_at a k ≡ 0) × (bit_at b k ≡ 1))
bit_rises a b k = (
  (λ h. let both = (bit_of_and (bit_xor a b) b k).0 h in
      (changed_of (bit_at a k) (bit_at b k) (bit_at-lt a k) (bit_at-lt b k) (sym (bit_at_xor a b k) ∙ both.0) both.1, both.1)),
  (λ h. (bit_of_and (bit_xor a b) b k).1 (
    bit_at_xor a b k ∙ ap (λ (n : ℕ). (n + bit_at b k) % 2) h.0 ∙ ap (λ (n : ℕ). (0 + n) % 2) h.1,
    h.1,
  )),
)

pub bit_falls : (a b k : ℕ) → (bit_at (bit_and (bit_xor a b) a) k ≡ 1) ↔ ((bit_at a k ≡ 1) × (bit_at b k ≡ 0))
bit_falls a b k = (
  (λ h. let both = (bit_of_and (bit_xor a b) a k).0 h in
      let sum : (bit_at b k + bit_at a k) % 2 ≡ 1 = (let x = sym (bit_at_xor a b k) ∙ both.0 in grind arith) in
      (both.1, changed_of (bit_at b k) (bit_at a k) (bit_at-lt b k) (bit_at-lt a k) sum both.1)),
  (λ h. (bit_of_and (bit_xor a b) a k).1 (
    bit_at_xor a b k ∙ ap (λ (n : ℕ). (n + bit_at b k) % 2) h.0 ∙ ap (λ (n : ℕ). (1 + n) % 2) h.1,
    h.0,
  )),
)

pub within_byte : (w k : ℕ) → w < 256 → bit_at w k ≡ 1 → k < 8
within_byte w k fits h = elim (cases_lt k 8) [ inl lt ↦ lt | inr le ↦ absurd (let none = bit_at_above w 8 k fits le in omega arith) ]

others_of_mask : (k : ℕ) → k < 8 → k ≢ 6 → bit_at 191 k ≡ 1
others_of_mask (suc (suc (suc (suc (suc (suc zero)))))) lt ne = absurd (ne refl)
others_of_mask (suc (suc (suc (suc (suc (suc (suc (suc k)))))))) lt ne = absurd (omega arith)
others_of_mask _ lt ne = refl

-- Masking a byte with 191 clears bit 6 only.
pub without_six : (w k : ℕ) → w < 256 → (bit_at (bit_and w 191) k ≡ 1) ↔ ((k ≢ 6) × (bit_at w k ≡ 1))
without_six w k fits = (
  (λ h. let both = (bit_of_and w 191 k).0 h in ((λ e. let six : bit_at 191 k ≡ 0 = ap (bit_at 191) e in absurd (omega arith)), both.0)),
  (λ h. (bit_of_and w 191 k).1 (h.1, others_of_mask k (within_byte w k fits h.1) h.0)),
)

-- The summary bits that are set and enabled: bit 6 isn't one of them.
pub asking_bit : (a b k : ℕ) → a < 256 → (bit_at (bit_and (bit_and a b) 191) k ≡ 1) ↔ ((k ≢ 6) × (bit_at a k ≡ 1) × (bit_at b k ≡ 1))
asking_bit a b k fits = (
  (λ h.
      let outer = (bit_of_and (bit_and a b) 191 k).0 h in
      let inner = (bit_of_and a b k).0 outer.0 in
      ((λ e. let six : bit_at 191 k ≡ 0 = ap (bit_at 191) e in absurd (omega arith)), inner.0, inner.1)),
  (λ h. (bit_of_and (bit_and a b) 191 k).1 ((bit_of_and a b k).1 (h.1, h.2), others_of_mask k (within_byte a k fits h.1) h.0)),
)
