-- Splitting text at a separator: the first part, and the parts after it.
use Rattle.std.proofs.Common.{◌≡◌, ℕ, suc, ◌+◌, ◌<◌, ◌≤◌, ◌==◌, Bool, true, false, not, cond, List, [], ◌∷◌, ◌++◌, length, take, drop, refl, ap, ◌∙◌, inl, inr, nat_lt, arith}
use Rattle.std.specs.List.{position_or_len, onto_first as onto}
use Rattle.std.proofs.lemmas.Bool.{cases_lt, lt-ltb, le-ltb, eqb-true}
use Rattle.std.proofs.lemmas.List.{take_all}
use Rattle.sv_text.specs.Cut.{cut_at}

-- The position of the first separator.
abbrev pub part_size : ℕ → List ℕ → ℕ
part_size separator bytes = position_or_len (λ b. b == separator) bytes

-- The first part has `n` of the `size` bytes, and the other parts follow a separator.
abbrev pub parts_at : ℕ → ℕ → ℕ → List ℕ → List (List ℕ)
parts_at separator n size bytes = take n bytes ∷ cond (nat_lt n size) (cut_at separator (drop (n + 1) bytes)) []

parts_at_cons : (s b n m : ℕ) (bytes : List ℕ) → m ≡ suc n
    → onto b (parts_at s n (length bytes) bytes) ≡ parts_at s m (suc (length bytes)) (b ∷ bytes)
parts_at_cons s b n m bytes e =
    elim (cases_lt n (length bytes)) [
      | inl lt ↦
          let next : suc n + 1 ≡ suc (n + 1) = omega arith in
          rw (e, lt-ltb n (length bytes) lt, lt-ltb (suc n) (suc (length bytes)) (omega arith), next) refl
      | inr ge ↦ rw (e, le-ltb n (length bytes) ge, le-ltb (suc n) (suc (length bytes)) (omega arith)) refl
    ]

-- The first part, and the parts after it.
pub cut_at_first_separator : (s : ℕ) (bytes : List ℕ) → cut_at s bytes ≡ parts_at s (part_size s bytes) (length bytes) bytes
cut_at_first_separator s [] = refl
cut_at_first_separator s (b ∷ bytes) = at (b == s) (cut_at_first_separator s bytes)
  where
    at : (t : Bool) → cut_at s bytes ≡ parts_at s (part_size s bytes) (length bytes) bytes
        → cond t ([] ∷ cut_at s bytes) (onto b (cut_at s bytes))
        ≡ parts_at s (cond (not t) (1 + part_size s bytes) 0) (suc (length bytes)) (b ∷ bytes)
    at true h = rw (lt-ltb 0 (suc (length bytes)) (omega arith)) refl
    at false h = ap (onto b) h ∙ parts_at_cons s b (part_size s bytes) (1 + part_size s bytes) bytes (omega arith)

-- If a separator ends the first part, the parts after it are cut on their own.
pub first_part_is_cut : (s n : ℕ) (bytes : List ℕ) → n ≡ part_size s bytes → n < length bytes
    → cut_at s bytes ≡ take n bytes ∷ cut_at s (drop (n + 1) bytes)
first_part_is_cut s n bytes e lt = cut_at_first_separator s bytes ∙ rw (← e, lt-ltb n (length bytes) lt) refl

-- Without a separator, the whole text is one part.
pub whole_text_is_part : (s n : ℕ) (bytes : List ℕ) → n ≡ part_size s bytes → length bytes ≤ n → cut_at s bytes ≡ bytes ∷ []
whole_text_is_part s n bytes e ge = cut_at_first_separator s bytes ∙ rw (← e, le-ltb n (length bytes) ge, take_all n bytes ge) refl

-- The first part, a separator and the rest are the whole text.
pub first_part_rejoins : (s n : ℕ) (bytes : List ℕ) → n ≡ part_size s bytes → n < length bytes
    → bytes ≡ take n bytes ++ s ∷ drop (n + 1) bytes
first_part_rejoins s n [] e lt = absurd (omega arith)
first_part_rejoins s n (b ∷ bytes) e lt = at (b == s) refl e lt (first_part_rejoins s (part_size s bytes) bytes refl)
  where
    at : (t : Bool) → (b == s) ≡ t → n ≡ cond (not t) (1 + part_size s bytes) 0 → n < suc (length bytes)
        → (part_size s bytes < length bytes → bytes ≡ take (part_size s bytes) bytes ++ s ∷ drop (part_size s bytes + 1) bytes)
        → b ∷ bytes ≡ take n (b ∷ bytes) ++ s ∷ drop (n + 1) (b ∷ bytes)
    at true is e lt h = rw e (ap (λ x. x ∷ bytes) (eqb-true b s is))
    at false is e lt h =
        let size : n ≡ suc (part_size s bytes) = omega (arith, e) in
        let next : n + 1 ≡ suc (part_size s bytes + 1) = omega (arith, e) in
        rw (next, size) (ap (λ xs. b ∷ xs) (h (omega (arith, e))))

pub at_least_one_part : (s : ℕ) (bytes : List ℕ) → 1 ≤ length (cut_at s bytes)
at_least_one_part s bytes = rw (cut_at_first_separator s bytes) (omega arith)
