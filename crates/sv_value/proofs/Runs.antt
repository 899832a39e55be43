-- The first byte that passes a test, and the bytes before it.
use Rattle.std.proofs.Common.{◌≡◌, ℕ, suc, ◌+◌, ◌<◌, ◌≤◌, Bool, true, false, not, cond, List, [], ◌∷◌, ◌++◌, length, take, refl, arith}
use Rattle.std.specs.List.{position_or_len, list_all}

-- All bytes before the first one that fails a test pass the test.
pub prefix_passes_test : (test : ℕ → Bool) (bytes : List ℕ) → list_all test (take (position_or_len (λ b. not (test b)) bytes) bytes) ≡ true
prefix_passes_test test [] = refl
prefix_passes_test test (b ∷ bytes) = at (test b) refl (prefix_passes_test test bytes)
  where
    at : (t : Bool) → test b ≡ t → list_all test (take (position_or_len (λ x. not (test x)) bytes) bytes) ≡ true
        → list_all test (take (cond (not (not t)) (1 + position_or_len (λ x. not (test x)) bytes) 0) (b ∷ bytes)) ≡ true
    at true is h = let n : 1 + position_or_len (λ x. not (test x)) bytes ≡ suc (position_or_len (λ x. not (test x)) bytes) = omega arith in
        rw (n, is) h
    at false is h = refl

-- The first byte that passes is in the first part if that has one, else in the second part.
pub position_in_first_part : (test : ℕ → Bool) (front behind : List ℕ) → position_or_len test front < length front
    → position_or_len test (front ++ behind) ≡ position_or_len test front
position_in_first_part test [] behind lt = absurd (omega (arith, lt))
position_in_first_part test (b ∷ front) behind lt = at (test b) lt (position_in_first_part test front behind)
  where
    at : (t : Bool) → cond (not t) (1 + position_or_len test front) 0 < suc (length front)
        → (position_or_len test front < length front → position_or_len test (front ++ behind) ≡ position_or_len test front)
        → cond (not t) (1 + position_or_len test (front ++ behind)) 0 ≡ cond (not t) (1 + position_or_len test front) 0
    at true lt h = refl
    at false lt h = let e = h (omega (arith, lt)) in omega (arith, e)

pub position_in_second_part : (test : ℕ → Bool) (front behind : List ℕ) → length front ≤ position_or_len test front
    → position_or_len test (front ++ behind) ≡ length front + position_or_len test behind
position_in_second_part test [] behind ge = omega arith
position_in_second_part test (b ∷ front) behind ge = at (test b) ge (position_in_second_part test front behind)
  where
    at : (t : Bool) → suc (length front) ≤ cond (not t) (1 + position_or_len test front) 0
        → (length front ≤ position_or_len test front → position_or_len test (front ++ behind) ≡ length front + position_or_len test behind)
        → cond (not t) (1 + position_or_len test (front ++ behind)) 0 ≡ suc (length front) + position_or_len test behind
    at true ge h = absurd (omega (arith, ge))
    at false ge h = let e = h (omega (arith, ge)) in omega (arith, e)
