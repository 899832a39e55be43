-- The first position of an element in a list, or the list's length if the element isn't in it.
use Rattle.std.proofs.Common.{◌≡◌, ℕ, ◌≤◌, Bool, not, List, length, refl, inl, inr, unwrap_or, arith}
use Rattle.std.specs.List.{position, position_or_len}
use Rattle.std.proofs.lemmas.Bool.{cases_lt, lt-ltb, le-ltb}
use Rattle.std.proofs.lemmas.List.Sums.{prefix_len-le-length}

pub position_within_length : (p : ℕ → Bool) (bytes : List ℕ) → position_or_len p bytes ≤ length bytes
position_within_length p bytes = prefix_len-le-length (λ b. not (p b)) bytes

pub position_or_length : (p : ℕ → Bool) (bytes : List ℕ) → unwrap_or (position p bytes) (length bytes) ≡ position_or_len p bytes
position_or_length p bytes =
    let le = position_within_length p bytes in
    elim (cases_lt (position_or_len p bytes) (length bytes)) [
      | inl lt ↦ rw (lt-ltb (position_or_len p bytes) (length bytes) lt) refl
      | inr ge ↦ rw (le-ltb (position_or_len p bytes) (length bytes) ge) (omega arith)
    ]
