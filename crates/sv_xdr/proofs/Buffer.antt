-- A write into a buffer leaves the bytes before and after it unchanged.
use Rattle.std.proofs.Common.{◌≡◌, ℕ, ◌+◌, ◌≤◌, List, ◌++◌, length, take, drop, sym, ap, ◌∙◌, append_assoc, arith}
use Rattle.std.proofs.lemmas.List.{take_at, drop_at, take-append-drop, length-append, length-take-le}

-- The buffer with `ys` at index `w`, in the place of `k` bytes.
abbrev pub bytes_in_place : ℕ → ℕ → List ℕ → List ℕ → List ℕ
bytes_in_place w k xs ys = take w xs ++ (ys ++ drop k (drop w xs))

front_length : (w : ℕ) (xs ys : List ℕ) → w ≤ length xs → length (take w xs ++ ys) ≡ w + length ys
front_length w xs ys h = omega (arith, length-append (take w xs) ys, length-take-le w xs h)

regroup : (w k : ℕ) (xs ys : List ℕ) → bytes_in_place w k xs ys ≡ (take w xs ++ ys) ++ drop k (drop w xs)
regroup w k xs ys = sym (append_assoc (take w xs) ys (drop k (drop w xs)))

pub text_placed : (w k : ℕ) (xs ys bytes : List ℕ) → w ≤ length xs → ys ≡ bytes
    → take (w + length bytes) (bytes_in_place w k xs ys) ≡ take w xs ++ bytes
text_placed w k xs ys bytes h e =
    ap (take (w + length bytes)) (regroup w k xs ys)
    ∙ take_at (take w xs ++ ys) (drop k (drop w xs)) (w + length bytes) (front_length w xs ys h ∙ ap (λ (l : List ℕ). w + length l) e)
    ∙ ap (λ (l : List ℕ). take w xs ++ l) e

pub rest_placed : (w k : ℕ) (xs ys bytes : List ℕ) → w ≤ length xs → k ≡ length bytes → ys ≡ bytes
    → drop w xs ≡ take (length bytes) (drop w xs) ++ drop (w + length bytes) (bytes_in_place w k xs ys)
rest_placed w k xs ys bytes h size e =
    let behind : drop (w + length bytes) (bytes_in_place w k xs ys) ≡ drop k (drop w xs) =
    ap (drop (w + length bytes)) (regroup w k xs ys)
    ∙ drop_at (take w xs ++ ys) (drop k (drop w xs)) (w + length bytes) (front_length w xs ys h ∙ ap (λ (l : List ℕ). w + length l) e) in
    sym (take-append-drop (length bytes) (drop w xs))
    ∙ ap (λ (l : List ℕ). take (length bytes) (drop w xs) ++ l) (ap (λ (m : ℕ). drop m (drop w xs)) (sym size) ∙ sym behind)
