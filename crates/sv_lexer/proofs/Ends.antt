-- Where the trailing white space of a text begins, found by reading the text once from its front.
use Rattle.std.proofs.Common.{◌≡◌, ℕ, suc, ◌+◌, Bool, true, false, not, ◌&&◌, cond, List, [], ◌∷◌, ◌++◌, take, drop, refl, sym, ap, ◌∙◌, arith}
use Rattle.std.specs.Prelude.{reverse}
use Rattle.std.specs.List.{list_all, position_or_len}
use Rattle.std.proofs.lemmas.Bool.{and_parts}
use Rattle.std.proofs.lemmas.List.{reverse-append}
use Rattle.sv_text.specs.Front.{is_empty}
use Rattle.sv_text.specs.White.{is_white, trim_start, trim_end, trim}
use Rattle.sv_lexer.specs.Unit.{white_size, header_size, header}

pub append_not_empty : (xs : List ℕ) (b : ℕ) → is_empty (xs ++ b ∷ []) ≡ false
append_not_empty [] b = refl
append_not_empty (x ∷ xs) b = refl

none_of : (t : Bool) (xs : List ℕ) → cond (t && false) [] xs ≡ xs
none_of true xs = refl
none_of false xs = refl

-- Removing leading white space, if a byte follows the text.
start_push : (xs : List ℕ) (b : ℕ)
    → trim_start (xs ++ b ∷ []) ≡ cond (is_empty (trim_start xs)) (trim_start (b ∷ [])) (trim_start xs ++ b ∷ [])
start_push [] b = refl
start_push (x ∷ xs) b = at (is_white x) (start_push xs b)
  where
    at : (t : Bool) → trim_start (xs ++ b ∷ []) ≡ cond (is_empty (trim_start xs)) (trim_start (b ∷ [])) (trim_start xs ++ b ∷ [])
        → cond t (trim_start (xs ++ b ∷ [])) (x ∷ (xs ++ b ∷ []))
        ≡ cond (is_empty (cond t (trim_start xs) (x ∷ xs))) (trim_start (b ∷ [])) (cond t (trim_start xs) (x ∷ xs) ++ b ∷ [])
    at true h = h
    at false h = refl

reversed : (b : ℕ) (t : Bool) (xs : List ℕ)
    → reverse (cond (is_empty xs) (cond t [] (b ∷ [])) (xs ++ b ∷ [])) ≡ cond (t && is_empty (reverse xs)) [] (b ∷ reverse xs)
reversed b true [] = refl
reversed b false [] = refl
reversed b true (x ∷ xs) =
    let some : is_empty (reverse (x ∷ xs)) ≡ false = ap is_empty (reverse-append (x ∷ []) xs) ∙ append_not_empty (reverse xs) x in
    reverse-append (x ∷ xs) (b ∷ []) ∙ sym (ap (λ (e : Bool). cond e [] (b ∷ reverse (x ∷ xs))) some)
reversed b false (x ∷ xs) = reverse-append (x ∷ xs) (b ∷ [])

-- Removing trailing white space, if a byte comes before the text.
pub trim_end_cons : (b : ℕ) (xs : List ℕ) → trim_end (b ∷ xs) ≡ cond (is_white b && is_empty (trim_end xs)) [] (b ∷ trim_end xs)
trim_end_cons b xs =
    ap (λ (l : List ℕ). reverse (trim_start l)) (reverse-append (b ∷ []) xs) ∙ ap reverse (start_push (reverse xs) b)
    ∙ reversed b (is_white b) (trim_start (reverse xs))

pub trim_end_of_white : (xs : List ℕ) → list_all is_white xs ≡ true → trim_end xs ≡ []
trim_end_of_white [] e = refl
trim_end_of_white (b ∷ xs) e =
    let parts = and_parts (is_white b) (list_all is_white xs) e in
    trim_end_cons b xs ∙ ap (λ (t : Bool). cond (t && is_empty (trim_end xs)) [] (b ∷ trim_end xs)) parts.0
    ∙ ap (λ (l : List ℕ). cond (is_empty l) [] (b ∷ l)) (trim_end_of_white xs parts.1)

-- Trailing white space doesn't change what is left without it.
pub trim_end_over_white : (xs tail : List ℕ) → list_all is_white tail ≡ true → trim_end (xs ++ tail) ≡ trim_end xs
trim_end_over_white [] tail e = trim_end_of_white tail e
trim_end_over_white (b ∷ xs) tail e =
    trim_end_cons b (xs ++ tail) ∙ ap (λ (l : List ℕ). cond (is_white b && is_empty l) [] (b ∷ l)) (trim_end_over_white xs tail e)
    ∙ sym (trim_end_cons b xs)

-- If the last byte isn't white space, nothing is removed.
pub trim_end_of_non_white : (xs : List ℕ) (b : ℕ) → is_white b ≡ false → trim_end (xs ++ b ∷ []) ≡ xs ++ b ∷ []
trim_end_of_non_white [] b e = trim_end_cons b [] ∙ ap (λ (t : Bool). cond (t && is_empty (trim_end [])) [] (b ∷ trim_end [])) e
trim_end_of_non_white (x ∷ xs) b e =
    trim_end_cons x (xs ++ b ∷ []) ∙ ap (λ (l : List ℕ). cond (is_white x && is_empty l) [] (x ∷ l)) (trim_end_of_non_white xs b e)
    ∙ ap (λ (t : Bool). cond (is_white x && t) [] (x ∷ (xs ++ b ∷ []))) (append_not_empty xs b) ∙ none_of (is_white x) (x ∷ (xs ++ b ∷ []))

end_some : (xs : List ℕ) → list_all is_white xs ≡ false → is_empty (trim_end xs) ≡ false
end_some [] e = let f : true ≡ false = e in absurd cc
end_some (b ∷ xs) e = ap is_empty (trim_end_cons b xs) ∙ at (is_white b) e (end_some xs)
  where
    at : (t : Bool) → (t && list_all is_white xs) ≡ false → (list_all is_white xs ≡ false → is_empty (trim_end xs) ≡ false)
        → is_empty (cond (t && is_empty (trim_end xs)) [] (b ∷ trim_end xs)) ≡ false
    at true e h = ap (λ (s : Bool). is_empty (cond s [] (b ∷ trim_end xs))) (h e)
    at false e h = refl

-- Removing trailing white space keeps the leading one, unless the text is all white space.
pub white_size_of_trim_end : (xs : List ℕ) → list_all is_white xs ≡ false → white_size (trim_end xs) ≡ white_size xs
white_size_of_trim_end [] e = refl
white_size_of_trim_end (b ∷ xs) e = ap white_size (trim_end_cons b xs) ∙ at (is_white b) refl e (white_size_of_trim_end xs)
  where
    at : (t : Bool) → is_white b ≡ t → (t && list_all is_white xs) ≡ false
        → (list_all is_white xs ≡ false → white_size (trim_end xs) ≡ white_size xs)
        → white_size (cond (t && is_empty (trim_end xs)) [] (b ∷ trim_end xs)) ≡ cond t (1 + white_size xs) 0
    at true w e h =
        ap (λ (s : Bool). white_size (cond s [] (b ∷ trim_end xs))) (end_some xs e)
        ∙ ap (λ (t : Bool). cond t (1 + white_size (trim_end xs)) 0) w ∙ ap (λ (n : ℕ). 1 + n) (h e)
    at false w e h = ap (λ (t : Bool). cond t (1 + white_size (trim_end xs)) 0) w

-- The bytes before the first white space, and the others.
abbrev pub before_white : List ℕ → List ℕ
before_white [] = []
before_white (b ∷ xs) = cond (is_white b) [] (b ∷ before_white xs)

abbrev pub from_white_on : List ℕ → List ℕ
from_white_on [] = []
from_white_on (b ∷ xs) = cond (is_white b) (b ∷ xs) (from_white_on xs)

run_taken : (xs : List ℕ) → take (position_or_len is_white xs) xs ≡ before_white xs
run_taken [] = refl
run_taken (b ∷ xs) = at (is_white b) (run_taken xs)
  where
    at : (t : Bool) → take (position_or_len is_white xs) xs ≡ before_white xs
        → take (cond (not t) (1 + position_or_len is_white xs) 0) (b ∷ xs) ≡ cond t [] (b ∷ before_white xs)
    at true h = refl
    at false h =
        let n : 1 + position_or_len is_white xs ≡ suc (position_or_len is_white xs) = omega arith in rw n (ap (λ (l : List ℕ). b ∷ l) h)

run_dropped : (xs : List ℕ) → drop (position_or_len is_white xs) xs ≡ from_white_on xs
run_dropped [] = refl
run_dropped (b ∷ xs) = at (is_white b) (run_dropped xs)
  where
    at : (t : Bool) → drop (position_or_len is_white xs) xs ≡ from_white_on xs
        → drop (cond (not t) (1 + position_or_len is_white xs) 0) (b ∷ xs) ≡ cond t (b ∷ xs) (from_white_on xs)
    at true h = refl
    at false h = let n : 1 + position_or_len is_white xs ≡ suc (position_or_len is_white xs) = omega arith in rw n h

run_trimmed : (xs : List ℕ) → before_white (trim_end xs) ≡ before_white xs
run_trimmed [] = refl
run_trimmed (b ∷ xs) = ap before_white (trim_end_cons b xs) ∙ at (is_white b) refl (trim_end xs) (run_trimmed xs)
  where
    at : (t : Bool) → is_white b ≡ t → (l : List ℕ) → before_white l ≡ before_white xs
        → before_white (cond (t && is_empty l) [] (b ∷ l)) ≡ cond t [] (b ∷ before_white xs)
    at true w [] h = refl
    at true w (x ∷ l) h = ap (λ (t : Bool). cond t [] (b ∷ before_white (x ∷ l))) w
    at false w l h = ap (λ (t : Bool). cond t [] (b ∷ before_white l)) w ∙ ap (λ (r : List ℕ). b ∷ r) h

begins_white : (t : Bool) (b : ℕ) (l : List ℕ) → is_white b ≡ true → from_white_on (cond t [] (b ∷ l)) ≡ cond t [] (b ∷ l)
begins_white true b l w = refl
begins_white false b l w = ap (λ (t : Bool). cond t (b ∷ l) (from_white_on l)) w

behind_trimmed : (xs : List ℕ) → from_white_on (trim_end xs) ≡ trim_end (from_white_on xs)
behind_trimmed [] = refl
behind_trimmed (b ∷ xs) = at (is_white b) refl (behind_trimmed xs)
  where
    at : (t : Bool) → is_white b ≡ t → from_white_on (trim_end xs) ≡ trim_end (from_white_on xs)
        → from_white_on (trim_end (b ∷ xs)) ≡ trim_end (cond t (b ∷ xs) (from_white_on xs))
    at true w h =
        ap from_white_on (trim_end_cons b xs) ∙ begins_white (is_white b && is_empty (trim_end xs)) b (trim_end xs) w
        ∙ sym (trim_end_cons b xs)
    at false w h =
        ap from_white_on (trim_end_cons b xs) ∙ ap (λ (t : Bool). from_white_on (cond (t && is_empty (trim_end xs)) [] (b ∷ trim_end xs))) w
        ∙ ap (λ (t : Bool). cond t (b ∷ trim_end xs) (from_white_on (trim_end xs))) w ∙ h

-- The header of a unit, and what follows it.
pub header_is : (unit : List ℕ) → header unit ≡ before_white (trim_start unit)
header_is unit = run_taken (trim unit) ∙ run_trimmed (trim_start unit)

pub behind_is : (unit : List ℕ) → drop (header_size unit) (trim unit) ≡ trim_end (from_white_on (trim_start unit))
behind_is unit = run_dropped (trim unit) ∙ behind_trimmed (trim_start unit)
