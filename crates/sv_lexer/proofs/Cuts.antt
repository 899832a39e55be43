-- Text cut at the commas outside parentheses, one part after the other.
use Rattle.std.proofs.Common.{◌≡◌, ℕ, zero, suc, ◌+◌, ◌<◌, ◌≤◌, ◌==◌, ◌&&◌, Bool, true, false, not, cond, List, [], ◌∷◌, ◌++◌, length, take, drop, refl, ap, ◌∙◌, arith}
use Rattle.std.proofs.lemmas.Bool.{eqb-true}
use Rattle.std.specs.List.{sum_by, onto_first as onto}
use Rattle.std.proofs.lemmas.List.Sums.{sum_by-append}
use Rattle.sv_lexer.specs.Parameters.{cut_outside, is_open, opens, first_size, part_place}

-- The bytes before a text matter only by whether a parenthesis is open after them.
cut_depends_on_open : (a b bytes : List ℕ) → is_open a ≡ is_open b → cut_outside a bytes ≡ cut_outside b bytes
cut_depends_on_open a b [] e = refl
cut_depends_on_open a b (x ∷ bytes) e =
    let next : is_open (x ∷ a) ≡ is_open (x ∷ b) = ap (λ o. opens o x) e in
    rw (e, cut_depends_on_open (x ∷ a) (x ∷ b) bytes next) refl

-- A part that ends at a comma stays one if a byte is put in front of it.
step_ended : (b n k : ℕ) (bytes : List ℕ) (cut : List (List ℕ)) → n ≡ 1 + k → cut ≡ take k bytes ∷ cut_outside [] (drop (k + 1) bytes)
    → onto b cut ≡ take n (b ∷ bytes) ∷ cut_outside [] (drop (n + 1) (b ∷ bytes))
step_ended b n k bytes cut e h =
    let size : n ≡ suc k = omega (arith, e) in
    let next : n + 1 ≡ suc (k + 1) = omega (arith, e) in
    rw (h, next, size) refl

-- If a comma ends the first part, the part is cut off there, and the rest is cut on its own.
pub cut_ended : (before bytes : List ℕ) (n : ℕ) → n ≡ first_size (is_open before) bytes → n < length bytes
    → cut_outside before bytes ≡ take n bytes ∷ cut_outside [] (drop (n + 1) bytes)
cut_ended before [] n e lt = absurd (omega arith)
cut_ended before (b ∷ bytes) n e lt = at (is_open before) refl (b == 44) refl e
    (cut_ended (b ∷ before) bytes (first_size (opens (is_open before) b) bytes) refl)
  where
    at : (inside : Bool) → is_open before ≡ inside → (comma : Bool) → (b == 44) ≡ comma
        → n ≡ cond (comma && not inside) 0 (1 + first_size (opens (is_open before) b) bytes)
        → (first_size (opens (is_open before) b) bytes < length bytes
        → cut_outside (b ∷ before) bytes ≡ take (first_size (opens (is_open before) b) bytes) bytes
        ∷ cut_outside [] (drop (first_size (opens (is_open before) b) bytes + 1) bytes))
        → cond (comma && not inside) ([] ∷ cut_outside (b ∷ before) bytes) (onto b (cut_outside (b ∷ before) bytes)) ≡ take n (b ∷ bytes)
        ∷ cut_outside [] (drop (n + 1) (b ∷ bytes))
    at false o true c e h =
        let is : b ≡ 44 = eqb-true b 44 c in
        let out : is_open (b ∷ before) ≡ false = rw is o in
        rw e (ap (λ ps. [] ∷ ps) (cut_depends_on_open (b ∷ before) [] bytes out))
    at true o true c e h = step_ended b n _ bytes (cut_outside (b ∷ before) bytes) e (h (omega (arith, e, lt)))
    at true o false c e h = step_ended b n _ bytes (cut_outside (b ∷ before) bytes) e (h (omega (arith, e, lt)))
    at false o false c e h = step_ended b n _ bytes (cut_outside (b ∷ before) bytes) e (h (omega (arith, e, lt)))

-- If no comma ends the first part, the whole text is one part.
pub cut_last : (before bytes : List ℕ) (n : ℕ) → n ≡ first_size (is_open before) bytes → length bytes ≤ n
    → cut_outside before bytes ≡ bytes ∷ []
cut_last before [] n e ge = refl
cut_last before (b ∷ bytes) n e ge = at (is_open before) (b == 44) e
    (cut_last (b ∷ before) bytes (first_size (opens (is_open before) b) bytes) refl)
  where
    at : (inside comma : Bool) → n ≡ cond (comma && not inside) 0 (1 + first_size (opens (is_open before) b) bytes)
        → (length bytes ≤ first_size (opens (is_open before) b) bytes → cut_outside (b ∷ before) bytes ≡ bytes ∷ [])
        → cond (comma && not inside) ([] ∷ cut_outside (b ∷ before) bytes) (onto b (cut_outside (b ∷ before) bytes)) ≡ (b ∷ bytes) ∷ []
    at false true e h = absurd (omega (arith, e, ge))
    at true true e h = ap (onto b) (h (omega (arith, e, ge)))
    at true false e h = ap (onto b) (h (omega (arith, e, ge)))
    at false false e h = ap (onto b) (h (omega (arith, e, ge)))

-- If the remaining parts are one part, it is the last one.
pub last_part_index : (k : ℕ) (cut : List (List ℕ)) (part : List ℕ) → drop k cut ≡ part ∷ [] → length cut ≡ k + 1
last_part_index zero cut part h = ap length h
last_part_index (suc k) [] part h = absurd cc
last_part_index (suc k) (x ∷ cut) part h = let l = last_part_index k cut part h in omega (arith, l)

pub remaining_after : (k : ℕ) (cut others : List (List ℕ)) (part : List ℕ) → drop k cut ≡ part ∷ others → drop (k + 1) cut ≡ others
remaining_after zero [] others part h = absurd cc
remaining_after zero (x ∷ cut) others part h = cc
remaining_after (suc k) [] others part h = absurd cc
remaining_after (suc k) (x ∷ cut) others part h = let n : suc k + 1 ≡ suc (k + 1) = omega arith in
    rw n (remaining_after k cut others part h)

take_next : (k : ℕ) (cut others : List (List ℕ)) (part : List ℕ) → drop k cut ≡ part ∷ others → take (k + 1) cut ≡ take k cut ++ part ∷ []
take_next zero [] others part h = absurd cc
take_next zero (x ∷ cut) others part h = cc
take_next (suc k) [] others part h = absurd cc
take_next (suc k) (x ∷ cut) others part h = let n : suc k + 1 ≡ suc (k + 1) = omega arith in
    rw n (ap (λ ps. x ∷ ps) (take_next k cut others part h))

-- The next part begins after this one and its comma.
pub part_place_next : (k : ℕ) (cut others : List (List ℕ)) (part : List ℕ) → drop k cut ≡ part ∷ others
    → part_place (k + 1) cut ≡ part_place k cut + (length part + 1)
part_place_next k cut others part h =
    ap (sum_by (λ p. length p + 1)) (take_next k cut others part h)
    ∙ sum_by-append (λ p. length p + 1) (take k cut) (part ∷ [])
    ∙ omega arith
