-- The pieces of a number are read from their joined text, and each text divides into pieces.
use Rattle.std.proofs.Common.{◌≡◌, ℕ, suc, ◌+◌, ◌==◌, ◌&&◌, ◌||◌, Bool, true, false, not, cond, List, [], ◌∷◌, ◌++◌, take, drop, refl, sym, ap, ◌∙◌, inl, inr, arith}
use Rattle.sv_text.specs.Front.{has_minus}
use Rattle.std.specs.List.{list_all}
use Rattle.std.specs.Char.{is_ascii_digit}
use Rattle.std.proofs.lemmas.Bool.Decides.{nat_tests}
use Rattle.std.proofs.lemmas.Bool.{eqb-true}
use Rattle.std.proofs.lemmas.List.{take-append-drop, append-nil}
use Rattle.sv_text.specs.White.{is_white, trim_start}
use Rattle.sv_value.specs.Decimal.{digits_in, behind_digits, digits_size, behind_sign, fraction_in, behind_fraction}
use Rattle.sv_value.specs.Spelling.{AreDigits, IsSpace, IsSign, IsFraction}
use Rattle.sv_value.proofs.Runs.{prefix_passes_test}

-- Whether the first byte passes a test.
abbrev pub begins : (ℕ → Bool) → List ℕ → Bool
begins test [] = false
begins test (b ∷ text) = test b

abbrev pub is_sign : ℕ → Bool
is_sign b = b == 43 || b == 45

abbrev pub is_point : ℕ → Bool
is_point b = b == 46

-- Leading digits are read up to the first byte that isn't a digit.
pub digits_in_append : (digits text : List ℕ) → AreDigits digits → digits_in (digits ++ text) ≡ digits ++ digits_in text
digits_in_append [] text all = refl
digits_in_append (b ∷ digits) text all = at (is_ascii_digit b) all (digits_in_append digits text)
  where
    at : (t : Bool) → (t && list_all is_ascii_digit digits) ≡ true
        → (AreDigits digits → digits_in (digits ++ text) ≡ digits ++ digits_in text)
        → take (cond (not (not t)) (1 + digits_size (digits ++ text)) 0) (b ∷ (digits ++ text)) ≡ b ∷ (digits ++ digits_in text)
    at true h ih = let n : 1 + digits_size (digits ++ text) ≡ suc (digits_size (digits ++ text)) = omega arith in
        rw n (ap (λ xs. b ∷ xs) (ih h))
    at false h ih = absurd cc

pub behind_digits_append : (digits text : List ℕ) → AreDigits digits → behind_digits (digits ++ text) ≡ behind_digits text
behind_digits_append [] text all = refl
behind_digits_append (b ∷ digits) text all = at (is_ascii_digit b) all (behind_digits_append digits text)
  where
    at : (t : Bool) → (t && list_all is_ascii_digit digits) ≡ true
        → (AreDigits digits → behind_digits (digits ++ text) ≡ behind_digits text)
        → drop (cond (not (not t)) (1 + digits_size (digits ++ text)) 0) (b ∷ (digits ++ text)) ≡ behind_digits text
    at true h ih = let n : 1 + digits_size (digits ++ text) ≡ suc (digits_size (digits ++ text)) = omega arith in rw n (ih h)
    at false h ih = absurd cc

pub digits_none : (text : List ℕ) → begins is_ascii_digit text ≡ false → digits_in text ≡ []
digits_none [] h = refl
digits_none (b ∷ text) h = rw h refl

pub behind_none : (text : List ℕ) → begins is_ascii_digit text ≡ false → behind_digits text ≡ text
behind_none [] h = refl
behind_none (b ∷ text) h = rw h refl

-- Leading white space is removed.
pub trim_start_append : (space text : List ℕ) → IsSpace space → trim_start (space ++ text) ≡ trim_start text
trim_start_append [] text all = refl
trim_start_append (b ∷ space) text all = at (is_white b) all (trim_start_append space text)
  where
    at : (t : Bool) → (t && list_all is_white space) ≡ true → (IsSpace space → trim_start (space ++ text) ≡ trim_start text)
        → cond t (trim_start (space ++ text)) (b ∷ (space ++ text)) ≡ trim_start text
    at true h ih = ih h
    at false h ih = absurd cc

pub trim_none : (text : List ℕ) → begins is_white text ≡ false → trim_start text ≡ text
trim_none [] h = refl
trim_none (b ∷ text) h = rw h refl

-- A text consists of its leading digits and the rest.
pub digits_split : (text : List ℕ) → text ≡ digits_in text ++ behind_digits text
digits_split text = sym (take-append-drop (digits_size text) text)

pub digits_all : (text : List ℕ) → AreDigits (digits_in text)
digits_all text = prefix_passes_test is_ascii_digit text

-- A text consists of leading white space and the rest.
pub trim_start_split : (text : List ℕ) → (space : List ℕ) × (text ≡ space ++ trim_start text) × IsSpace space
trim_start_split [] = ([], refl, refl)
trim_start_split (b ∷ text) = at (is_white b) refl (trim_start_split text)
  where
    at : (t : Bool) → is_white b ≡ t → ((space : List ℕ) × (text ≡ space ++ trim_start text) × IsSpace space)
        → (space : List ℕ) × (b ∷ text ≡ space ++ cond t (trim_start text) (b ∷ text)) × IsSpace space
    at true is h = (b ∷ h.0, ap (λ xs. b ∷ xs) h.1, rw is h.2)
    at false is h = ([], refl, refl)

-- A leading sign is read, unless a second one follows.
pub sign_before_text : (sign text : List ℕ) (minus : Bool) → IsSign sign minus → begins is_sign text ≡ false
    → (has_minus (sign ++ text) ≡ minus) × (behind_sign (sign ++ text) ≡ text)
sign_before_text sign text minus (inl s) h = rw (s.0, s.1) (none text h)
  where
    none : (text : List ℕ) → begins is_sign text ≡ false → (has_minus text ≡ false) × (behind_sign text ≡ text)
    none [] h = (refl, refl)
    none (b ∷ text) h = (grind (arith, nat_tests, h), rw h refl)
sign_before_text sign text minus (inr (inl s)) h = rw (s.0, s.1) (refl, refl)
sign_before_text sign text minus (inr (inr s)) h = rw (s.0, s.1) (refl, refl)

pub sign_split : (text : List ℕ) → (sign : List ℕ) × (text ≡ sign ++ behind_sign text) × IsSign sign (has_minus text)
sign_split [] = ([], refl, inl (refl, refl))
sign_split (b ∷ text) = at (b == 43) (b == 45) refl refl
  where
    at : (plus minus : Bool) → (b == 43) ≡ plus → (b == 45) ≡ minus
        → (sign : List ℕ) × (b ∷ text ≡ sign ++ cond (plus || minus) text (b ∷ text)) × IsSign sign minus
    at true true p m = absurd (omega (arith, eqb-true b 43 p, eqb-true b 45 m))
    at true false p m = (43 ∷ [], ap (λ x. x ∷ text) (eqb-true b 43 p), inr (inl (refl, refl)))
    at false true p m = (45 ∷ [], ap (λ x. x ∷ text) (eqb-true b 45 m), inr (inr (refl, refl)))
    at false false p m = ([], refl, inl (refl, refl))

-- A leading point and the digits after it are read.
pub fraction_before_text : (piece digits text : List ℕ) → IsFraction piece digits → begins is_ascii_digit text ≡ false
    → begins is_point text ≡ false → (fraction_in (piece ++ text) ≡ digits) × (behind_fraction (piece ++ text) ≡ text)
fraction_before_text piece digits text (inl f) d p = rw (f.0, f.1) (none text p)
  where
    none : (text : List ℕ) → begins is_point text ≡ false → (fraction_in text ≡ []) × (behind_fraction text ≡ text)
    none [] p = (refl, refl)
    none (b ∷ text) p = (rw p refl, rw p refl)
fraction_before_text piece digits text (inr f) d p =
    let front : digits_in (digits ++ text) ≡ digits =
    digits_in_append digits text f.1 ∙ ap (λ xs. digits ++ xs) (digits_none text d) ∙ append-nil digits in
    let behind : behind_digits (digits ++ text) ≡ text = behind_digits_append digits text f.1 ∙ behind_none text d in
    rw f.0 (front, behind)

pub fraction_split : (text : List ℕ) → (piece : List ℕ) × (text ≡ piece ++ behind_fraction text) × IsFraction piece (fraction_in text)
fraction_split [] = ([], refl, inl (refl, refl))
fraction_split (b ∷ text) = at (b == 46) refl
  where
    at : (point : Bool) → (b == 46) ≡ point → (piece : List ℕ) × (b ∷ text ≡ piece ++ cond point (behind_digits text) (b ∷ text))
        × IsFraction piece (cond point (digits_in text) [])
    at true p = (46 ∷ digits_in text, rw (eqb-true b 46 p) (ap (λ xs. 46 ∷ xs) (digits_split text)), inr (refl, digits_all text))
    at false p = ([], refl, inl (refl, refl))
