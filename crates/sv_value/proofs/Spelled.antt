-- A text is read as the parts of a decimal number exactly if it spells a number with these parts.
use Rattle.std.proofs.Common.{◌≡◌, ◌≢◌, ℕ, ◌==◌, ◌&&◌, ◌||◌, Bool, true, false, not, cond, List, [], ◌∷◌, ◌++◌, refl, sym, ap, subst, ◌∙◌, ◌⊎◌, inl, inr, arith}
use Rattle.sv_text.specs.Front.{is_empty, has_minus}
use Rattle.std.specs.List.{list_all}
use Rattle.std.specs.Char.{is_ascii_digit, is_ascii_alphabetic}
use Rattle.std.proofs.lemmas.Bool.{and_parts, eqb-true}
use Rattle.std.proofs.lemmas.Bool.Decides.{nat_tests}
use Rattle.std.proofs.lemmas.List.{append_assoc, append-nil}
use Rattle.sv_text.specs.White.{is_white, trim_start}
use Rattle.sv_value.specs.Decimal.{Parts, number_parts, is_spelled, begins_well, digits_in, behind_digits, behind_sign, fraction_in, behind_fraction, behind_letter, behind_mark, exponent_in, is_down, behind_exponent, behind_whole, behind_mantissa}
use Rattle.sv_value.specs.Spelling.{AreDigits, IsSpace, IsSign, IsFraction, IsExponent, NoExponent, IsSuffix, IsTail, Spells, ReadAsSpelled}
use Rattle.sv_value.proofs.Pieces.{begins, is_sign, is_point, digits_in_append, behind_digits_append, digits_none, behind_none, trim_start_append, trim_none, digits_split, digits_all, trim_start_split, sign_before_text, sign_split, fraction_before_text, fraction_split}

-- Letters, digits and white space are distinct from each other, from signs and from the point.
letter_plain : (b : ℕ) → is_ascii_alphabetic b ≡ true → (is_white b ≡ false) × (is_ascii_digit b ≡ false) × (is_point b ≡ false)
letter_plain b h = (grind (arith, nat_tests, h), grind (arith, nat_tests, h), grind (arith, nat_tests, h))

digit_plain : (b : ℕ) → is_ascii_digit b ≡ true → (is_white b ≡ false) × (is_sign b ≡ false)
digit_plain b h = (grind (arith, nat_tests, h), grind (arith, nat_tests, h))

white_plain : (b : ℕ) → is_white b ≡ true → (is_ascii_digit b ≡ false) × (is_point b ≡ false)
white_plain b h = (grind (arith, nat_tests, h), grind (arith, nat_tests, h))

some_digits : (digits text : List ℕ) → AreDigits digits → digits ≢ []
    → (begins is_white (digits ++ text) ≡ false) × (begins is_sign (digits ++ text) ≡ false)
some_digits [] text all some = absurd (some refl)
some_digits (b ∷ digits) text all some = at (is_ascii_digit b) refl all
  where
    at : (t : Bool) → is_ascii_digit b ≡ t → (t && list_all is_ascii_digit digits) ≡ true → (is_white b ≡ false) × (is_sign b ≡ false)
    at true is all = digit_plain b is
    at false is all = absurd cc

sign_plain : (sign text : List ℕ) (minus : Bool) → IsSign sign minus → begins is_white text ≡ false → begins is_white (sign ++ text) ≡ false
sign_plain sign text minus (inl s) h = rw s.0 h
sign_plain sign text minus (inr (inl s)) h = rw s.0 refl
sign_plain sign text minus (inr (inr s)) h = rw s.0 refl

-- The text begins with neither a digit nor a point.
abbrev BeginsNoNumber : List ℕ → Type 0
BeginsNoNumber text = (begins is_ascii_digit text ≡ false) × (begins is_point text ≡ false)

-- White space before such a text doesn't change this.
space_plain : (space text : List ℕ) → IsSpace space → BeginsNoNumber text → BeginsNoNumber (space ++ text)
space_plain [] text all h = h
space_plain (b ∷ space) text all h = at (is_white b) refl all
  where
    at : (t : Bool) → is_white b ≡ t → (t && list_all is_white space) ≡ true → (is_ascii_digit b ≡ false) × (is_point b ≡ false)
    at true is all = white_plain b is
    at false is all = absurd cc

suffix_plain : (suffix : List ℕ) → begins_well suffix ≡ true → BeginsNoNumber suffix × (begins is_white suffix ≡ false)
suffix_plain [] h = ((refl, refl), refl)
suffix_plain (b ∷ suffix) h = let p = letter_plain b h in ((p.1, p.2), p.0)

-- The suffix is the text after the white space.
suffix_read : (text suffix : List ℕ) → IsSuffix text suffix → (trim_start text ≡ suffix) × BeginsNoNumber text
suffix_read text suffix s =
    let p = suffix_plain suffix s.3 in
    rw s.1 (trim_start_append s.0 suffix s.2 ∙ trim_none suffix p.1, space_plain s.0 suffix s.2 p.0)

suffix_spelled : (text : List ℕ) → begins_well (trim_start text) ≡ true → IsSuffix text (trim_start text)
suffix_spelled text h = let a = trim_start_split text in (a.0, a.1, a.2, h)

-- White space around an exponent's letter is skipped.
mark_joined : (before behind text : List ℕ) (letter : ℕ) → IsSpace before → (letter ≡ 69) ⊎ (letter ≡ 101) → IsSpace behind
    → begins is_white text ≡ false → behind_mark (before ++ letter ∷ (behind ++ text)) ≡ text
mark_joined before behind text letter b (inl l) h plain =
    rw l (ap behind_letter (trim_start_append before (69 ∷ (behind ++ text)) b) ∙ trim_start_append behind text h ∙ trim_none text plain)
mark_joined before behind text letter b (inr l) h plain =
    rw l (ap behind_letter (trim_start_append before (101 ∷ (behind ++ text)) b) ∙ trim_start_append behind text h ∙ trim_none text plain)

joined : (before behind sign digits text : List ℕ) (letter : ℕ)
    → (before ++ letter ∷ (behind ++ (sign ++ digits))) ++ text ≡ before ++ letter ∷ (behind ++ (sign ++ (digits ++ text)))
joined before behind sign digits text letter =
    append_assoc before (letter ∷ (behind ++ (sign ++ digits))) text
    ∙ ap (λ xs. before ++ letter ∷ xs) (append_assoc behind (sign ++ digits) text ∙ ap (λ xs. behind ++ xs) (append_assoc sign digits text))

-- An exponent is read from text that begins with it.
exponent_joined : (piece digits text : List ℕ) (minus : Bool) → IsExponent piece minus digits
    → (exponent_in (piece ++ text) ≡ digits ++ digits_in text) × (has_minus (behind_mark (piece ++ text)) ≡ minus)
    × (behind_digits (behind_sign (behind_mark (piece ++ text))) ≡ behind_digits text)
exponent_joined piece digits text minus e =
    let some = some_digits digits text e.9 e.10 in
    let whole : piece ++ text ≡ e.0 ++ e.3 ∷ (e.1 ++ (e.2 ++ (digits ++ text))) =
    ap (λ xs. xs ++ text) e.4 ∙ joined e.0 e.1 e.2 digits text e.3 in
    let mark : behind_mark (piece ++ text) ≡ e.2 ++ (digits ++ text) =
    ap behind_mark whole ∙ mark_joined e.0 e.1 (e.2 ++ (digits ++ text)) e.3 e.5 e.6 e.7
    (sign_plain e.2 (digits ++ text) minus e.8 some.0) in
    let signed = sign_before_text e.2 (digits ++ text) minus e.8 some.1 in (
      ap (λ xs. digits_in (behind_sign xs)) mark ∙ ap digits_in signed.1 ∙ digits_in_append digits text e.9,
      ap has_minus mark ∙ signed.0,
      ap (λ xs. behind_digits (behind_sign xs)) mark ∙ ap behind_digits signed.1 ∙ behind_digits_append digits text e.9,
    )

-- An E begins the exponent, and white space may follow it.
exponent_letter : (text : List ℕ) → is_empty (digits_in (behind_sign (behind_letter text))) ≡ false
    → (letter : ℕ) × (space : List ℕ) × (text ≡ letter ∷ (space ++ behind_letter text)) × ((letter ≡ 69) ⊎ (letter ≡ 101)) × IsSpace space
exponent_letter [] h = absurd cc
exponent_letter (b ∷ text) h = at (b == 69) (b == 101) refl refl h (trim_start_split text)
  where
    at : (e f : Bool) → (b == 69) ≡ e → (b == 101) ≡ f → is_empty (digits_in (behind_sign (cond (e || f) (trim_start text) []))) ≡ false
        → ((space : List ℕ) × (text ≡ space ++ trim_start text) × IsSpace space)
        → (letter : ℕ) × (space : List ℕ) × (b ∷ text ≡ letter ∷ (space ++ cond (e || f) (trim_start text) []))
        × ((letter ≡ 69) ⊎ (letter ≡ 101)) × IsSpace space
    at true f p q h a = (b, a.0, ap (λ xs. b ∷ xs) a.1, inl (eqb-true b 69 p), a.2)
    at false true p q h a = (b, a.0, ap (λ xs. b ∷ xs) a.1, inr (eqb-true b 101 q), a.2)
    at false false p q h a = absurd cc

-- A text with an exponent consists of the exponent and the rest.
exponent_apart : (text : List ℕ) → is_empty (exponent_in text) ≡ false
    → (piece : List ℕ) × (text ≡ piece ++ behind_exponent text) × IsExponent piece (is_down text) (exponent_in text)
exponent_apart text some =
    let a = trim_start_split text in
    let m = exponent_letter (trim_start text) some in
    let s = sign_split (behind_mark text) in
    let d = digits_split (behind_sign (behind_mark text)) in
    let rest = behind_digits (behind_sign (behind_mark text)) in
    let whole : text ≡ a.0 ++ m.0 ∷ (m.1 ++ (s.0 ++ (exponent_in text ++ rest))) =
    a.1 ∙ ap (λ xs. a.0 ++ xs) (m.2 ∙ ap (λ xs. m.0 ∷ (m.1 ++ xs)) (s.1 ∙ ap (λ xs. s.0 ++ xs) d)) in
    let there : exponent_in text ≢ [] = λ e. absurd (let x : is_empty (exponent_in text) ≡ true = ap is_empty e in cc) in (
      a.0 ++ m.0 ∷ (m.1 ++ (s.0 ++ exponent_in text)),
      rw some (whole ∙ sym (joined a.0 m.1 s.0 (exponent_in text) rest m.0)),
      (a.0, m.1, s.0, m.0, refl, a.2, m.3, m.4, rw some s.2, digits_all (behind_sign (behind_mark text)), there),
    )

some_there : (xs : List ℕ) → xs ≢ [] → is_empty xs ≡ false
some_there [] h = absurd (h refl)
some_there (x ∷ xs) h = refl

none_there : (xs : List ℕ) → is_empty xs ≡ true → xs ≡ []
none_there [] h = refl
none_there (x ∷ xs) h = absurd cc

-- The exponent and the suffix that are read after the mantissa are those of the number.
abbrev IsRead : List ℕ → Parts → Type 0
IsRead tail number = (is_down tail ≡ number.down) × (exponent_in tail ≡ number.exponent)
    × (trim_start (behind_exponent tail) ≡ number.suffix) × (begins_well number.suffix ≡ true) × BeginsNoNumber tail

-- An exponent begins with neither a digit nor a point.
exponent_plain : (piece digits text : List ℕ) (minus : Bool) → IsExponent piece minus digits → BeginsNoNumber (piece ++ text)
exponent_plain piece digits text minus e =
    rw (e.4, joined e.0 e.1 e.2 digits text e.3) (space_plain e.0 (e.3 ∷ (e.1 ++ (e.2 ++ (digits ++ text)))) e.5 (letter e.6))
  where
    letter : {b : ℕ} → (b ≡ 69) ⊎ (b ≡ 101) → (is_ascii_digit b ≡ false) × (is_point b ≡ false)
    letter (inl l) = rw l (refl, refl)
    letter (inr l) = rw l (refl, refl)

spelled_tail_is_read : (tail : List ℕ) (number : Parts) → IsTail tail number → IsRead tail number
spelled_tail_is_read tail number (inl h) =
    let r = suffix_read h.1 number.suffix h.4 in
    let j = exponent_joined h.0 number.exponent h.1 number.down h.3 in
    let digits : exponent_in (h.0 ++ h.1) ≡ number.exponent =
    j.0 ∙ ap (λ xs. number.exponent ++ xs) (digits_none h.1 r.1.0) ∙ append-nil number.exponent in
    let some : is_empty (exponent_in (h.0 ++ h.1)) ≡ false = ap is_empty digits ∙ some_there number.exponent h.3.10 in
    rw h.2 (
      rw some j.1,
      digits,
      rw some (ap trim_start (j.2 ∙ behind_none h.1 r.1.0) ∙ r.0),
      h.4.3,
      exponent_plain h.0 number.exponent h.1 number.down h.3,
    )
spelled_tail_is_read tail number (inr h) = at (is_empty (exponent_in tail)) refl
  where
    at : (t : Bool) → is_empty (exponent_in tail) ≡ t → IsRead tail number
    at true is = let r = suffix_read tail number.suffix h.3 in
        (rw (is, h.1) refl, none_there (exponent_in tail) is ∙ sym h.2, rw is r.0, h.3.3, r.1)
    at false is = let a = exponent_apart tail is in absurd (h.0 a.0 (behind_exponent tail) (exponent_in tail) (is_down tail) a.1 a.2)

front_empty : (front behind : List ℕ) → front ≢ [] → front ++ behind ≡ [] → ⊥
front_empty [] behind some e = some refl
front_empty (b ∷ front) behind some e = absurd cc

-- The exponent and the suffix that are read after the mantissa are spelled there.
read_tail_is_spelled : (tail : List ℕ) (number : Parts) → is_down tail ≡ number.down → exponent_in tail ≡ number.exponent
    → trim_start (behind_exponent tail) ≡ number.suffix → begins_well number.suffix ≡ true → IsTail tail number
read_tail_is_spelled tail number d x s w = at (is_empty (exponent_in tail)) refl
  where
    at : (t : Bool) → is_empty (exponent_in tail) ≡ t → IsTail tail number
    at false is =
        let a = exponent_apart tail is in
        inl (a.0, behind_exponent tail, a.1, rw (← d, ← x) a.2, rw (← s) (suffix_spelled (behind_exponent tail) (ap begins_well s ∙ w)))
    at true is =
        let same : behind_exponent tail ≡ tail = rw is refl in
        let all : trim_start tail ≡ number.suffix = ap trim_start (sym same) ∙ s in
        let none : NoExponent tail = λ exponent behind digits minus e isE.
        front_empty digits (digits_in behind) isE.10
        (sym (exponent_joined exponent digits behind minus isE).0 ∙ ap exponent_in (sym e) ∙ none_there (exponent_in tail) is) in
        inr (none, sym d ∙ rw is refl, sym x ∙ none_there (exponent_in tail) is, rw (← all) (suffix_spelled tail (ap begins_well all ∙ w)))

-- No second sign follows the sign.
mantissa_plain : (whole fraction digits tail : List ℕ) → AreDigits whole → IsFraction fraction digits → (whole ≢ []) ⊎ (digits ≢ [])
    → begins is_sign (whole ++ (fraction ++ tail)) ≡ false
mantissa_plain (b ∷ whole) fraction digits tail w f some = (some_digits (b ∷ whole) (fraction ++ tail) w (λ e. absurd cc)).1
mantissa_plain [] fraction digits tail w f (inl some) = absurd (some refl)
mantissa_plain [] fraction digits tail w (inl f) (inr some) = absurd (some f.1)
mantissa_plain [] fraction digits tail w (inr f) (inr some) = rw f.0 refl

-- No digit follows the digits.
fraction_plain : (fraction digits tail : List ℕ) → IsFraction fraction digits → begins is_ascii_digit tail ≡ false
    → begins is_ascii_digit (fraction ++ tail) ≡ false
fraction_plain fraction digits tail (inl f) h = rw f.0 h
fraction_plain fraction digits tail (inr f) h = rw f.0 refl

-- The mantissa has a digit before or after the point.
digits_there : (whole fraction : List ℕ) → (whole ≢ []) ⊎ (fraction ≢ []) → not (is_empty whole && is_empty fraction) ≡ true
digits_there (b ∷ whole) fraction some = refl
digits_there [] (b ∷ fraction) some = refl
digits_there [] [] (inl some) = absurd (some refl)
digits_there [] [] (inr some) = absurd (some refl)

there_digits : (whole fraction : List ℕ) → not (is_empty whole && is_empty fraction) ≡ true → (whole ≢ []) ⊎ (fraction ≢ [])
there_digits (b ∷ whole) fraction h = inl (λ e. absurd cc)
there_digits [] (b ∷ fraction) h = inr (λ e. absurd cc)
there_digits [] [] h = absurd cc

same_parts : (number : Parts) (negative down : Bool) (whole fraction exponent suffix : List ℕ) → negative ≡ number.negative
    → whole ≡ number.whole → fraction ≡ number.fraction → down ≡ number.down → exponent ≡ number.exponent → suffix ≡ number.suffix
    → record { negative = negative; whole = whole; fraction = fraction; down = down; exponent = exponent; suffix = suffix } ≡ number
same_parts number negative down whole fraction exponent suffix n w f d x s = rw (n, w, f, d, x, s) refl

-- A text that spells a number is read as this number.
spelled_read : (text : List ℕ) (number : Parts) → Spells text number → (is_spelled (number_parts text) ≡ true)
    × (number_parts text ≡ number)
spelled_read text number s =
    let (sign, fraction, tail, e, isSign, isWhole, isFraction, some, isTail) = s in
    let t = spelled_tail_is_read tail number isTail in
    let signed = sign_before_text sign (number.whole ++ (fraction ++ tail)) number.negative isSign
    (mantissa_plain number.whole fraction number.fraction tail isWhole isFraction some) in
    let plain = fraction_plain fraction number.fraction tail isFraction t.4.0 in
    let behind : behind_sign text ≡ number.whole ++ (fraction ++ tail) = ap behind_sign e ∙ signed.1 in
    let whole : digits_in (behind_sign text) ≡ number.whole =
    ap digits_in behind ∙ digits_in_append number.whole (fraction ++ tail) isWhole
    ∙ ap (λ xs. number.whole ++ xs) (digits_none (fraction ++ tail) plain) ∙ append-nil number.whole in
    let mantissa : behind_whole text ≡ fraction ++ tail =
    ap behind_digits behind ∙ behind_digits_append number.whole (fraction ++ tail) isWhole ∙ behind_none (fraction ++ tail) plain in
    let f = fraction_before_text fraction number.fraction tail isFraction t.4.0 t.4.1 in
    let rest : behind_mantissa text ≡ tail = ap behind_fraction mantissa ∙ f.1 in
    let same : number_parts text ≡ number = same_parts number _ _ _ _ _ _ (ap has_minus e ∙ signed.0) whole (ap fraction_in mantissa ∙ f.0)
    (ap is_down rest ∙ t.0) (ap exponent_in rest ∙ t.1)
    (ap (λ xs. trim_start (behind_exponent xs)) rest ∙ t.2) in
    let found : is_spelled number ≡ true = rw (digits_there number.whole number.fraction some) t.3 in
    (subst (λ n. is_spelled n ≡ true) (sym same) found, same)

-- A text that is read as a number spells it.
read_spelled : (text : List ℕ) → is_spelled (number_parts text) ≡ true → Spells text (number_parts text)
read_spelled text h =
    let b = and_parts _ _ h in
    let s = sign_split text in
    let d = digits_split (behind_sign text) in
    let f = fraction_split (behind_whole text) in (
      s.0,
      f.0,
      behind_mantissa text,
      s.1 ∙ ap (λ xs. s.0 ++ xs) (d ∙ ap (λ xs. digits_in (behind_sign text) ++ xs) f.1),
      s.2,
      digits_all (behind_sign text),
      f.2,
      there_digits (number_parts text).whole (number_parts text).fraction b.0,
      read_tail_is_spelled (behind_mantissa text) (number_parts text) refl refl refl b.1,
    )

pub spelled : ReadAsSpelled
spelled text number = (spelled_read text number, λ r. subst (Spells text) r.1 (read_spelled text r.0))
