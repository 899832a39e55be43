-- The steps of the loops that read a number, decode hexadecimal digits and find a space.
use Rattle.std.proofs.Common.{◌≡◌, ℕ, ◌+◌, ◌-◌, ◌*◌, ◌<◌, ◌≤◌, true, false, cond, eqb, ltb, List, [], ◌∷◌, ◌++◌, length, get_or, take, drop, set, suc, add-one, inl, inr, Option, Some, None, option_map, refl, sym, ap, arith}
use Rattle.std.specs.Char.{is_ascii_digit}
use Rattle.std.specs.List.{position_or_len}
use Rattle.std.proofs.lemmas.Bool.{cases_Bool, eqb-true, ltb-true, ltb-false, lt-ltb, le-ltb}
use Rattle.std.proofs.lemmas.List.{at_drop_more, at_drop_all, take_more_set, take_all, length-drop, append_assoc}
use Rattle.std.proofs.lemmas.Option.{none-some, same_Some}
use Rattle.sv_replay.specs.Reading.{digits_onto, number_at, pair_at, after_space, hex_at, cut_at}

pub number_at_first_digit : (most : ℕ) (digits : List ℕ) → (0 ≡ length digits → ⊥) → digits_onto most 0 digits ≡ number_at most digits
unfolding number_at
number_at_first_digit most [] some = absurd (some refl)
number_at_first_digit most (digit ∷ digits) some = refl

pub number_at_no_digits : (most : ℕ) (digits : List ℕ) → length digits ≡ 0 → None ≡ number_at most digits
unfolding number_at
number_at_no_digits most [] none = refl
number_at_no_digits most (digit ∷ digits) none = absurd (omega arith)

-- How reading goes on from the digit at position `k`, with the number `n` so far.
digits_more : (most n : ℕ) (digits : List ℕ) (k : ℕ) → k < length digits → digits_onto most n (drop k digits)
    ≡ cond (is_ascii_digit (get_or digits k 0)) (cond (ltb most (10 * n + (get_or digits k 0 - 48))) None
    (digits_onto most (10 * n + (get_or digits k 0 - 48)) (drop (k + 1) digits))) None
unfolding digits_onto
digits_more most n digits k within = at_drop_more (digits_onto most n) digits k 0 within

pub digits_end : (most n : ℕ) (digits : List ℕ) (k : ℕ) → length digits ≤ k → digits_onto most n (drop k digits) ≡ Some n
unfolding digits_onto
digits_end most n digits k past = at_drop_all (digits_onto most n) digits k past

-- A byte that isn't a digit ends the reading: the text is no number.
pub digits_at_non_digit : (most n : ℕ) (digits : List ℕ) (k : ℕ) → k < length digits → is_ascii_digit (get_or digits k 0) ≡ false
    → digits_onto most n (drop k digits) ≡ None
digits_at_non_digit most n digits k within other = rw (digits_more most n digits k within, other) refl

-- So does a digit that makes the number larger than `most`.
pub digits_above : (most n : ℕ) (digits : List ℕ) (k : ℕ) → k < length digits → is_ascii_digit (get_or digits k 0) ≡ true
    → most < 10 * n + (get_or digits k 0 - 48) → digits_onto most n (drop k digits) ≡ None
digits_above most n digits k within is above = rw (
  digits_more most n digits k within,
  is,
  lt-ltb most (10 * n + (get_or digits k 0 - 48)) above,
) refl

-- Another digit is appended to the number.
pub digits_next : (most n : ℕ) (digits : List ℕ) (k : ℕ) → k < length digits → is_ascii_digit (get_or digits k 0) ≡ true
    → 10 * n + (get_or digits k 0 - 48) ≤ most
    → digits_onto most n (drop k digits) ≡ digits_onto most (10 * n + (get_or digits k 0 - 48)) (drop (k + 1) digits)
digits_next most n digits k within is below = rw (
  digits_more most n digits k within,
  is,
  le-ltb most (10 * n + (get_or digits k 0 - 48)) below,
) refl

pub hex_short : (rest : List ℕ) → length rest < 2 → hex_at rest ≡ None
unfolding hex_at
hex_short [] short = refl
hex_short (high ∷ []) short = refl
hex_short (high ∷ low ∷ rest) short = absurd (omega arith)

-- Two characters that aren't hexadecimal digits end the reading.
pub hex_at_non_pair : (rest : List ℕ) → 2 ≤ length rest → None ≡ pair_at (get_or rest 0 0) (get_or rest 1 0) → hex_at rest ≡ None
unfolding hex_at
hex_at_non_pair [] long bad = absurd (omega arith)
hex_at_non_pair (high ∷ []) long bad = absurd (omega arith)
hex_at_non_pair (high ∷ low ∷ []) long bad = rw (← bad) refl
hex_at_non_pair (high ∷ low ∷ next ∷ rest) long bad = rw (← bad) refl

-- The text after two characters, as the code slices it, is the whole rest.
drop_two_as_slice : (rest : List ℕ) → take (length rest - 2) (drop 2 rest) ≡ drop 2 rest
drop_two_as_slice rest = take_all (length rest - 2) (drop 2 rest) (omega (arith, length-drop 2 rest))

-- A byte after which the text ends is the last one.
pub hex_last : (rest : List ℕ) (byte : ℕ) → 2 ≤ length rest → true ≡ eqb (length (take (length rest - 2) (drop 2 rest))) 0
    → Some byte ≡ pair_at (get_or rest 0 0) (get_or rest 1 0) → hex_at rest ≡ Some (byte ∷ [])
unfolding hex_at
hex_last [] byte long none pair = absurd (omega arith)
hex_last (high ∷ []) byte long none pair = absurd (omega arith)
hex_last (high ∷ low ∷ []) byte long none pair = rw (← pair) refl
hex_last (high ∷ low ∷ next ∷ rest) byte long none pair =
    absurd (omega (arith, eqb-true (length (next ∷ rest)) 0 (sym (rw (drop_two_as_slice (high ∷ low ∷ next ∷ rest)) at none))))

-- After another byte, reading goes on after an optional space.
pub hex_next : (rest after : List ℕ) (byte : ℕ) → 2 ≤ length rest → false ≡ eqb (length (take (length rest - 2) (drop 2 rest))) 0
    → Some byte ≡ pair_at (get_or rest 0 0) (get_or rest 1 0)
    → after ≡ after_space (take (length rest - 2) (drop 2 rest)) → hex_at rest ≡ option_map (λ bytes. byte ∷ bytes) (hex_at after)
unfolding hex_at
hex_next [] after byte long some pair behind = absurd (omega arith)
hex_next (high ∷ []) after byte long some pair behind = absurd (omega arith)
hex_next (high ∷ low ∷ []) after byte long some pair behind = absurd cc
hex_next (high ∷ low ∷ next ∷ rest) after byte long some pair behind =
    rw (← pair, behind, drop_two_as_slice (high ∷ low ∷ next ∷ rest))
    (elim (eqb next 32) as (λ t. option_map (λ bytes. byte ∷ bytes) (cond t (hex_at rest) (hex_at (next ∷ rest)))
    ≡ option_map (λ bytes. byte ∷ bytes) (hex_at (cond t rest (next ∷ rest)))) [ true ↦ refl | false ↦ refl ])

-- Each byte takes at least two characters, so the loop ends.
pub after_shorter : (rest after : List ℕ) → 2 ≤ length rest → length after ≤ length (take (length rest - 2) (drop 2 rest))
    → length after + 2 ≤ length rest
after_shorter rest after long below = omega (arith, rw (drop_two_as_slice rest) at below, length-drop 2 rest)

-- Storing a byte in the buffer appends it to the bytes decoded so far.
pub decoded_with_byte : (buffer : List ℕ) (len byte : ℕ) (read : Option (List ℕ)) → len < length buffer
    → option_map (λ bytes. take (len + 1) (set buffer len byte) ++ bytes) read
    ≡ option_map (λ bytes. take len buffer ++ bytes) (option_map (λ bytes. byte ∷ bytes) read)
decoded_with_byte buffer len byte None room = refl
decoded_with_byte buffer len byte (Some bytes) room = ap Some
    (rw (take_more_set buffer len byte room) (append_assoc (take len buffer) (byte ∷ []) bytes))

-- The position of the first space; the length of the text if there is none.
abbrev pub first_space : List ℕ → ℕ
first_space text = position_or_len (λ byte. eqb byte 32) text

-- A text without a space isn't cut.
pub cut_none : (text : List ℕ) → length text ≤ first_space text → cut_at text ≡ None
unfolding cut_at
cut_none [] past = refl
cut_none (byte ∷ bytes) past = elim (cases_Bool (eqb byte 32)) [
  | inl is ↦ absurd (omega (arith, rw is at past))
  | inr other ↦ rw (other, cut_none bytes (omega (arith, rw other at past))) refl
]

-- A text is cut at its first space.
pub cut_some : (text : List ℕ) → first_space text < length text
    → cut_at text ≡ Some (take (first_space text) text, drop (first_space text + 1) text)
unfolding cut_at
cut_some [] within = absurd (omega arith)
cut_some (byte ∷ bytes) within = elim (cases_Bool (eqb byte 32)) [
  | inl is ↦ rw is refl
  | inr other ↦
      let one : 1 + first_space bytes ≡ suc (first_space bytes) = omega arith in
      rw (
        other,
        cut_some bytes (omega (arith, rw other at within)),
        one,
        add-one (first_space bytes),
        add-one (suc (first_space bytes)),
      ) refl
]

pub none_is_past_end : (place size : ℕ) → ◌≡◌ {A = Option ℕ} None (cond (ltb place size) (Some place) None) → size ≤ place
none_is_past_end place size e = elim (cases_Bool (ltb place size)) [
  | inl is ↦ absurd (none-some place (rw is at e))
  | inr other ↦
      ltb-false place size other
]

pub some_is_within : (at place size : ℕ) → ◌≡◌ {A = Option ℕ} (Some at) (cond (ltb place size) (Some place) None)
    → (place < size) × (at ≡ place)
some_is_within at place size e = elim (cases_Bool (ltb place size)) [
  | inl is ↦ (ltb-true place size is, same_Some at place (rw is at e))
  | inr other ↦ absurd (none-some at (sym (rw other at e)))
]

-- The slices before and after the first space are the text cut there.
pub cut_at_place : (text : List ℕ) (at : ℕ) → (first_space text < length text) × (at ≡ first_space text)
    → Some (take at text, take (length text - (at + 1)) (drop (at + 1) text)) ≡ cut_at text
cut_at_place text at found = rw (take_all (length text - (at + 1)) (drop (at + 1) text) (omega (arith, length-drop (at + 1) text)), found.1)
    (sym (cut_some text found.0))
