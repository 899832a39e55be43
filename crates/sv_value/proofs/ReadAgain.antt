-- A voltage that is printed and read again is the same voltage.
use Rattle.std.proofs.Common.{◌≡◌, ℕ, zero, suc, ◌+◌, ◌-◌, ◌*◌, ◌/◌, ◌%◌, ◌^◌, ◌<◌, ◌≤◌, Bool, true, false, List, [], ◌∷◌, ◌++◌, length, refl, sym, ap, ◌∙◌, pos, negsuc, Some, arith}
use Rattle.std.specs.Prelude.{decimal, replicate, Ok}
use Rattle.std.specs.Char.{is_ascii_digit, digit_value}
use Rattle.std.specs.List.{list_all}
use Rattle.std.specs.Str.Parse.{digits_value, digits_value_after, AllDigits}
use Rattle.std.proofs.lemmas.Bool.{le-ltb, le-leb}
use Rattle.std.proofs.lemmas.Bool.Decides.{nat_tests}
use Rattle.std.proofs.lemmas.List.{length-append, append-nil}
use Rattle.std.proofs.lemmas.List.Folds.{list_all-append}
use Rattle.std.proofs.lemmas.Fmt.{decimal_is_IsNumeral}
use Rattle.sv_text.specs.White.{trim_start}
use Rattle.sv_errors.specs.declared.code.Code.TheVariants.{InvalidSuffix}
use Rattle.sv_value.specs.Decimal.{Parts, digits_in, behind_digits, fraction_in, behind_fraction, is_down, exponent_in, behind_exponent}
use Rattle.sv_value.specs.Number.{magnitude, nearest, significant_digits, signed, read_with}
use Rattle.sv_value.specs.Value.{power_of_volts, within_volts}
use Rattle.sv_value.specs.PrintedVoltage.{PrintedIsRead, six_digits}
use Rattle.sv_value.proofs.Pieces.{digits_in_append, behind_digits_append}
use Rattle.sv_value.proofs.Rounding.{value_join, value_after_more_digits, nearest_right}
use Rattle.sv_value.proofs.Printed.{length_six, volts_short}
use Rattle.sv_lexer.proofs.Pushes.{some_length}

is_digit : (b : ℕ) → digit_value b < 10 → is_ascii_digit b ≡ true
is_digit b lt = grind (arith, nat_tests, lt)

all_digits : (ds : List ℕ) → AllDigits 10 ds → list_all is_ascii_digit ds ≡ true
all_digits [] h = refl
all_digits (d ∷ ds) h = rw (is_digit d h.0) (all_digits ds h.1)

decimal_digits : (n : ℕ) → n < 2 ^ 64 → list_all is_ascii_digit (decimal n) ≡ true
decimal_digits n lt = all_digits (decimal n) (decimal_is_IsNumeral n lt).0.1

zeros_digits : (k : ℕ) → list_all is_ascii_digit (replicate k 48) ≡ true
zeros_digits zero = refl
zeros_digits (suc k) = zeros_digits k

six_digits_back : (n : ℕ) → n < 1000000 → list_all is_ascii_digit (six_digits n) ≡ true
six_digits_back n lt =
    let zeros = zeros_digits (6 - length (decimal n)) in
    let digits = decimal_digits n (omega (arith, lt)) in
    list_all-append is_ascii_digit (replicate (6 - length (decimal n)) 48) (decimal n) ∙ rw (zeros, digits) refl

zeros_value : (k : ℕ) → digits_value 10 (replicate k 48) ≡ 0
zeros_value zero = refl
zeros_value (suc k) = zeros_value k

six_value : (n : ℕ) → n < 1000000 → digits_value 10 (six_digits n) ≡ n
six_value n lt =
    value_join (replicate (6 - length (decimal n)) 48) (decimal n)
    ∙ ap (λ v. digits_value_after 10 v (decimal n)) (zeros_value (6 - length (decimal n)))
    ∙ (decimal_is_IsNumeral n (omega (arith, lt))).1

-- The digits before and after the point have the value in microvolts.
whole_value : (m : ℕ) → m ≤ 1000000000 → digits_value 10 (decimal (m / 1000000) ++ six_digits (m % 1000000)) ≡ m
whole_value m le =
    let front = (decimal_is_IsNumeral (m / 1000000) (omega (arith, le))).1 in
    let behind = six_value (m % 1000000) (omega arith) in
    let size = length_six (m % 1000000) (omega arith) in
    value_join (decimal (m / 1000000)) (six_digits (m % 1000000))
    ∙ value_after_more_digits (digits_value 10 (decimal (m / 1000000))) (six_digits (m % 1000000))
    ∙ rw (front, behind, size) (omega arith)

-- The parts that are read from a sign, digits, a point, digits and the rest.
abbrev parts_of : Bool → List ℕ → List ℕ → List ℕ → Parts
parts_of negative whole fraction rest = record {
  negative = negative;
  whole = whole;
  fraction = fraction;
  down = is_down rest;
  exponent = exponent_in rest;
  suffix = trim_start (behind_exponent rest);
}

-- If the digits are decimal, these are the parts.
parts_printed : (negative : Bool) (whole fraction : List ℕ) → list_all is_ascii_digit whole ≡ true → list_all is_ascii_digit fraction ≡ true
    → parts_of negative (digits_in (whole ++ 46 ∷ fraction)) (fraction_in (behind_digits (whole ++ 46 ∷ fraction)))
    (behind_fraction (behind_digits (whole ++ 46 ∷ fraction))) ≡ parts_of negative whole fraction []
parts_printed negative whole fraction w f =
    let text : List ℕ = whole ++ 46 ∷ fraction in
    let front : digits_in text ≡ whole = digits_in_append whole (46 ∷ fraction) w ∙ append-nil whole in
    let behind : behind_digits text ≡ 46 ∷ fraction = behind_digits_append whole (46 ∷ fraction) w in
    let all : digits_in fraction ≡ fraction = ap digits_in (sym (append-nil fraction)) ∙ digits_in_append fraction [] f
    ∙ append-nil fraction in
    let none : behind_digits fraction ≡ [] = ap behind_digits (sym (append-nil fraction)) ∙ behind_digits_append fraction [] f in
    ap (λ d. parts_of negative d (fraction_in (behind_digits text)) (behind_fraction (behind_digits text))) front
    ∙ ap (λ b. parts_of negative whole (fraction_in b) (behind_fraction b)) behind
    ∙ ap (λ d. parts_of negative whole d (behind_digits fraction)) all
    ∙ ap (parts_of negative whole fraction) none

-- The parts of a printed voltage are read as this voltage.
read_parts : (negative : Bool) (m : ℕ) → m ≤ 1000000000
    → read_with (Some 6) InvalidSuffix (parts_of negative (decimal (m / 1000000)) (six_digits (m % 1000000)) []) ≡ Ok (signed negative m)
read_parts negative m le =
    let whole : List ℕ = decimal (m / 1000000) in
    let fraction : List ℕ = six_digits (m % 1000000) in
    let some = some_length whole (decimal_is_IsNumeral (m / 1000000) (omega (arith, le))).0.0 in
    let short = volts_short m le in
    let six = length_six (m % 1000000) (omega arith) in
    let joined = length-append whole fraction in
    let few : significant_digits (whole ++ fraction) ≤ 255 = omega (arith, short, six, joined) in
    let even : length fraction + 0 ≡ 6 = omega (arith, six) in
    let value : magnitude 6 (parts_of negative whole fraction []) ≡ m =
    ap (λ k. nearest (digits_value 10 (whole ++ fraction) * 10 ^ 6) (10 ^ k)) even
    ∙ nearest_right (digits_value 10 (whole ++ fraction)) 6 6 (omega arith) ∙ (let v = whole_value m le in omega (arith, v)) in
    rw (some, le-ltb 255 (significant_digits (whole ++ fraction)) few, value) refl

pub read_again : PrintedIsRead
read_again (pos n) le =
    let whole = decimal_digits (n / 1000000) (omega (arith, le)) in
    let fraction = six_digits_back (n % 1000000) (omega arith) in
    ap (λ p. within_volts (read_with (power_of_volts p.suffix) InvalidSuffix p))
    (parts_printed false (decimal (n / 1000000)) (six_digits (n % 1000000)) whole fraction)
    ∙ ap within_volts (read_parts false n le)
    ∙ rw (le-leb n 1000000000 le) refl
read_again (negsuc n) le =
    let whole = decimal_digits (suc n / 1000000) (omega (arith, le)) in
    let fraction = six_digits_back (suc n % 1000000) (omega arith) in
    ap (λ p. within_volts (read_with (power_of_volts p.suffix) InvalidSuffix p))
    (parts_printed true (decimal (suc n / 1000000)) (six_digits (suc n % 1000000)) whole fraction)
    ∙ ap within_volts (read_parts true (suc n) le)
    ∙ rw (le-leb n 999999999 (omega (arith, le))) refl
