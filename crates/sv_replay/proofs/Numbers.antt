-- The number or voltage that is read from a text is the one that its digits spell.
use Rattle.std.proofs.Common.{◌≡◌, ℕ, ◌+◌, ◌-◌, ◌*◌, ◌^◌, ◌≤◌, zero, suc, true, false, ltb, leb, ℤ, pos, negsuc, neg_ℤ, List, [], ◌∷◌, length, drop, Some, option_map, fold, refl, sym, subst, ap, ◌∙◌, inl, inr, add-one, arith}
use Rattle.sv_text.specs.Front.{has_minus}
use Rattle.std.specs.Char.{is_ascii_digit}
use Rattle.std.specs.List.{AllByRecursion}
use Rattle.std.proofs.lemmas.Bool.{and_from, and_parts, le-leb, leb-true, le-ltb, ltb-false, eqb-true, eqb-false, ne_eqb}
use Rattle.std.proofs.lemmas.Option.{none-some, same_Some}
use Rattle.std.proofs.Math.Nat.{mul-le-mul_right, mul_assoc, pow-succ', pow-le-pow_right, le_trans}
use Rattle.sv_replay.specs.Line.{IsNumber, HasNoLeadingZero, IsPlain, IsVoltage}
use Rattle.sv_replay.specs.Reading.{digits_onto, number_at, has_leading_zero, plain_at, short_at, voltage_at}
use Rattle.sv_replay.proofs.Options.{from_mapped_some, from_cond}

-- The characters are decimal digits.
abbrev pub AreDigits : List ℕ → Type 0
AreDigits digits = AllByRecursion (λ digit. (48 ≤ digit) × (digit ≤ 57)) digits

-- The number whose decimal digits are those of `n` and then these.
abbrev value_onto : ℕ → List ℕ → ℕ
value_onto n digits = fold (λ m digit. 10 * m + (digit - 48)) n digits

-- More digits never make a number smaller, so a partial value above the limit is final.
value_grows_with_digits : (n : ℕ) (digits : List ℕ) → n ≤ value_onto n digits
value_grows_with_digits n [] = omega arith
value_grows_with_digits n (digit ∷ digits) = omega (arith, value_grows_with_digits (10 * n + (digit - 48)) digits)

-- Digits are read as the number that they spell, unless it is above `most`.
digits_reads : (most n : ℕ) (digits : List ℕ) → AreDigits digits → value_onto n digits ≤ most
    → digits_onto most n digits ≡ Some (value_onto n digits)
unfolding digits_onto
digits_reads most n [] are below = refl
digits_reads most n (digit ∷ digits) are below =
    rw (
      and_from (leb 48 digit) (leb digit 57) (le-leb 48 digit are.0.0) (le-leb digit 57 are.0.1),
      le-ltb most (10 * n + (digit - 48)) (omega (arith, value_grows_with_digits (10 * n + (digit - 48)) digits)),
    )
    (digits_reads most (10 * n + (digit - 48)) digits are.1 below)

-- Characters that are read as a number are digits that spell it.
digits_takes : (most n m : ℕ) (digits : List ℕ) → n ≤ most → digits_onto most n digits ≡ Some m
    → AreDigits digits × (m ≡ value_onto n digits) × (m ≤ most)
unfolding digits_onto
digits_takes most n m [] below e = (tt, sym (same_Some n m e), omega (arith, same_Some n m e))
digits_takes most n m (digit ∷ digits) below e =
    from_cond (is_ascii_digit digit) _ _ (Some m) e
    (λ is e1. from_cond (ltb most (10 * n + (digit - 48))) _ _ (Some m) e1
    (λ above none. absurd (none-some m none))
    (λ fits e2.
    let range = and_parts (leb 48 digit) (leb digit 57) is in
    let more = digits_takes most (10 * n + (digit - 48)) m digits (ltb-false most (10 * n + (digit - 48)) fits) e2 in
    (((leb-true 48 digit range.0, leb-true digit 57 range.1), more.0), more.1, more.2)))
    (λ other none. absurd (none-some m none))

pub number_reads : (most n : ℕ) (digits : List ℕ) → IsNumber digits n → n ≤ most → number_at most digits ≡ Some n
unfolding number_at
number_reads most n [] is below = absurd (is.0 refl)
number_reads most n (digit ∷ digits) is below =
    digits_reads most 0 (digit ∷ digits) is.1 (omega (arith, is.2)) ∙ ap Some (sym is.2)

pub number_takes : (most n : ℕ) (digits : List ℕ) → number_at most digits ≡ Some n → IsNumber digits n × (n ≤ most)
unfolding number_at
number_takes most n [] e = absurd (none-some n e)
number_takes most n (digit ∷ digits) e =
    let takes = digits_takes most 0 n (digit ∷ digits) (omega arith) e in
    (((λ none. cc), takes.0, takes.1), takes.2)

no_leading_zero_reads : (digits : List ℕ) → HasNoLeadingZero digits → has_leading_zero digits ≡ false
no_leading_zero_reads [] is = refl
no_leading_zero_reads (digit ∷ []) is = refl
no_leading_zero_reads (digit ∷ other ∷ digits) is = ne_eqb digit 48 is

no_leading_zero_takes : (digits : List ℕ) → has_leading_zero digits ≡ false → HasNoLeadingZero digits
no_leading_zero_takes [] e = tt
no_leading_zero_takes (digit ∷ []) e = tt
no_leading_zero_takes (digit ∷ other ∷ digits) e = eqb-false digit 48 e

pub plain_reads : (most n : ℕ) (digits : List ℕ) → IsPlain most digits n → plain_at most digits ≡ Some n
unfolding plain_at
plain_reads most n digits is = rw (no_leading_zero_reads digits is.1) (number_reads most n digits is.0 is.2)

pub plain_takes : (most n : ℕ) (digits : List ℕ) → plain_at most digits ≡ Some n → IsPlain most digits n
unfolding plain_at
plain_takes most n digits e =
    from_cond (has_leading_zero digits) _ _ (Some n) e
    (λ leading none. absurd (none-some n none))
    (λ not e1. let takes = number_takes most n digits e1 in (takes.0, no_leading_zero_takes digits not, takes.1))

-- `n` followed by `k` digits is below `n + 1` followed by `k` zeros.
value_below_next : (n : ℕ) (digits : List ℕ) → AreDigits digits → value_onto n digits + 1 ≤ (n + 1) * 10 ^ length digits
value_below_next n [] are = omega arith
value_below_next n (digit ∷ digits) are =
    let p = 10 ^ length digits in
    let once : (10 * n + (digit - 48) + 1) * p ≤ (n + 1) * 10 * p = mul-le-mul_right p (omega (arith, are.0.0, are.0.1)) in
    rw (pow-succ' 10 (length digits), ← mul_assoc (n + 1) 10 p) (le_trans (value_below_next (10 * n + (digit - 48)) digits are.1) once)

-- At most 18 digits spell a number below 10^18, so reading them never exceeds the limit.
short_number_bound : (n : ℕ) (digits : List ℕ) → IsNumber digits n → length digits ≤ 18 → n ≤ 999999999999999999
short_number_bound n digits is short =
    omega (arith, value_below_next 0 digits is.1, is.2, pow-le-pow_right {n = 10} (omega arith) {i = length digits} {j = 18} short)

pub short_reads : (n : ℕ) (digits : List ℕ) → IsNumber digits n → length digits ≤ 18 → short_at digits ≡ Some n
unfolding short_at
short_reads n digits is short = rw (le-ltb 18 (length digits) short)
    (number_reads 999999999999999999 n digits is (short_number_bound n digits is short))

pub short_takes : (n : ℕ) (digits : List ℕ) → short_at digits ≡ Some n → IsNumber digits n × (length digits ≤ 18)
unfolding short_at
short_takes n digits e =
    from_cond (ltb 18 (length digits)) _ _ (Some n) e
    (λ long none. absurd (none-some n none))
    (λ short e1. ((number_takes 999999999999999999 n digits e1).0, ltb-false 18 (length digits) short))

digits_no_minus : (digits : List ℕ) → AreDigits digits → has_minus digits ≡ false
digits_no_minus [] are = refl
digits_no_minus (digit ∷ digits) are = ne_eqb digit 45 (λ e. omega (arith, are.0.0))

minus_takes : (text : List ℕ) → has_minus text ≡ true → text ≡ 45 ∷ drop 1 text
minus_takes [] e = absurd cc
minus_takes (byte ∷ bytes) e = ap (λ b. b ∷ bytes) (eqb-true byte 45 e)

unsigned_reads : (n : ℕ) (digits : List ℕ) → IsNumber digits n → length digits ≤ 18 → voltage_at digits ≡ Some (pos n)
unfolding voltage_at
unsigned_reads n digits is short = rw (digits_no_minus digits is.1) (ap (option_map pos) (short_reads n digits is short))

signed_reads : (n : ℕ) (digits : List ℕ) → IsNumber digits n → length digits ≤ 18 → voltage_at (45 ∷ digits) ≡ Some (neg_ℤ (pos n))
unfolding voltage_at
signed_reads n digits is short = ap (option_map (λ m. neg_ℤ (pos m))) (short_reads n digits is short)

-- A text that spells a voltage is read as this voltage.
pub voltage_reads : (text : List ℕ) (z : ℤ) → IsVoltage text z → voltage_at text ≡ Some z
voltage_reads text (pos n) is =
    elim is.3 [
      | inl plain ↦ rw plain (unsigned_reads n is.0 is.1 is.2)
      | inr minus ↦ rw minus.1 (signed_reads n is.0 is.1 is.2 ∙ ap Some (rw minus.0 refl))
    ]
voltage_reads text (negsuc n) is = rw (is.3) (signed_reads (n + 1) is.0 is.1 is.2 ∙ ap Some (rw (add-one n) refl))

-- A minus sign and digits spell a voltage below zero, or zero.
negative_voltage : (text digits : List ℕ) (n : ℕ) → IsNumber digits n → length digits ≤ 18 → text ≡ 45 ∷ digits
    → IsVoltage text (neg_ℤ (pos n))
negative_voltage text digits zero is short e = (digits, is, short, inr (refl, e))
negative_voltage text digits (suc n) is short e = (digits, subst (IsNumber digits) (sym (add-one n)) is, short, e)

-- A text that is read as a voltage spells it.
pub voltage_takes : (text : List ℕ) (z : ℤ) → voltage_at text ≡ Some z → IsVoltage text z
unfolding voltage_at
voltage_takes text z e =
    from_cond (has_minus text) _ _ (Some z) e
    (λ minus e1. from_mapped_some (λ n. neg_ℤ (pos n)) (short_at (drop 1 text)) z e1 (λ n read is.
    let takes = short_takes n (drop 1 text) read in
    subst (IsVoltage text) is (negative_voltage text (drop 1 text) n takes.0 takes.1 (minus_takes text minus))))
    (λ other e1. from_mapped_some pos (short_at text) z e1 (λ n read is.
    let takes = short_takes n text read in
    subst (IsVoltage text) is (text, takes.0, takes.1, inl refl)))
