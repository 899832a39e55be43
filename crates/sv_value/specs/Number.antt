-- The value of a decimal number: the quotient of two whole numbers, rounded to the nearest whole
-- number, half away from zero.
use Rattle.std.specs.Prelude.{ℕ, ◌+◌, ◌-◌, ◌*◌, ◌/◌, ◌^◌, ℤ, pos, neg_ℤ, ◌==◌, Bool, List, ◌++◌, length, nat_lt, not, Option, Some, None, Result, Ok, Err, if◌then◌else◌}
use Rattle.std.specs.List.{position_or_len}
use Rattle.std.specs.Str.Parse.{digits_value}
use Rattle.sv_errors.specs.declared.code.Code.{Code}
use Rattle.sv_errors.specs.declared.code.Code.TheVariants.{InvalidCharacterInNumber, TooManyDigits, ExponentTooLarge}
use Rattle.sv_value.specs.Decimal.{Parts, number_parts, is_spelled}

-- the whole number nearest to `numerator` / `denominator`; a half is rounded up
abbrev pub nearest : ℕ → ℕ → ℕ
nearest numerator denominator = (2 * numerator + denominator) / (2 * denominator)

-- by how many places the exponent moves the decimal point to the right; 0 if the exponent is
-- negative
abbrev pub right : Parts → ℕ
right number = if number.down then 0 else digits_value 10 number.exponent

-- by how many places the exponent moves the decimal point to the left; 0 if the exponent isn't
-- negative
abbrev pub left : Parts → ℕ
left number = if number.down then digits_value 10 number.exponent else 0

-- the magnitude of a number times 10 to the power `power`, rounded to a whole number
abbrev pub magnitude : ℕ → Parts → ℕ
magnitude power number = nearest (digits_value 10 (number.whole ++ number.fraction) * 10 ^ (power + right number))
    (10 ^ (length number.fraction + left number))

-- a magnitude with its sign
abbrev pub signed : Bool → ℕ → ℤ
signed negative n = if negative then neg_ℤ (pos n) else pos n

-- how many digits a mantissa has, without leading zeros
abbrev pub significant_digits : List ℕ → ℕ
significant_digits digits = length digits - position_or_len (λ b. not (b == 48)) digits

-- The value of a number, or the first error that applies: -121 if the parts don't spell a number;
-- `suffix_code` if the suffix isn't allowed; -124 for more than 255 significant digits; -123 for an
-- exponent above 32000 in magnitude. The first argument is the power of ten of the suffix, or
-- `None` if the suffix isn't allowed.
abbrev pub read_with : Option ℕ → Code → Parts → Result ℤ Code
read_with None suffix_code number = if not (is_spelled number) then Err InvalidCharacterInNumber else Err suffix_code
read_with (Some power) suffix_code number =
    if not (is_spelled number) then Err InvalidCharacterInNumber
    else if nat_lt 255 (significant_digits (number.whole ++ number.fraction)) then Err TooManyDigits
    else if nat_lt 32000 (digits_value 10 number.exponent) then Err ExponentTooLarge
    else Ok (signed number.negative (magnitude power number))

-- the value of a text as a decimal number, or the first error. `power_of` gives the power of ten
-- that a suffix stands for; `suffix_code` is the error for a suffix that isn't allowed.
abbrev pub read_decimal : (List ℕ → Option ℕ) → Code → List ℕ → Result ℤ Code
read_decimal power_of suffix_code text = read_with (power_of (number_parts text).suffix) suffix_code (number_parts text)
