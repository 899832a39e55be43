-- Numbers in base 16, 8 or 2 (IEEE 488.2, 7.7.4).
use Rattle.std.specs.Prelude.{ℕ, ℤ, pos, ◌==◌, ◌||◌, not, Bool, false, List, ◌∷◌, slice_get, Option, Some, None, Result, Ok, Err, if◌then◌else◌}
use Rattle.std.specs.Option.{option_map_or}
use Rattle.std.specs.Char.{is_digit}
use Rattle.std.specs.List.{list_all}
use Rattle.std.specs.Str.Parse.{digits_value}
use Rattle.sv_errors.specs.declared.code.Code.{Code}
use Rattle.sv_errors.specs.declared.code.Code.TheVariants.{SyntaxError, InvalidCharacterInNumber}

-- the base that a letter names, in upper or lower case: 16 for H, 8 for Q, 2 for B
abbrev pub base_of : ℕ → Option ℕ
base_of letter =
    if letter == 72 || letter == 104 then Some 16 else if letter == 81 || letter == 113 then Some 8 else if letter == 66 || letter == 98
    then Some 2 else None

-- whether the text begins with a digit of this base
abbrev pub begins_with_digit : ℕ → List ℕ → Bool
begins_with_digit base digits = option_map_or (λ b. is_digit b base) (slice_get digits 0) false

-- the value of digits in this base, or the error: -102 if the base is `None` or the first byte
-- isn't a digit of the base; -121 if a later byte isn't a digit of the base
abbrev pub read_digits : Option ℕ → List ℕ → Result ℤ Code
read_digits None digits = Err SyntaxError
read_digits (Some base) digits =
    if not (begins_with_digit base digits) then Err SyntaxError
    else if not (list_all (λ b. is_digit b base) digits) then Err InvalidCharacterInNumber
    else Ok (pos (digits_value base digits))

-- the value of `#`, a letter for the base, and digits; or the first error that applies: -102 if the
-- letter names no base or no digit of the base follows it; -121 if a later byte isn't a digit of
-- the base
abbrev pub read_based : List ℕ → Result ℤ Code
read_based (sign ∷ letter ∷ digits) = read_digits (base_of letter) digits
read_based _ = Err SyntaxError
