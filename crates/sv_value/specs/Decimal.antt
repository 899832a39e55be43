-- The parts of a decimal number (IEEE 488.2, 7.7.2 and 7.7.3): a sign, digits with a point, an
-- exponent, and a suffix.
use Rattle.std.specs.Prelude.{ℕ, ◌==◌, ◌&&◌, ◌||◌, not, Bool, true, List, [], ◌∷◌, take, drop, slice_get, if◌then◌else◌}
use Rattle.sv_text.specs.Front.{is_empty, has_minus}
use Rattle.std.specs.Option.{option_map_or}
use Rattle.std.specs.List.{position_or_len}
use Rattle.std.specs.Char.{is_ascii_digit, is_ascii_alphabetic}
use Rattle.sv_text.specs.White.{trim_start}

-- how many digits the text begins with
abbrev pub digits_size : List ℕ → ℕ
digits_size text = position_or_len (λ b. not (is_ascii_digit b)) text

-- the digits that the text begins with
abbrev pub digits_in : List ℕ → List ℕ
digits_in text = take (digits_size text) text

-- the text after its leading digits
abbrev pub behind_digits : List ℕ → List ℕ
behind_digits text = drop (digits_size text) text

-- the text after its sign; the whole text if it has no sign
abbrev pub behind_sign : List ℕ → List ℕ
behind_sign [] = []
behind_sign (b ∷ text) = if b == 43 || b == 45 then text else b ∷ text

-- the digits after a leading point; none if the text doesn't begin with a point
abbrev pub fraction_in : List ℕ → List ℕ
fraction_in [] = []
fraction_in (b ∷ text) = if b == 46 then digits_in text else []

-- the text after a leading point and the digits that follow the point; the whole text if it doesn't
-- begin with a point
abbrev pub behind_fraction : List ℕ → List ℕ
behind_fraction [] = []
behind_fraction (b ∷ text) = if b == 46 then behind_digits text else b ∷ text

-- the text that follows a leading E and the white space after this E; empty if the text doesn't
-- begin with an E
abbrev pub behind_letter : List ℕ → List ℕ
behind_letter [] = []
behind_letter (b ∷ text) = if b == 69 || b == 101 then trim_start text else []

-- the text after leading white space, an E and more white space; empty if no E follows the leading
-- white space
abbrev pub behind_mark : List ℕ → List ℕ
behind_mark text = behind_letter (trim_start text)

-- the digits of the exponent with which the text begins; empty if it begins with no exponent. An E
-- without digits is no exponent.
abbrev pub exponent_in : List ℕ → List ℕ
exponent_in text = digits_in (behind_sign (behind_mark text))

-- whether the text begins with an exponent that has a minus sign
abbrev pub is_down : List ℕ → Bool
is_down text = not (is_empty (exponent_in text)) && has_minus (behind_mark text)

-- the text after the exponent with which it begins; the whole text if it begins with no exponent
abbrev pub behind_exponent : List ℕ → List ℕ
behind_exponent text = if is_empty (exponent_in text) then text else behind_digits (behind_sign (behind_mark text))

-- the parts of a decimal number: its sign, digits, exponent and suffix
pub record Parts : Type 0 where
  pub negative : Bool
  pub whole : List ℕ
  pub fraction : List ℕ
  pub down : Bool
  pub exponent : List ℕ
  pub suffix : List ℕ

-- the text that remains after an optional sign and the digits behind the sign
abbrev pub behind_whole : List ℕ → List ℕ
behind_whole text = behind_digits (behind_sign text)

-- the text that remains after the mantissa: after an optional sign, digits, and an optional point
-- with digits
abbrev pub behind_mantissa : List ℕ → List ℕ
behind_mantissa text = behind_fraction (behind_whole text)

-- the sign, digits, exponent and suffix of a text that is read as a decimal number
abbrev pub number_parts : List ℕ → Parts
number_parts text = record {
  negative = has_minus text;
  whole = digits_in (behind_sign text);
  fraction = fraction_in (behind_whole text);
  down = is_down (behind_mantissa text);
  exponent = exponent_in (behind_mantissa text);
  suffix = trim_start (behind_exponent (behind_mantissa text));
}

-- whether a suffix is empty or begins with a letter
abbrev pub begins_well : List ℕ → Bool
begins_well suffix = option_map_or is_ascii_alphabetic (slice_get suffix 0) true

-- whether the parts are those of a number: the mantissa has a digit, and the suffix is empty or
-- begins with a letter
abbrev pub is_spelled : Parts → Bool
is_spelled number = not (is_empty number.whole && is_empty number.fraction) && begins_well number.suffix
