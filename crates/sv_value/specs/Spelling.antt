-- The syntax of decimal numbers (IEEE 488.2, 7.7.2 and 7.7.3), as a relation between a text and its
-- pieces.
use Rattle.std.specs.Prelude.{◌≡◌, ◌≢◌, ◌↔◌, ◌⊎◌, ℕ, Bool, true, false, List, [], ◌∷◌, ◌++◌}
use Rattle.std.specs.List.{list_all}
use Rattle.std.specs.Char.{is_ascii_digit}
use Rattle.sv_text.specs.White.{is_white}
use Rattle.sv_value.specs.Decimal.{Parts, number_parts, begins_well, is_spelled}

-- All bytes are digits.
abbrev pub AreDigits : List ℕ → Type 0
AreDigits text = list_all is_ascii_digit text ≡ true

-- All bytes are white space.
abbrev pub IsSpace : List ℕ → Type 0
IsSpace text = list_all is_white text ≡ true

-- The text is a sign, or empty; `minus` says whether it is a minus sign.
abbrev pub IsSign : List ℕ → Bool → Type 0
IsSign text minus = ((text ≡ []) × (minus ≡ false)) ⊎ ((text ≡ 43 ∷ []) × (minus ≡ false)) ⊎ ((text ≡ 45 ∷ []) × (minus ≡ true))

-- The text is a point followed by `digits`; or both the text and `digits` are empty.
abbrev pub IsFraction : List ℕ → List ℕ → Type 0
IsFraction text digits = ((text ≡ []) × (digits ≡ [])) ⊎ ((text ≡ 46 ∷ digits) × AreDigits digits)

-- The text is an exponent: an E, with or without white space around it; a sign or none; and these
-- digits, at least one.
abbrev pub IsExponent : List ℕ → Bool → List ℕ → Type 0
IsExponent text minus digits = (before behind sign : List ℕ) × (letter : ℕ) × (text ≡ before ++ letter ∷ (behind ++ (sign ++ digits)))
    × IsSpace before × ((letter ≡ 69) ⊎ (letter ≡ 101)) × IsSpace behind × IsSign sign minus × AreDigits digits × (digits ≢ [])

-- The text doesn't begin with an exponent.
abbrev pub NoExponent : List ℕ → Type 0
NoExponent text = (exponent behind digits : List ℕ) (minus : Bool) → text ≡ exponent ++ behind → IsExponent exponent minus digits → ⊥

-- The text is white space followed by this suffix. The suffix is empty or begins with a letter.
abbrev pub IsSuffix : List ℕ → List ℕ → Type 0
IsSuffix text suffix = (space : List ℕ) × (text ≡ space ++ suffix) × IsSpace space × (begins_well suffix ≡ true)

-- The text is what follows the mantissa of a number with these parts: an exponent and a suffix; or,
-- if the number has no exponent, a suffix alone. A text that is a suffix alone doesn't begin with
-- an exponent.
abbrev pub IsTail : List ℕ → Parts → Type 0
IsTail text number = ((exponent behind : List ℕ) × (text ≡ exponent ++ behind) × IsExponent exponent number.down number.exponent
    × IsSuffix behind number.suffix)
    ⊎ (NoExponent text × (number.down ≡ false) × (number.exponent ≡ []) × IsSuffix text number.suffix)

-- The text is a number with these parts: a sign or none; digits; a point with digits or none; an
-- exponent or none; a suffix or none. The mantissa has at least one digit.
abbrev pub Spells : List ℕ → Parts → Type 0
Spells text number = (sign fraction tail : List ℕ) × (text ≡ sign ++ (number.whole ++ (fraction ++ tail))) × IsSign sign number.negative
    × AreDigits number.whole
    × IsFraction fraction number.fraction × ((number.whole ≢ []) ⊎ (number.fraction ≢ [])) × IsTail tail number

-- The syntax (`Spells`) and the reading of numbers agree: a text is a number with the parts
-- `number` exactly if `number_parts` returns `number` for this text, and `is_spelled` holds for
-- `number`.
abbrev pub ReadAsSpelled : Type 0
ReadAsSpelled = (text : List ℕ) (number : Parts) → Spells text number ↔ ((is_spelled (number_parts text) ≡ true)
    × (number_parts text ≡ number))
