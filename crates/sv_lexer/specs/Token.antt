-- The tokens of a unit: their kinds and positions.
use Rattle.std.specs.Prelude.{◌≡◌, ℕ, min, ◌==◌, ◌||◌, Bool, List, [], ◌∷◌, ◌++◌, length, if◌then◌else◌}
use Rattle.std.specs.Char.{is_ascii_digit, is_ascii_alphabetic as is_letter}
use Rattle.sv_lexer.specs.declared.token.Kind.{Kind}
use Rattle.sv_lexer.specs.declared.token.Kind.TheVariants.{Number, Base, Word, Expression, Other}
use Rattle.sv_lexer.specs.declared.token.Token.{Token}

-- whether a byte can begin a number: a digit, a sign or a point
abbrev begins_number : ℕ → Bool
begins_number b = is_ascii_digit b || (b == 43 || (b == 45 || b == 46))

-- the kind of the data in a text, determined by the first byte of the text (IEEE 488.2, 7.7)
abbrev pub kind_of : List ℕ → Kind
kind_of [] = Other
kind_of (b ∷ text) =
    if begins_number b then Number else if b == 35 then Base else if is_letter b then Word else if b == 40 then Expression else Other

-- the position `place`, but at most 2 ^ 32 - 1
abbrev pub in_u32 : ℕ → ℕ
in_u32 place = min place 4294967295

-- The unit contains `text` from position `place` on.
abbrev pub StandsAt : List ℕ → ℕ → List ℕ → Type 0
StandsAt unit place text = (front behind : List ℕ) × (unit ≡ front ++ (text ++ behind)) × (length front ≡ place)

-- The unit contains `slice` from position `place` on. The token has `slice` as its text, the kind
-- of the data in `slice`, and the position `place`, capped at 2 ^ 32 - 1.
pub record IsToken (unit : List ℕ) (place : ℕ) (slice : List ℕ) (token : Token) : Type 0 where
  pub text : token.text.now ≡ slice
  pub start : token.start ≡ in_u32 place
  pub kind : token.kind ≡ kind_of slice
  pub stands : StandsAt unit place slice
