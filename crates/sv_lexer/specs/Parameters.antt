-- The parameters of a program message unit (IEEE 488.2, 7.3.3 and 7.4.2).
use Rattle.std.specs.Prelude.{ℕ, ◌+◌, ◌==◌, ◌&&◌, not, Bool, true, false, List, [], ◌∷◌, length, take, reverse, slice_index_or, Option, Some, None, if◌then◌else◌}
use Rattle.sv_text.specs.Front.{is_empty}
use Rattle.std.specs.List.{list_any, sum_by, onto_first}
use Rattle.sv_errors.specs.declared.code.Code.{Code}
use Rattle.sv_errors.specs.declared.code.Code.TheVariants.{InvalidExpression, SyntaxError}
use Rattle.sv_text.specs.White.{trim}
use Rattle.sv_lexer.specs.Unit.{rest, rest_place, white_size}

-- whether a parenthesis is open at the end of a text: the last parenthesis in the text is an
-- opening one. The argument lists the bytes of the text from the last to the first.
abbrev pub is_open : List ℕ → Bool
is_open [] = false
is_open (b ∷ before) = if b == 40 then true else if b == 41 then false else is_open before

-- `bytes`, cut at each comma outside parentheses; `before` are the bytes in front of `bytes`, from
-- the last to the first
abbrev pub cut_outside : (before bytes : List ℕ) → List (List ℕ)
cut_outside before [] = [] ∷ []
cut_outside before (b ∷ bytes) = if b == 44 && not (is_open before) then []
    ∷ cut_outside (b ∷ before) bytes else onto_first b (cut_outside (b ∷ before) bytes)

-- the parts of a text between its commas outside parentheses; no parts if the text is empty
abbrev pub parts : List ℕ → List (List ℕ)
parts text = if is_empty text then [] else cut_outside [] text

-- the position at which the part with this index begins: the length of all parts in front of it,
-- plus one comma for each of them
abbrev pub part_place : ℕ → List (List ℕ) → ℕ
part_place index parts = sum_by (λ part. length part + 1) (take index parts)

-- how many parameters a unit has
abbrev pub count : List ℕ → ℕ
count unit = length (parts (rest unit))

-- the part with this index, counted from 0. The parts are those between the commas outside
-- parentheses in a unit's program data.
abbrev part : List ℕ → ℕ → List ℕ
part unit index = slice_index_or (parts (rest unit)) index []

-- the parameter of a unit with this index, counted from 0: the part with this index, without white
-- space around it
abbrev pub parameter : List ℕ → ℕ → List ℕ
parameter unit index = trim (part unit index)

-- where the parameter with this index begins in the unit
abbrev pub parameter_place : List ℕ → ℕ → ℕ
parameter_place unit index = rest_place unit + part_place index (parts (rest unit)) + white_size (part unit index)

-- whether a part is empty or has only white space
abbrev pub is_blank : List ℕ → Bool
is_blank part = is_empty (trim part)

-- the fault of the parameters: -171 if a parenthesis isn't closed; else -102 if a parameter is
-- empty; else `None`
abbrev pub parameters_fault : List ℕ → Option Code
parameters_fault unit =
    if is_open (reverse (rest unit)) then Some InvalidExpression
    else if list_any is_blank (parts (rest unit)) then Some SyntaxError
    else None

-- whether a parenthesis is open after byte b; `inside` says whether a parenthesis was open before
-- this byte
abbrev pub opens : Bool → ℕ → Bool
opens inside b = if b == 40 then true else if b == 41 then false else inside

-- how long the part before the first comma outside parentheses is; `inside` says whether a
-- parenthesis is open in front of the bytes
abbrev pub first_size : Bool → List ℕ → ℕ
first_size inside [] = 0
first_size inside (b ∷ bytes) = if b == 44 && not inside then 0 else 1 + first_size (opens inside b) bytes
