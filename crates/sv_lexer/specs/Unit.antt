-- The header of a program message unit, the text after the header, and the syntax faults of a unit
-- (IEEE 488.2, 7.3 and 7.6).
use Rattle.std.specs.Prelude.{◌≡◌, ℕ, ◌+◌, ◌&&◌, ◌||◌, not, Bool, List, take, drop, Option, Some, None, Result, MatchResult, nat_lt, nat_le, length, if◌then◌else◌}
use Rattle.std.specs.List.{prefix_len, position_or_len, list_all}
use Rattle.sv_errors.specs.declared.code.Code.{Code}
use Rattle.sv_errors.specs.declared.code.Code.TheVariants.{InvalidCharacter, SyntaxError, ProgramMnemonicTooLong}
use Rattle.sv_text.specs.White.{is_white, trim, trim_start}
use Rattle.sv_lexer.specs.Spelled.{is_header, words}

-- how many bytes of white space the bytes begin with
abbrev pub white_size : List ℕ → ℕ
white_size bytes = prefix_len is_white bytes

-- how many bytes the header of a unit has: the header ends before the first white space
abbrev pub header_size : List ℕ → ℕ
header_size unit = position_or_len is_white (trim unit)

-- the header of a unit
abbrev pub header : List ℕ → List ℕ
header unit = take (header_size unit) (trim unit)

-- where the header begins in the unit
abbrev pub header_place : List ℕ → ℕ
header_place unit = white_size unit

-- the text of a unit after its header, without white space at the end
abbrev behind : List ℕ → List ℕ
behind unit = drop (header_size unit) (trim unit)

-- the text of a unit's parameters, including the commas between them
abbrev pub rest : List ℕ → List ℕ
rest unit = trim_start (behind unit)

-- where the text of the parameters begins in the unit
abbrev pub rest_place : List ℕ → ℕ
rest_place unit = header_place unit + header_size unit + white_size (behind unit)

-- whether this byte is allowed in a unit: it is white space, or from 33 to 126
abbrev pub is_legal : ℕ → Bool
is_legal b = is_white b || (nat_lt 32 b && nat_lt b 127)

-- the first fault of a unit: an illegal byte (-101); no valid header where the header should be
-- (-102); or a mnemonic of more than 12 characters (-112). `None` if there is no fault.
abbrev pub unit_fault : List ℕ → Option Code
unit_fault unit =
    if not (list_all is_legal unit) then Some InvalidCharacter
    else if not (is_header (header unit)) then Some SyntaxError
    else if not (list_all (λ word. nat_le (length word) 12) (words (header unit))) then Some ProgramMnemonicTooLong
    else None

-- Reading these bytes as a unit has this outcome: the bytes themselves if the unit has no fault,
-- else its first fault.
abbrev pub IsLexed : Result (List ℕ) Code → List ℕ → Type 0
IsLexed outcome bytes = MatchResult outcome (λ unit. (unit ≡ bytes) × (unit_fault bytes ≡ None)) (λ code. unit_fault bytes ≡ Some code)
