-- The error of a unit that ends after the bytes read so far, and the positions at which the unit's
-- header and parameters begin and end.
use Rattle.std.specs.Prelude.{◌≡◌, ℕ, ◌+◌, max, List, length, Option, Some, None, nat_le, if◌then◌else◌}
use Rattle.sv_errors.specs.declared.code.Code.{Code}
use Rattle.sv_errors.specs.declared.code.Code.TheVariants.{InvalidCharacter, SyntaxError, ProgramMnemonicTooLong}
use Rattle.sv_lexer.specs.Unit.{header, header_place, rest, rest_place}
use Rattle.sv_lexer.specs.declared.stage.Stage.{Stage}
use Rattle.sv_lexer.specs.declared.stage.Stage.TheVariants.{CommonMnemonic, Mnemonic, QuerySign, HeaderSeparator, ProgramData, DataSpace, Illegal}
use Rattle.sv_lexer.specs.Partial.{Progress}

-- the error of a unit with a mnemonic of more than 12 characters (-112); `None` if the unit has no
-- such mnemonic
abbrev pub length_fault_of : Progress → Option Code
length_fault_of p = if nat_le (max p.longest p.mnemonic) 12 then None else Some ProgramMnemonicTooLong

-- the error of a unit that ends at this stage: an illegal byte (-101); a header that isn't complete
-- or is misspelled (-102); or a mnemonic of more than 12 characters (-112). `None` if there is no
-- error.
abbrev pub fault_of : Stage → Progress → Option Code
fault_of CommonMnemonic p = length_fault_of p
fault_of Mnemonic p = length_fault_of p
fault_of QuerySign p = length_fault_of p
fault_of HeaderSeparator p = length_fault_of p
fault_of ProgramData p = length_fault_of p
fault_of DataSpace p = length_fault_of p
fault_of Illegal p = Some InvalidCharacter
fault_of _ p = Some SyntaxError

-- where the program data begin, or where they end, if the unit ends at this stage; the definition
-- is used for both positions. If the unit has program data, the position is `in_data`; else it is
-- `behind_header`, the position after the header.
abbrev pub data_of : Stage → (behind_header in_data : ℕ) → ℕ
data_of ProgramData behind_header in_data = in_data
data_of DataSpace behind_header in_data = in_data
data_of _ behind_header in_data = behind_header

-- The header of the unit begins and ends at `header_start` and `header_end`. The text of its
-- parameters begins and ends at `data_start` and `data_end`.
pub record IsCut (unit : List ℕ) (header_start header_end data_start data_end : ℕ) : Type 0 where
  pub header_begins : header_start ≡ header_place unit
  pub header_ends : header_end ≡ header_place unit + length (header unit)
  pub data_begins : data_start ≡ rest_place unit
  pub data_ends : data_end ≡ rest_place unit + length (rest unit)
