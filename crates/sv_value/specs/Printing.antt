-- How response data are printed (IEEE 488.2, 8.7).
use Rattle.std.specs.Prelude.{ℕ, Bool, List, ◌++◌, codes, decimal, if◌then◌else◌}
use Rattle.std.specs.List.{join_by}
use Rattle.std.specs.Fmt.{signed_decimal}
use Rattle.sv_errors.specs.Code.{number_of, text_of}
use Rattle.sv_errors.specs.declared.code.Code.{Code}
use Rattle.sv_errors.specs.declared.source.Source.{Source}
use Rattle.sv_errors.specs.declared.source.Source.TheVariants.{Immediate, Bus, External}

-- how an overload is printed: -9.9E+37 for a voltage below the range, +9.9E+37 for one above it
-- (SCPI-1999, volume 1, 7.2.1.5)
abbrev pub overload_text : Bool → List ℕ
overload_text below = if below then codes "-9.9E+37" else codes "+9.9E+37"

-- how a whole number is printed: its digits, without a sign or leading zeros
abbrev pub whole_text : ℕ → List ℕ
whole_text number = decimal number

-- how a channel list is printed: channels in decimal, separated by commas, between `(@` and `)`
-- (SCPI-1999, volume 1, chapter 8)
abbrev pub channels_text : List ℕ → List ℕ
channels_text channels = codes "(@" ++ (join_by decimal (codes ",") channels ++ codes ")")

-- how an entry of the error queue is printed: its number, a comma, and its text in double quotes
-- (SCPI-1999, volume 2, section 21.8)
abbrev pub error_text : Code → List ℕ
error_text code = signed_decimal (number_of code) ++ (codes ",\"" ++ (text_of code ++ codes "\""))

-- how a boolean is printed: 1 for on, 0 for off (SCPI-1999, volume 1, chapter 7)
abbrev pub switch_text : Bool → List ℕ
switch_text on = if on then codes "1" else codes "0"

-- how a trigger source is printed: in its short form
abbrev pub source_text : Source → List ℕ
source_text Immediate = codes "IMM"
source_text Bus = codes "BUS"
source_text External = codes "EXT"
