-- The values of parameters: how data of each kind are read, and which error they give.
use Rattle.std.specs.Prelude.{◌≡◌, ℕ, ℤ, pos, negsuc, nat_le, ◌&&◌, ◌||◌, ◌==◌, Bool, true, false, List, codes, Option, Some, None, Result, Ok, Err, if◌then◌else◌}
use Rattle.sv_text.specs.Front.{is_empty}
use Rattle.sv_errors.specs.Limits.{is_within, is_channel_list}
use Rattle.sv_errors.specs.declared.code.Code.{Code}
use Rattle.sv_errors.specs.declared.code.Code.TheVariants.{SyntaxError, DataTypeError, InvalidSuffix, SuffixNotAllowed, DataOutOfRange}
use Rattle.sv_errors.specs.declared.source.Source.{Source}
use Rattle.sv_lexer.specs.declared.token.Kind.{Kind}
use Rattle.sv_lexer.specs.declared.token.Kind.TheVariants.{Number, Base, Word, Expression, Other}
use Rattle.sv_value.specs.Number.{read_decimal}
use Rattle.sv_value.specs.Based.{read_based}
use Rattle.std.specs.Str.{str_eq_ignore_ascii_case as is_same}
use Rattle.sv_value.specs.Choice.{read_switch, read_keyword}
use Rattle.sv_value.specs.Channels.{read_list}

-- the power of ten that turns a suffix's unit into microvolts; no suffix means volts; `None` for a
-- suffix that isn't allowed
abbrev pub power_of_volts : List ℕ → Option ℕ
power_of_volts suffix =
    if is_empty suffix || is_same suffix (codes "V") then Some 6
    else if is_same suffix (codes "KV") then Some 9
    else if is_same suffix (codes "MV") then Some 3
    else if is_same suffix (codes "UV") then Some 0
    else None

-- the power of ten for a number whose parameter has no unit: 0 if the number has no suffix; `None`
-- if it has one, which isn't allowed
abbrev pub power_of_none : List ℕ → Option ℕ
power_of_none suffix = if is_empty suffix then Some 0 else None

-- the error for data of a kind that the parameter can't have: -102 if the data are of no kind that
-- the standard defines, else -104
abbrev pub wrong_kind : Kind → Code
wrong_kind = elim [ Other ↦ SyntaxError | _ ↦ DataTypeError ]

-- the voltage that was read, if it is at most 1,000 V in magnitude, else -222; an error from
-- reading is returned as it is
abbrev pub within_volts : Result ℤ Code → Result ℤ Code
within_volts (Err code) = Err code
within_volts (Ok value) = if is_within value then Ok value else Err DataOutOfRange

-- the value of a parameter that has to be a voltage, in microvolts; or the first error that applies
abbrev pub read_voltage : Kind → List ℕ → Result ℤ Code
read_voltage Number text = within_volts (read_decimal power_of_volts InvalidSuffix text)
read_voltage kind text = Err (wrong_kind kind)

-- the number that was read, if it is from `low` to `high`, else -222; an error from reading is
-- returned as it is
abbrev pub within : ℕ → ℕ → Result ℤ Code → Result ℕ Code
within low high (Err code) = Err code
within low high (Ok (negsuc n)) = Err DataOutOfRange
within low high (Ok (pos n)) = if nat_le low n && nat_le n high then Ok n else Err DataOutOfRange

-- the value of a parameter that has to be a whole number from `low` to `high`; or the first error
-- that applies
abbrev pub read_whole : ℕ → ℕ → Kind → List ℕ → Result ℕ Code
read_whole low high Number text = within low high (read_decimal power_of_none SuffixNotAllowed text)
read_whole low high Base text = within low high (read_based text)
read_whole low high kind text = Err (wrong_kind kind)

-- a number as a boolean: 0 is off, every other number is on
abbrev pub is_on : Result ℤ Code → Result Bool Code
is_on (Err code) = Err code
is_on (Ok (negsuc n)) = Ok true
is_on (Ok (pos n)) = Ok (if n == 0 then false else true)

-- the value of a parameter that has to be a boolean: a number, ON or OFF; or the first error that
-- applies
abbrev pub read_boolean : Kind → List ℕ → Result Bool Code
read_boolean Number text = is_on (read_decimal power_of_none SuffixNotAllowed text)
read_boolean Base text = is_on (read_based text)
read_boolean Word text = read_switch text
read_boolean kind text = Err (wrong_kind kind)

-- the trigger source that a parameter names, or the error
abbrev pub read_source : Kind → List ℕ → Result Source Code
read_source Word text = read_keyword text
read_source kind text = Err (wrong_kind kind)

-- the channels of a channel list, or the first error
abbrev pub read_channels : Kind → List ℕ → Result (List ℕ) Code
read_channels Expression text = read_list text
read_channels kind text = Err (wrong_kind kind)

-- What `read_channels` returns is a valid channel list, of 1 to 128 channels.
abbrev pub ReadIsChannelList : Type 0
ReadIsChannelList = (kind : Kind) (text list : List ℕ) → read_channels kind text ≡ Ok list → is_channel_list list ≡ true
