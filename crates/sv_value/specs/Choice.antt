-- Character data: booleans and trigger sources (IEEE 488.2, 7.7.1; SCPI-1999, volume 1, chapter 7).
use Rattle.std.specs.Prelude.{◌||◌, Bool, true, false, ℕ, List, codes, not, Result, Ok, Err, if◌then◌else◌}
use Rattle.std.specs.List.{list_all}
use Rattle.std.specs.Str.{str_eq_ignore_ascii_case as is_same}
use Rattle.sv_errors.specs.declared.code.Code.{Code}
use Rattle.sv_errors.specs.declared.code.Code.TheVariants.{InvalidCharacterData, IllegalParameterValue}
use Rattle.sv_errors.specs.declared.source.Source.{Source}
use Rattle.sv_errors.specs.declared.source.Source.TheVariants.{Immediate, Bus, External}
use Rattle.sv_lexer.specs.Spelled.{is_word_byte}

-- the boolean for which the word ON or OFF stands, in upper or lower case; or the error: -141 for a
-- byte that character data can't have, -224 for any other word
abbrev pub read_switch : List ℕ → Result Bool Code
read_switch text =
    if not (list_all is_word_byte text) then Err InvalidCharacterData
    else if is_same text (codes "ON") then Ok true
    else if is_same text (codes "OFF") then Ok false
    else Err IllegalParameterValue

-- the trigger source that a word names, in short or long form, in upper or lower case; or the
-- error: -141 for a byte that character data can't have, -224 for any other word
abbrev pub read_keyword : List ℕ → Result Source Code
read_keyword text =
    if not (list_all is_word_byte text) then Err InvalidCharacterData
    else if is_same text (codes "IMM") || is_same text (codes "IMMEDIATE") then Ok Immediate
    else if is_same text (codes "BUS") then Ok Bus
    else if is_same text (codes "EXT") || is_same text (codes "EXTERNAL") then Ok External
    else Err IllegalParameterValue
