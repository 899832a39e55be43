-- The stages of reading a unit: how one more byte changes the stage that was reached (IEEE 488.2,
-- 7.3 and 7.6).
use Rattle.std.specs.Prelude.{ℕ, ◌==◌, if◌then◌else◌}
use Rattle.std.specs.Char.{is_ascii_graphic, is_ascii_alphabetic as is_letter}
use Rattle.sv_text.specs.White.{is_white}
use Rattle.sv_lexer.specs.Spelled.{is_word_byte}
use Rattle.sv_lexer.specs.declared.stage.Stage.{Stage}
use Rattle.sv_lexer.specs.declared.stage.Stage.TheVariants.{WhiteSpace, Asterisk, Colon, CommonMnemonic, Mnemonic, QuerySign, HeaderSeparator, ProgramData, DataSpace, Misspelled, Illegal}

-- the stage after one more byte of white space
abbrev pub behind_space : Stage → Stage
behind_space WhiteSpace = WhiteSpace
behind_space Asterisk = Misspelled
behind_space Colon = Misspelled
behind_space CommonMnemonic = HeaderSeparator
behind_space Mnemonic = HeaderSeparator
behind_space QuerySign = HeaderSeparator
behind_space HeaderSeparator = HeaderSeparator
behind_space ProgramData = DataSpace
behind_space DataSpace = DataSpace
behind_space Misspelled = Misspelled
behind_space Illegal = Illegal

-- the stage after a byte at which a mnemonic has to begin: `mnemonic` if the byte is a letter;
-- otherwise `Misspelled`
abbrev pub letter_stage : Stage → ℕ → Stage
letter_stage mnemonic b = if is_letter b then mnemonic else Misspelled

-- the stage after one more graphic character
abbrev pub behind_graphic : Stage → ℕ → Stage
behind_graphic WhiteSpace b = if b == 42 then Asterisk else if b == 58 then Colon else letter_stage Mnemonic b
behind_graphic Asterisk b = letter_stage CommonMnemonic b
behind_graphic Colon b = letter_stage Mnemonic b
behind_graphic CommonMnemonic b = if is_word_byte b then CommonMnemonic else if b == 63 then QuerySign else Misspelled
behind_graphic Mnemonic b = if is_word_byte b then Mnemonic else if b == 63 then QuerySign else if b == 58 then Colon else Misspelled
behind_graphic QuerySign b = Misspelled
behind_graphic HeaderSeparator b = ProgramData
behind_graphic ProgramData b = ProgramData
behind_graphic DataSpace b = ProgramData
behind_graphic Misspelled b = Misspelled
behind_graphic Illegal b = Illegal

-- the stage after one more byte
abbrev pub next : Stage → ℕ → Stage
next stage b = if is_white b then behind_space stage else if is_ascii_graphic b then behind_graphic stage b else Illegal
