-- How one more byte changes the progress of reading a unit.
use Rattle.std.specs.Prelude.{ℕ, ◌+◌, ◌-◌, ◌^◌, min, max}
use Rattle.sv_lexer.specs.declared.stage.Stage.{Stage}
use Rattle.sv_lexer.specs.declared.stage.Stage.TheVariants.{WhiteSpace, Asterisk, Colon, CommonMnemonic, Mnemonic, QuerySign, HeaderSeparator, ProgramData}
use Rattle.sv_lexer.specs.Partial.{Progress}

-- n + 1, but at most 2 ^ 64 - 1
abbrev pub one_more : ℕ → ℕ
one_more n = min (n + 1) (2 ^ 64 - 1)

-- This function and the next five each give the new value of one field of `Progress` after one more
-- byte. The first argument is the stage that the byte leads to, the last argument is the old value
-- of the field. `size` is the new size of the unit.
abbrev pub header_start_in : Stage → ℕ → ℕ → ℕ
header_start_in WhiteSpace size before = size
header_start_in _ size before = before

abbrev pub header_end_in : Stage → ℕ → ℕ → ℕ
header_end_in Asterisk size before = size
header_end_in Colon size before = size
header_end_in CommonMnemonic size before = size
header_end_in Mnemonic size before = size
header_end_in QuerySign size before = size
header_end_in _ size before = before

abbrev pub mnemonic_in : Stage → ℕ → ℕ
mnemonic_in Colon before = 0
mnemonic_in CommonMnemonic before = one_more before
mnemonic_in Mnemonic before = one_more before
mnemonic_in _ before = before

abbrev pub longest_in : Stage → (mnemonic before : ℕ) → ℕ
longest_in Colon mnemonic before = max before mnemonic
longest_in _ mnemonic before = before

abbrev pub data_start_in : Stage → ℕ → ℕ → ℕ
data_start_in HeaderSeparator size before = size
data_start_in _ size before = before

abbrev pub data_end_in : Stage → ℕ → ℕ → ℕ
data_end_in ProgramData size before = size
data_end_in _ size before = before

-- the progress of reading a unit after one more byte, if the byte leads to this stage
abbrev pub progress_to : Stage → Progress → Progress
progress_to stage p = record {
  stage = stage;
  size = one_more p.size;
  header_start = header_start_in stage (one_more p.size) p.header_start;
  header_end = header_end_in stage (one_more p.size) p.header_end;
  mnemonic = mnemonic_in stage p.mnemonic;
  longest = longest_in stage p.mnemonic p.longest;
  data_start = data_start_in stage (one_more p.size) p.data_start;
  data_end = data_end_in stage (one_more p.size) p.data_end;
}
