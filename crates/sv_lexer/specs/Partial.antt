-- The progress of reading a unit whose bytes come one by one (IEEE 488.2, 7.3 and 7.6).
use Rattle.std.specs.Prelude.{◌≡◌, ℕ, ◌+◌, ◌-◌, ◌^◌, ◌<◌, ◌==◌, min, max, not, Bool, true, false, ⊤, List, [], ◌∷◌, ◌++◌, length}
use Rattle.std.specs.List.{list_all}
use Rattle.sv_text.specs.Front.{is_empty}
use Rattle.sv_text.specs.Header.{is_query}
use Rattle.sv_lexer.specs.Spelled.{is_mnemonic, is_header, words}
use Rattle.sv_lexer.specs.Unit.{header, header_place, rest, rest_place, is_legal}
use Rattle.sv_lexer.specs.declared.stage.Stage.{Stage}
use Rattle.sv_lexer.specs.declared.stage.Stage.TheVariants.{WhiteSpace, Asterisk, Colon, CommonMnemonic, Mnemonic, QuerySign, HeaderSeparator, ProgramData, DataSpace, Misspelled, Illegal}

-- how far a unit was read: its stage and its size in bytes; where its header begins and ends; the
-- length of its last mnemonic, and of the longest mnemonic before that one; where its program data
-- begin, and where they end, without the white space after them
pub record Progress : Type 0 where
  pub stage : Stage
  pub size : ℕ
  pub header_start : ℕ
  pub header_end : ℕ
  pub mnemonic : ℕ
  pub longest : ℕ
  pub data_start : ℕ
  pub data_end : ℕ

-- n, but at most 2 ^ 64 - 1
abbrev pub in_u64 : ℕ → ℕ
in_u64 n = min n (2 ^ 64 - 1)

-- where the header of a unit ends
abbrev pub header_end : List ℕ → ℕ
header_end unit = header_place unit + length (header unit)

-- where the program data of a unit end
abbrev pub rest_end : List ℕ → ℕ
rest_end unit = rest_place unit + length (rest unit)

-- the last of these words; empty if there are no words
abbrev pub last : List (List ℕ) → List ℕ
last [] = []
last (word ∷ []) = word
last (word ∷ next ∷ words) = last (next ∷ words)

-- these words without the last
abbrev pub others : List (List ℕ) → List (List ℕ)
others [] = []
others (word ∷ []) = []
others (word ∷ next ∷ words) = word ∷ others (next ∷ words)

-- how many characters the longest of these words has
abbrev pub longest : List (List ℕ) → ℕ
longest [] = 0
longest (word ∷ words) = max (length word) (longest words)

-- whether the text begins with an asterisk
abbrev pub is_common : List ℕ → Bool
is_common [] = false
is_common (b ∷ text) = b == 42

-- The text is the front of a header, and a mnemonic must follow it: the text ends in a colon or an
-- asterisk, and all its parts before this last byte are mnemonics.
pub record Awaits (text : List ℕ) : Type 0 where
  pub some : is_empty text ≡ false
  pub unsigned : is_query text ≡ false
  pub empty : last (words text) ≡ []
  pub mnemonics : list_all is_mnemonic (others (words text)) ≡ true

-- The text is a complete header without a question mark.
pub record IsUnsigned (text : List ℕ) : Type 0 where
  pub header : is_header text ≡ true
  pub unsigned : is_query text ≡ false

-- The header read so far has the form that the stage requires (7.6.1). `WhiteSpace`: it is empty.
-- `Asterisk`: it is an asterisk. `Colon`: a mnemonic must follow it. `CommonMnemonic`: it is a
-- common command's header. `Mnemonic`: it is another command's header. `QuerySign`: it is a header
-- with its question mark. At later stages: it is a complete header.
abbrev pub HeaderEnds : Stage → List ℕ → Type 0
HeaderEnds WhiteSpace text = text ≡ []
HeaderEnds Asterisk text = text ≡ 42 ∷ []
HeaderEnds Colon text = (is_common text ≡ false) × Awaits text
HeaderEnds CommonMnemonic text = (is_common text ≡ true) × IsUnsigned text
HeaderEnds Mnemonic text = (is_common text ≡ false) × IsUnsigned text
HeaderEnds QuerySign text = (front : List ℕ) × (text ≡ front ++ 63 ∷ []) × IsUnsigned front
HeaderEnds _ text = is_header text ≡ true

-- The unit has program data, and `p` has the positions at which these data begin and end.
pub record HasData (p : Progress) (unit : List ℕ) : Type 0 where
  pub some : is_empty (rest unit) ≡ false
  pub begins : p.data_start ≡ in_u64 (rest_place unit)
  pub ends : p.data_end ≡ in_u64 (rest_end unit)

-- The last part of the unit read so far is the one that the stage names (7.3): the header; white
-- space after the header; program data; or white space after the data.
abbrev pub UnitEnds : Stage → Progress → List ℕ → Type 0
UnitEnds HeaderSeparator p unit = (rest unit ≡ []) × (header_end unit < length unit) × (p.data_start ≡ in_u64 (length unit))
UnitEnds ProgramData p unit = HasData p unit × (rest_end unit ≡ length unit)
UnitEnds DataSpace p unit = HasData p unit × (rest_end unit < length unit)
UnitEnds _ p unit = header_end unit ≡ length unit

-- At this stage, `p` describes the unit: where the header and the program data begin and end, and
-- how long the mnemonics are.
pub record IsRead (stage : Stage) (p : Progress) (unit : List ℕ) : Type 0 where
  pub spelled : HeaderEnds stage (header unit)
  pub ends : UnitEnds stage p unit
  pub begins : p.header_start ≡ in_u64 (header_place unit)
  pub closes : is_empty (header unit) ≡ false → p.header_end ≡ in_u64 (header_end unit)
  pub mnemonic : p.mnemonic ≡ in_u64 (length (last (words (header unit))))
  pub front : p.longest ≡ in_u64 (longest (others (words (header unit))))

-- What is true of a unit whose reading has reached this stage. A misspelled unit has no valid
-- header, whatever bytes follow.
abbrev pub At : Stage → Progress → List ℕ → Type 0
At Misspelled p unit = (more : List ℕ) → is_header (header (unit ++ more)) ≡ false
At Illegal p unit = ⊤
At stage p unit = IsRead stage p unit

-- whether the stage is the one after an illegal byte
abbrev pub is_illegal : Stage → Bool
is_illegal Illegal = true
is_illegal _ = false

-- `p` is the progress after these bytes. Its stage is `Illegal` exactly if one of the bytes is
-- illegal.
pub record Reads (p : Progress) (unit : List ℕ) : Type 0 where
  pub size : p.size ≡ in_u64 (length unit)
  pub legal : list_all is_legal unit ≡ not (is_illegal p.stage)
  pub known : At p.stage p unit
