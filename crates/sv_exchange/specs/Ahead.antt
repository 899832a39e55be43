-- What is known about the first unit of a text after only a beginning of the text was read.
use Rattle.std.specs.Prelude.{◌≡◌, ℕ, ◌+◌, ◌≤◌, ◌==◌, Bool, true, false, List, [], ◌∷◌, ◌++◌, length, take}
use Rattle.std.specs.List.{list_all, list_any}
use Rattle.sv_text.specs.White.{is_white, trim_start, trim_end}
use Rattle.sv_lexer.specs.Partial.{Reads}
use Rattle.sv_exchange.specs.Exchange.{units, is_something}
use Rattle.sv_exchange.specs.declared.ahead.Ahead.{Ahead}

-- whether a byte is a semicolon
abbrev pub is_separator : ℕ → Bool
is_separator b = b == 59

-- The first unit of the text may still go on, because no semicolon after it was read. `unit` has
-- the bytes of the unit so far, and `space` is the white space that was read after them.
pub record IsOpen (seen unit space : List ℕ) : Type 0 where
  pub left : (more : List ℕ) → units (seen ++ more) ≡ units ((unit ++ space) ++ more)
  pub single : list_any is_separator (unit ++ space) ≡ false
  pub white : list_all is_white space ≡ true
  pub unbegun : is_something unit ≡ false → space ≡ []
  pub starts : is_something unit ≡ true → (more : List ℕ) → trim_start (unit ++ more) ≡ unit ++ more
  pub ends : trim_end unit ≡ unit

-- If the flag is true, `unit` is the first unit of the text, whatever bytes follow those that were
-- read (`seen`). If the flag is false, the first unit may still go on, and `unit` has its bytes so
-- far.
abbrev pub IsFound : Bool → (seen unit space : List ℕ) → Type 0
IsFound true seen unit space = (is_something unit ≡ true) × ((more : List ℕ) → units (seen ++ more) ≡ unit ∷ units more)
IsFound false seen unit space = IsOpen seen unit space

-- `ahead` describes the bytes that were read (`seen`). These bytes are, in order: the bytes before
-- the first unit; the first unit, as far as it was read; and the bytes after this unit (`space`).
-- No unit is in the bytes before the first unit, whatever follows (`blank`).
pub record IsAhead (ahead : Ahead) (seen : List ℕ) : Type 0 where
  pub before : List ℕ
  pub unit : List ℕ
  pub space : List ℕ
  pub whole : seen ≡ before ++ (unit ++ space)
  pub blank : (more : List ℕ) → units (before ++ more) ≡ units more
  pub begins : ahead.start ≡ length before
  pub closes : ahead.end ≡ length before + length unit
  pub size : ahead.looked ≡ length seen
  pub reads : Reads ahead.partial unit
  pub found : IsFound ahead.closed seen unit space

-- A prefix of the text was read, and `ahead` describes it.
pub record IsBegun (ahead : Ahead) (text : List ℕ) : Type 0 where
  pub within : ahead.looked ≤ length text
  pub seen : IsAhead ahead (take ahead.looked text)

-- The text was read up to the semicolon after its first unit. If no semicolon follows this unit,
-- the whole text was read.
pub record IsLooked (ahead : Ahead) (text : List ℕ) : Type 0 where
  pub begun : IsBegun ahead text
  pub all : ahead.closed ≡ false → ahead.looked ≡ length text
