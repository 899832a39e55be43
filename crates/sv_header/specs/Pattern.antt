-- Patterns of headers (SCPI-1999, volume 1, chapter 6).
use Rattle.std.specs.Prelude.{◌≡◌, ◌⊎◌, ℕ, Bool, true, false, List, [], ◌∷◌, ◌++◌, map, codes}
use Prim.Native.String.{String}
use Rattle.std.specs.Char.{to_ascii_lowercase}
use Rattle.sv_header.specs.declared.command.CommandId.{CommandId}

-- a node of a pattern: the short and the long form of its mnemonic, and whether it is optional
pub record Part : Type 0 where
  pub short : List ℕ
  pub long : List ℕ
  pub optional : Bool

-- a row of the table of commands: whether its header is that of a common command, whether it ends
-- in a question mark, the nodes of its pattern, and the command that it names
pub record Row : Type 0 where
  pub common : Bool
  pub query : Bool
  pub parts : List Part
  pub command : CommandId

-- a node that isn't optional, given its short form and the letters that the long form adds
abbrev pub node : String → String → Part
node short more = record { short = codes short; long = codes short ++ codes more; optional = false }

-- an optional node, given its short form and the letters that the long form adds
abbrev pub maybe : String → String → Part
maybe short more = record { short = codes short; long = codes short ++ codes more; optional = true }

-- a row of the table with these fields
abbrev pub row : Bool → Bool → List Part → CommandId → Row
row common query parts command = record { common = common; query = query; parts = parts; command = command }

-- The two texts are equal, apart from upper and lower case.
abbrev pub Same : List ℕ → List ℕ → Type 0
Same sent form = map to_ascii_lowercase sent ≡ map to_ascii_lowercase form

-- The mnemonic is the short or the long form of the node, in upper or lower case. An abbreviation
-- between the two forms doesn't match.
abbrev pub IsForm : List ℕ → Part → Type 0
IsForm sent part = Same sent part.short ⊎ Same sent part.long

-- The first mnemonic is a form of the node, and `Others` holds for the mnemonics after it.
abbrev IsThere : List (List ℕ) → Part → (List (List ℕ) → Type 0) → Type 0
IsThere [] part Others = ⊥
IsThere (sent ∷ others) part Others = IsForm sent part × Others others

-- The mnemonics fit the nodes in order: each node takes the next mnemonic, or is optional and takes
-- none. No mnemonic remains at the end.
abbrev pub Fits : List (List ℕ) → List Part → Type 0
Fits sent [] = sent ≡ []
Fits sent (part ∷ parts) = IsThere sent part (λ others. Fits others parts) ⊎ ((part.optional ≡ true) × Fits sent parts)
