-- The command that a header names, and the path for the next header (SCPI-1999, volume 1, chapter
-- 6; common commands: IEEE 488.2, 7.6.1).
use Rattle.std.specs.Prelude.{◌≡◌, ℕ, Bool, true, false, List, [], ◌∷◌, ◌++◌}
use Rattle.std.specs.List.{Contains}
use Rattle.sv_text.specs.Header.{lead, mnemonics, is_query}
use Rattle.sv_text.specs.declared.header.Lead.{Lead}
use Rattle.sv_text.specs.declared.header.Lead.TheVariants.{Common, Onward}
use Rattle.sv_header.specs.declared.command.CommandId.{CommandId}
use Rattle.sv_header.specs.Pattern.{Row, Fits}
use Rattle.sv_header.specs.Table.{table}

-- the mnemonics that are looked up before a header's own: those of the path; none if the header
-- starts at the root or is a common command
abbrev pub path_before : Lead → List (List ℕ) → List (List ℕ)
path_before Onward path = path
path_before _ path = []

-- the mnemonics that are looked up when a header is read relative to a path: those that
-- `path_before` gives, then the header's own
abbrev pub full : List (List ℕ) → List ℕ → List (List ℕ)
full path header = path_before (lead header) path ++ mnemonics header

-- whether the header begins with an asterisk
abbrev pub leads_common : Lead → Bool
leads_common Common = true
leads_common _ = false

-- The header, read relative to the path, fits the row. Both belong to a common command, or neither
-- does. Both belong to a query, or neither does. The mnemonics that are looked up (`full`) fit the
-- nodes of the row.
abbrev pub FitsRow : List (List ℕ) → List ℕ → Row → Type 0
FitsRow path header row = (leads_common (lead header) ≡ row.common) × (is_query header ≡ row.query) × Fits (full path header) row.parts

-- The header, read relative to the path, names this command: it fits a row of the command in the
-- table.
abbrev pub Resolves : List (List ℕ) → List ℕ → CommandId → Type 0
Resolves path header command = (row : Row) × Contains table row × (row.command ≡ command) × FitsRow path header row

-- all mnemonics but the last
abbrev pub but_last : List (List ℕ) → List (List ℕ)
but_last [] = []
but_last (part ∷ []) = []
but_last (part ∷ other ∷ others) = part ∷ but_last (other ∷ others)

-- the path for the next header. The first argument is what this header begins with; `path` is the
-- path relative to which this header was read; `all` are the mnemonics that were looked up
-- (`full`).
abbrev pub kept_by : Lead → List (List ℕ) → List (List ℕ) → List (List ℕ)
kept_by Common path all = path
kept_by _ path all = but_last all

-- The path for the next header, after this header was read relative to `path`: the mnemonics that
-- were looked up (`full`), as they were sent, without the last one. A common command doesn't change
-- the path.
abbrev pub next_path : List (List ℕ) → List ℕ → List (List ℕ)
next_path path header = kept_by (lead header) path (full path header)
