-- Laws of the table of commands.
use Rattle.std.specs.Prelude.{◌≡◌, ℕ, List}
use Rattle.std.specs.List.{Contains}
use Rattle.sv_header.specs.declared.command.CommandId.{CommandId}
use Rattle.sv_header.specs.Pattern.{Row}
use Rattle.sv_header.specs.Table.{table}
use Rattle.sv_header.specs.Resolve.{FitsRow, Resolves}

-- A header that is read relative to a path names at most one command.
abbrev pub OneCommand : Type 0
OneCommand = (path : List (List ℕ)) → (header : List ℕ) → (first second : CommandId) → Resolves path header first
    → Resolves path header second → first ≡ second

-- A header that is read relative to a path fits at most one row of the table.
abbrev pub OnePattern : Type 0
OnePattern = (path : List (List ℕ)) → (header : List ℕ) → (first second : Row) → Contains table first → Contains table second
    → FitsRow path header first → FitsRow path header second → first ≡ second
