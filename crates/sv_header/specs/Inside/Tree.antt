-- The tree of header nodes. The code stores the tree as a list: a node, then all nodes below it,
-- then the next sibling of the node.
use Rattle.std.specs.Prelude.{◌≡◌, ℕ, zero, suc, ◌≤◌, Bool, true, false, length, List, [], ◌∷◌, ◌++◌, map, take, drop, Option, Some, None}
use Rattle.sv_header.specs.declared.command.CommandId.{CommandId}
use Rattle.sv_header.specs.declared.branch.Branch.{Branch}
use Rattle.sv_header.specs.Pattern.{Part, Row, row}
use Rattle.sv_header.specs.Plain.{part}
use Rattle.sv_header.specs.Table.{common_commands, other_commands}

-- the command of the header that ends at this node: for `true` with a question mark, for `false`
-- without a question mark
abbrev pub command_of : Bool → Branch → Option CommandId
command_of false branch = branch.plain
command_of true branch = branch.query

-- A list of sibling nodes is split into `branch`, its first node; `children`, the nodes below
-- `branch`; and `siblings`, the later siblings.
abbrev pub IsParted : List Branch → Branch → List Branch → List Branch → Type 0
IsParted [] branch children siblings = ⊥
IsParted (first ∷ behind) branch children siblings =
    (branch ≡ first) × (children ≡ take first.below behind) × (siblings ≡ drop first.below behind)

-- the table's row for the header that ends at a node. `query` says whether the header has a
-- question mark. The result is a list with this row, or the empty list if no command has this
-- header.
abbrev pub ending_row : Bool → Bool → Option CommandId → List Row
ending_row common query None = []
ending_row common query (Some command) = row common query [] command ∷ []

abbrev pub ending_rows : Bool → Branch → List Row
ending_rows common branch = ending_row common false branch.plain ++ ending_row common true branch.query

-- a row of the table, with the node `part` added in front of its other nodes
abbrev pub below : Part → Row → Row
below part row = record row { parts = part ∷ row.parts }

-- the table's rows for all headers that end at these sibling nodes or at nodes below them
abbrev pub rows_of : ℕ → Bool → List Branch → List Row
rows_of zero common branches = []
rows_of (suc fuel) common [] = []
rows_of (suc fuel) common (branch ∷ behind) =
    map (below (part branch.node)) (ending_rows common branch ++ rows_of fuel common (take branch.below behind))
    ++ rows_of fuel common (drop branch.below behind)

abbrev pub tree_rows : Bool → List Branch → List Row
tree_rows common branches = rows_of (length branches) common branches

-- the table's rows of the common commands (for `true`), or of all other commands (for `false`)
abbrev pub rows_with : Bool → List Row
rows_with true = common_commands
rows_with false = other_commands

-- how many nodes of the tree belong to common commands. These nodes come first in the list.
abbrev pub common_nodes : ℕ
common_nodes = 11

-- The tree's nodes give exactly the rows of the command table. The first `common_nodes` nodes give
-- the rows of the common commands. The remaining nodes give the rows of all other commands.
pub record IsTree (branches : List Branch) : Type 0 where
  pub size : common_nodes ≤ length branches
  pub common : tree_rows true (take common_nodes branches) ≡ rows_with true
  pub others : tree_rows false (drop common_nodes branches) ≡ rows_with false
