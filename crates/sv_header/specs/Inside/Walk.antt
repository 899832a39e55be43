-- The command that the mnemonics of a header lead to in the tree.
use Rattle.std.specs.Prelude.{◌≡◌, ◌⊎◌, ℕ, zero, suc, Bool, true, false, List, [], ◌∷◌, take, drop, Option, Some, None}
use Rattle.sv_header.specs.declared.command.CommandId.{CommandId}
use Rattle.sv_header.specs.declared.left.Mnemonics.{Mnemonics}
use Rattle.sv_header.specs.declared.branch.Branch.{Branch}
use Rattle.sv_header.specs.Pattern.{Part, IsForm}
use Rattle.sv_header.specs.Plain.{part, left_of}
use Rattle.sv_header.specs.Inside.Tree.{command_of}

-- The first mnemonic of a header is the short or long form of the node `part`, and `others` are the
-- mnemonics after it.
abbrev pub Takes : List (List ℕ) → Part → List (List ℕ) → Type 0
Takes [] part others = ⊥
Takes (first ∷ behind) part others = IsForm first part × (others ≡ behind)

-- No mnemonic of the header remains (`left` is empty), and a header that ends at this node names
-- this command.
abbrev pub Ends : List (List ℕ) → Option CommandId → CommandId → Type 0
Ends left ending command = (left ≡ []) × (ending ≡ Some command)

-- The mnemonics `left`, which remain after a node, lead to this command. Either no mnemonic
-- remains, and a header that ends at the node names the command. Or `Below` holds for them: they
-- lead to the command through the nodes below.
abbrev pub LeadsBelow : Bool → Branch → (List (List ℕ) → Type 0) → List (List ℕ) → CommandId → Type 0
LeadsBelow query branch Below left command = Ends left (command_of query branch) command ⊎ Below left

-- The header passes the node `part`: its first mnemonic is a form of the node; or the node is
-- optional and the header omits it. `Behind` holds for the mnemonics that remain after the node.
abbrev pub Passes : Part → (List (List ℕ) → Type 0) → List (List ℕ) → Type 0
Passes part Behind left = ((others : List (List ℕ)) × Takes left part others × Behind others) ⊎ ((part.optional ≡ true) × Behind left)

-- The mnemonics `left` lead to this command through one of these sibling nodes: the first sibling,
-- or a later one.
abbrev pub Leads : ℕ → Bool → List Branch → List (List ℕ) → CommandId → Type 0
Leads zero query branches left command = ⊥
Leads (suc fuel) query [] left command = ⊥
Leads (suc fuel) query (branch ∷ behind) left command =
    Passes (part branch.node)
    (λ others. LeadsBelow query branch (λ rest. Leads fuel query (take branch.below behind) rest command) others command) left
    ⊎ Leads fuel query (drop branch.below behind) left command

-- The code's search returned a command for which `P` holds; or it returned `None`, and `P` holds
-- for no command.
abbrev pub IsFound : Option CommandId → (CommandId → Type 0) → Type 0
IsFound None P = (command : CommandId) → P command → ⊥
IsFound (Some command) P = P command

-- The code returned `Some` with the mnemonics that remain, and `P` holds for these mnemonics.
abbrev pub OnLeft : Option Mnemonics → (List (List ℕ) → Type 0) → Type 0
OnLeft None P = ⊥
OnLeft (Some left) P = P (left_of left)

-- If the first mnemonic of `left` is a form of the node `part`, the code returned the mnemonics
-- after it; else the code returned `None`.
abbrev pub IsBehind : List (List ℕ) → Part → Option Mnemonics → Type 0
IsBehind left part None = (others : List (List ℕ)) → Takes left part others → ⊥
IsBehind left part (Some others) = Takes left part (left_of others)

-- If the node `part` is optional, so that a header can omit it, the code returned all mnemonics of
-- `left`; else the code returned `None`.
abbrev pub IsAllOf : List (List ℕ) → Part → Option Mnemonics → Type 0
IsAllOf left part None = part.optional ≡ false
IsAllOf left part (Some others) = (part.optional ≡ true) × (left_of others ≡ left)
