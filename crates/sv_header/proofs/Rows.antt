-- The rows of the commands at a node of the tree and below it.
use Rattle.std.proofs.Common.{◌≡◌, ℕ, zero, suc, ◌<◌, Bool, true, false, List, [], ◌∷◌, ◌++◌, length, map, Option, Some, None, refl, sym, subst, ◌⊎◌, inl, inr, slice_index_or, arith}
use Rattle.std.specs.List.{Contains}
use Rattle.sv_header.specs.declared.command.CommandId.{CommandId}
use Rattle.sv_header.specs.declared.branch.Branch.{Branch}
use Rattle.sv_header.specs.Pattern.{Part, Row, Fits}
use Rattle.sv_header.specs.Inside.Tree.{command_of, ending_row, ending_rows, below}
use Rattle.sv_header.specs.Inside.Walk.{Takes, Ends}

-- The row is one of this command, and a header of this kind with these mnemonics fits it.
abbrev pub Names : Bool → Bool → List (List ℕ) → CommandId → Row → Type 0
Names common query left command row =
    (row.command ≡ command) × (common ≡ row.common) × (query ≡ row.query) × Fits left row.parts

-- One of these rows is one of this command, and such a header fits it.
abbrev pub SomeNames : Bool → Bool → List (List ℕ) → CommandId → List Row → Type 0
SomeNames common query left command [] = ⊥
SomeNames common query left command (row ∷ rows) = Names common query left command row ⊎ SomeNames common query left command rows

-- A header fits a row of joined lists exactly if it fits a row of one of them.
pub some_of_first_rows : (c q : Bool) (left : List (List ℕ)) (command : CommandId) (rows more : List Row) → SomeNames c q left command rows
    → SomeNames c q left command (rows ++ more)
some_of_first_rows c q left command [] more h = absurd h
some_of_first_rows c q left command (row ∷ rows) more (inl h) = inl h
some_of_first_rows c q left command (row ∷ rows) more (inr h) = inr (some_of_first_rows c q left command rows more h)

pub some_of_second_rows : (c q : Bool) (left : List (List ℕ)) (command : CommandId) (rows more : List Row) → SomeNames c q left command more
    → SomeNames c q left command (rows ++ more)
some_of_second_rows c q left command [] more h = h
some_of_second_rows c q left command (row ∷ rows) more h = inr (some_of_second_rows c q left command rows more h)

pub some_cases : (c q : Bool) (left : List (List ℕ)) (command : CommandId) (rows more : List Row)
    → SomeNames c q left command (rows ++ more) → SomeNames c q left command rows ⊎ SomeNames c q left command more
some_cases c q left command [] more h = inr h
some_cases c q left command (row ∷ rows) more (inl h) = inl (inl h)
some_cases c q left command (row ∷ rows) more (inr h) =
    elim (some_cases c q left command rows more h) [ inl front ↦ inl (inr front) | inr behind ↦ inr behind ]

-- `SomeNames` holds exactly if some row of the list names the command.
pub some_from_contains : (c q : Bool) (left : List (List ℕ)) (command : CommandId) (rows : List Row) (k : ℕ) (row : Row) → k < length rows
    → slice_index_or rows k row ≡ row → Names c q left command row → SomeNames c q left command rows
some_from_contains c q left command [] k row lt e h = absurd (omega arith)
some_from_contains c q left command (first ∷ rows) zero row lt e h = inl (subst (λ r. Names c q left command r) (sym e) h)
some_from_contains c q left command (first ∷ rows) (suc k) row lt e h =
    inr (some_from_contains c q left command rows k row (omega arith) e h)

pub contains_from_some : (c q : Bool) (left : List (List ℕ)) (command : CommandId) (rows : List Row) → SomeNames c q left command rows
    → (row : Row) × Contains rows row × Names c q left command row
contains_from_some c q left command [] h = absurd h
contains_from_some c q left command (first ∷ rows) (inl h) = (first, (0, omega arith, refl), h)
contains_from_some c q left command (first ∷ rows) (inr h) =
    let found = contains_from_some c q left command rows h in
    (found.0, (suc found.1.0, omega (arith, found.1.1), found.1.2), found.2)

-- If a node takes the first mnemonic and the others fit a row, all fit the row with this node in
-- front.
pub some_if_node_taken : (c q : Bool) (left others : List (List ℕ)) (part : Part) (command : CommandId) (rows : List Row)
    → Takes left part others → SomeNames c q others command rows → SomeNames c q left command (map (below part) rows)
some_if_node_taken c q [] others part command rows takes h = absurd takes
some_if_node_taken c q (first ∷ behind) others part command [] takes h = absurd h
some_if_node_taken c q (first ∷ behind) others part command (row ∷ rows) takes (inl h) =
    inl (h.0, h.1, h.2, inl (takes.0, subst (λ rest. Fits rest row.parts) takes.1 h.3))
some_if_node_taken c q (first ∷ behind) others part command (row ∷ rows) takes (inr h) =
    inr (some_if_node_taken c q (first ∷ behind) others part command rows takes h)

-- Mnemonics that fit a row fit it with an optional node in front.
pub some_if_node_omitted : (c q : Bool) (left : List (List ℕ)) (part : Part) (command : CommandId) (rows : List Row) → part.optional ≡ true
    → SomeNames c q left command rows → SomeNames c q left command (map (below part) rows)
some_if_node_omitted c q left part command [] may h = absurd h
some_if_node_omitted c q left part command (row ∷ rows) may (inl h) = inl (h.0, h.1, h.2, inr (may, h.3))
some_if_node_omitted c q left part command (row ∷ rows) may (inr h) = inr (some_if_node_omitted c q left part command rows may h)

-- The first node takes the first mnemonic, or it is optional and is omitted.
fits_cases : (left : List (List ℕ)) (part : Part) (parts : List Part) → Fits left (part ∷ parts)
    → ((others : List (List ℕ)) × Takes left part others × Fits others parts) ⊎ ((part.optional ≡ true) × Fits left parts)
fits_cases [] part parts (inl h) = absurd h
fits_cases (first ∷ behind) part parts (inl h) = inl (behind, (h.0, refl), h.1)
fits_cases left part parts (inr h) = inr h

-- The same for rows that all have this node in front.
pub some_below : (c q : Bool) (left : List (List ℕ)) (part : Part) (command : CommandId) (rows : List Row)
    → SomeNames c q left command (map (below part) rows)
    → ((others : List (List ℕ)) × Takes left part others × SomeNames c q others command rows)
    ⊎ ((part.optional ≡ true) × SomeNames c q left command rows)
some_below c q left part command [] h = absurd h
some_below c q left part command (row ∷ rows) (inl h) =
    elim (fits_cases left part row.parts h.3) [
      | inl there ↦ inl (there.0, there.1, inl (h.0, h.1, h.2, there.2))
      | inr absent ↦ inr (absent.0, inl (h.0, h.1, h.2, absent.1))
    ]
some_below c q left part command (row ∷ rows) (inr h) =
    elim (some_below c q left part command rows h) [
      | inl there ↦ inl (there.0, there.1, inr there.2)
      | inr absent ↦ inr (absent.0, inr absent.1)
    ]

-- Mnemonics fit the row that ends at a node exactly if they end there.
some_ending_row : (c q : Bool) (left : List (List ℕ)) (command : CommandId) (ending : Option CommandId) → Ends left ending command
    → SomeNames c q left command (ending_row c q ending)
some_ending_row c q left command None h = let e : None ≡ Some command = h.1 in absurd cc
some_ending_row c q left command (Some own) h =
    let e : Some own ≡ Some command = h.1 in
    let same : own ≡ command = cc in
    inl (same, refl, refl, h.0)

ends_ending_row : (c q d s : Bool) (left : List (List ℕ)) (command : CommandId) (ending : Option CommandId)
    → SomeNames c q left command (ending_row d s ending) → (c ≡ d) × (q ≡ s) × Ends left ending command
ends_ending_row c q d s left command None h = absurd h
ends_ending_row c q d s left command (Some own) (inl h) =
    let same : own ≡ command = h.0 in
    let found : Some own ≡ Some command = cc in
    (h.1, h.2, (h.3, found))
ends_ending_row c q d s left command (Some own) (inr h) = absurd h

-- The same for both rows that end at a node, with and without a question mark, among other rows.
pub some_ending_rows : (c q : Bool) (branch : Branch) (rows : List Row) (left : List (List ℕ)) (command : CommandId)
    → Ends left (command_of q branch) command → SomeNames c q left command (ending_rows c branch ++ rows)
some_ending_rows c false branch rows left command h =
    some_of_first_rows c false left command (ending_rows c branch) rows
    (some_of_first_rows c false left command (ending_row c false branch.plain) (ending_row c true branch.query)
    (some_ending_row c false left command branch.plain h))
some_ending_rows c true branch rows left command h =
    some_of_first_rows c true left command (ending_rows c branch) rows
    (some_of_second_rows c true left command (ending_row c false branch.plain) (ending_row c true branch.query)
    (some_ending_row c true left command branch.query h))

ends_ending_rows : (c q d : Bool) (branch : Branch) (left : List (List ℕ)) (command : CommandId)
    → SomeNames c q left command (ending_rows d branch) → (c ≡ d) × Ends left (command_of q branch) command
ends_ending_rows c q d branch left command h =
    elim (some_cases c q left command (ending_row d false branch.plain) (ending_row d true branch.query) h) [
      | inl plain ↦
          let found = ends_ending_row c q d false left command branch.plain plain in
          (found.0, subst (λ sign. Ends left (command_of sign branch) command) (sym found.1) found.2)
      | inr query ↦
          let found = ends_ending_row c q d true left command branch.query query in
          (found.0, subst (λ sign. Ends left (command_of sign branch) command) (sym found.1) found.2)
    ]

pub ending_rows_cases : (c q d : Bool) (branch : Branch) (rows : List Row) (left : List (List ℕ)) (command : CommandId)
    → SomeNames c q left command (ending_rows d branch ++ rows)
    → ((c ≡ d) × Ends left (command_of q branch) command) ⊎ SomeNames c q left command rows
ending_rows_cases c q d branch rows left command h =
    elim (some_cases c q left command (ending_rows d branch) rows h) [
      | inl ends ↦ inl (ends_ending_rows c q d branch left command ends)
      | inr others ↦ inr others
    ]
