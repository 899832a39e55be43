-- The walk of the tree finds exactly the commands that the rows of the table name.
use Rattle.std.proofs.Common.{◌≡◌, ℕ, zero, suc, Bool, true, false, not, List, [], ◌∷◌, ◌++◌, length, map, take, drop, Option, Some, None, refl, sym, ap, ◌∙◌, subst, inl, inr}
use Rattle.std.specs.Prelude.{MatchResult, ok_or}
use Rattle.std.specs.List.{list_all}
use Rattle.std.proofs.lemmas.Bool.{and_parts}
use Rattle.sv_errors.specs.declared.code.Code.TheVariants.{UndefinedHeader}
use Rattle.sv_text.specs.Header.{lead, is_query}
use Rattle.sv_header.specs.declared.command.CommandId.{CommandId}
use Rattle.sv_header.specs.declared.branch.Branch.{Branch}
use Rattle.sv_header.specs.Pattern.{Row}
use Rattle.sv_header.specs.Plain.{part}
use Rattle.sv_header.specs.Table.{table, common_commands, other_commands}
use Rattle.sv_header.specs.Resolve.{Resolves, full, leads_common}
use Rattle.sv_header.specs.Inside.Tree.{ending_rows, below, rows_of, tree_rows, rows_with}
use Rattle.sv_header.specs.Inside.Walk.{LeadsBelow, Leads, IsFound}
use Rattle.sv_header.proofs.Rows.{SomeNames, some_of_first_rows, some_of_second_rows, some_cases, some_from_contains, contains_from_some, some_if_node_taken, some_if_node_omitted, some_below, some_ending_rows, ending_rows_cases}

-- Mnemonics that lead to a command at a node or below it fit a row of this command there.
names_below : (c q : Bool) (branch : Branch) (rows : List Row) (Below : List (List ℕ) → CommandId → Type 0)
    → ((left : List (List ℕ)) (command : CommandId) → Below left command → SomeNames c q left command rows)
    → (left : List (List ℕ)) (command : CommandId) → LeadsBelow q branch (λ rest. Below rest command) left command
    → SomeNames c q left command (ending_rows c branch ++ rows)
names_below c q branch rows Below names left command (inl ends) = some_ending_rows c q branch rows left command ends
names_below c q branch rows Below names left command (inr on) =
    some_of_second_rows c q left command (ending_rows c branch) rows (names left command on)

-- Mnemonics that lead to a command in the tree fit a row of this command.
pub names_from_leads : (fuel : ℕ) (c q : Bool) (branches : List Branch) (left : List (List ℕ)) (command : CommandId)
    → Leads fuel q branches left command → SomeNames c q left command (rows_of fuel c branches)
names_from_leads zero c q branches left command h = absurd h
names_from_leads (suc fuel) c q [] left command h = absurd h
names_from_leads (suc fuel) c q (branch ∷ behind) left command (inl (inl there)) =
    let children = take branch.below behind in
    let rows = rows_of fuel c children in
    let Below = λ (rest : List (List ℕ)) (final : CommandId). Leads fuel q children rest final in
    let on = names_below c q branch rows Below (names_from_leads fuel c q children) there.0 command there.2 in
    some_of_first_rows c q left command (map (below (part branch.node)) (ending_rows c branch ++ rows))
    (rows_of fuel c (drop branch.below behind))
    (some_if_node_taken c q left there.0 (part branch.node) command (ending_rows c branch ++ rows) there.1 on)
names_from_leads (suc fuel) c q (branch ∷ behind) left command (inl (inr absent)) =
    let children = take branch.below behind in
    let rows = rows_of fuel c children in
    let Below = λ (rest : List (List ℕ)) (final : CommandId). Leads fuel q children rest final in
    let on = names_below c q branch rows Below (names_from_leads fuel c q children) left command absent.1 in
    some_of_first_rows c q left command (map (below (part branch.node)) (ending_rows c branch ++ rows))
    (rows_of fuel c (drop branch.below behind))
    (some_if_node_omitted c q left (part branch.node) command (ending_rows c branch ++ rows) absent.0 on)
names_from_leads (suc fuel) c q (branch ∷ behind) left command (inr siblings) =
    some_of_second_rows c q left command
    (map (below (part branch.node)) (ending_rows c branch ++ rows_of fuel c (take branch.below behind)))
    (rows_of fuel c (drop branch.below behind))
    (names_from_leads fuel c q (drop branch.below behind) left command siblings)

-- Mnemonics that fit a row at a node or below it lead to the row's command there.
leads_below : (c q d : Bool) (branch : Branch) (rows : List Row) (Below : List (List ℕ) → CommandId → Type 0)
    → ((left : List (List ℕ)) (command : CommandId) → SomeNames c q left command rows → Below left command)
    → (left : List (List ℕ)) (command : CommandId) → SomeNames c q left command (ending_rows d branch ++ rows)
    → LeadsBelow q branch (λ rest. Below rest command) left command
leads_below c q d branch rows Below leads left command h =
    elim (ending_rows_cases c q d branch rows left command h) [ inl ends ↦ inl ends.1 | inr on ↦ inr (leads left command on) ]

-- Mnemonics that fit a row of a command lead to this command in the tree.
pub leads_from_names : (fuel : ℕ) (c q d : Bool) (branches : List Branch) (left : List (List ℕ)) (command : CommandId)
    → SomeNames c q left command (rows_of fuel d branches) → Leads fuel q branches left command
leads_from_names zero c q d branches left command h = absurd h
leads_from_names (suc fuel) c q d [] left command h = absurd h
leads_from_names (suc fuel) c q d (branch ∷ behind) left command h =
    let children = take branch.below behind in
    let rows = rows_of fuel d children in
    let Below = λ (rest : List (List ℕ)) (final : CommandId). Leads fuel q children rest final in
    let on = leads_below c q d branch rows Below (leads_from_names fuel c q d children) in
    let at_node = map (below (part branch.node)) (ending_rows d branch ++ rows) in
    elim (some_cases c q left command at_node (rows_of fuel d (drop branch.below behind)) h) [
      | inl here ↦
          elim (some_below c q left (part branch.node) command (ending_rows d branch ++ rows) here) [
            | inl there ↦ inl (inl (there.0, there.1, on there.0 command there.2))
            | inr absent ↦ inl (inr (absent.0, on left command absent.1))
          ]
      | inr siblings ↦ inr (leads_from_names fuel c q d (drop branch.below behind) left command siblings)
    ]

-- No header without an asterisk fits a row of the common commands, and none with an asterisk fits
-- any other row.
plain_header_fits_no_common : (q : Bool) (left : List (List ℕ)) (command : CommandId) (rows : List Row)
    → list_all (λ row. row.common) rows ≡ true → SomeNames false q left command rows → ⊥
plain_header_fits_no_common q left command [] all h = h
plain_header_fits_no_common q left command (row ∷ rows) all (inl h) =
    let e : false ≡ true = h.1 ∙ (and_parts _ _ all).0 in
    absurd cc
plain_header_fits_no_common q left command (row ∷ rows) all (inr h) = plain_header_fits_no_common q left command rows (and_parts _ _ all).1
    h

common_header_fits_no_other : (q : Bool) (left : List (List ℕ)) (command : CommandId) (rows : List Row)
    → list_all (λ row. not row.common) rows ≡ true → SomeNames true q left command rows → ⊥
common_header_fits_no_other q left command [] all h = h
common_header_fits_no_other q left command (row ∷ rows) all (inl h) =
    let e : not true ≡ true = ap not h.1 ∙ (and_parts _ _ all).0 in
    absurd cc
common_header_fits_no_other q left command (row ∷ rows) all (inr h) = common_header_fits_no_other q left command rows (and_parts _ _ all).1
    h

table_parts : table ≡ common_commands ++ other_commands
table_parts = refl

common_rows_are_common : list_all (λ row. row.common) common_commands ≡ true
common_rows_are_common = refl

other_rows_arent_common : list_all (λ row. not row.common) other_commands ≡ true
other_rows_arent_common = refl

-- So a header is looked up in only one part of the table: the common commands, or all others.
part_of_table : (c q : Bool) (left : List (List ℕ)) (command : CommandId) → SomeNames c q left command (common_commands ++ other_commands)
    → SomeNames c q left command (rows_with c)
part_of_table true q left command h =
    elim (some_cases true q left command common_commands other_commands h) [
      | inl common ↦ common
      | inr other ↦ absurd (common_header_fits_no_other q left command other_commands other_rows_arent_common other)
    ]
part_of_table false q left command h =
    elim (some_cases false q left command common_commands other_commands h) [
      | inl common ↦ absurd (plain_header_fits_no_common q left command common_commands common_rows_are_common common)
      | inr other ↦ other
    ]

table_of_part : (c q : Bool) (left : List (List ℕ)) (command : CommandId) → SomeNames c q left command (rows_with c)
    → SomeNames c q left command (common_commands ++ other_commands)
table_of_part true q left command h = some_of_first_rows true q left command common_commands other_commands h
table_of_part false q left command h = some_of_second_rows false q left command common_commands other_commands h

-- These values stand for this header, read relative to this path: whether it belongs to a common
-- command, whether it is a query, and its mnemonics.
pub record StandsFor (path : List (List ℕ)) (header : List ℕ) (c q : Bool) (left : List (List ℕ)) : Type 0 where
  pub common : c ≡ leads_common (lead header)
  pub query : q ≡ is_query header
  pub mnemonics : left ≡ full path header

-- A header whose mnemonics lead to a command names this command.
pub resolves_from_leads : (path : List (List ℕ)) (header : List ℕ) (c q : Bool) (left : List (List ℕ)) (roots : List Branch)
    (command : CommandId)
    → StandsFor path header c q left → tree_rows c roots ≡ rows_with c → Leads (length roots) q roots left command
    → Resolves path header command
resolves_from_leads path header c q left roots command s whole h =
    let by_tree = names_from_leads (length roots) c q roots left command h in
    let by_table = table_of_part c q left command (subst (λ rows. SomeNames c q left command rows) whole by_tree) in
    let found = contains_from_some c q left command table (subst (λ rows. SomeNames c q left command rows) (sym table_parts) by_table) in
    let names = found.2 in
    (found.0, found.1, names.0, (sym s.common ∙ names.1, sym s.query ∙ names.2, rw (← s.mnemonics) names.3))

-- The mnemonics of a header that names a command lead to this command.
pub leads_from_resolves : (path : List (List ℕ)) (header : List ℕ) (c q : Bool) (left : List (List ℕ)) (roots : List Branch)
    (command : CommandId)
    → StandsFor path header c q left → tree_rows c roots ≡ rows_with c → Resolves path header command
    → Leads (length roots) q roots left command
leads_from_resolves path header c q left roots command s whole h =
    let by_table = some_from_contains c q left command table h.1.0 h.0 h.1.1 h.1.2
    (h.2, s.common ∙ h.3.0, s.query ∙ h.3.1, rw s.mnemonics h.3.2) in
    let by_part = part_of_table c q left command (subst (λ rows. SomeNames c q left command rows) table_parts by_table) in
    leads_from_names (length roots) c q c roots left command (subst (λ rows. SomeNames c q left command rows) (sym whole) by_part)

-- So the walk finds the command that the header names, or the error is -113.
pub walk_resolves : (path : List (List ℕ)) (header : List ℕ) (c q : Bool) (left : List (List ℕ)) (roots : List Branch)
    (found : Option CommandId)
    → StandsFor path header c q left → tree_rows c roots ≡ rows_with c
    → IsFound found (λ command. Leads (length roots) q roots left command)
    → MatchResult (ok_or found UndefinedHeader) (λ command. Resolves path header command)
    (λ code. (code ≡ UndefinedHeader) × ((command : CommandId) → Resolves path header command → ⊥))
walk_resolves path header c q left roots (Some command) s whole h = resolves_from_leads path header c q left roots command s whole h
walk_resolves path header c q left roots None s whole h =
    (refl, λ command r. h command (leads_from_resolves path header c q left roots command s whole r))
