-- The entries of a scenario's lines are accepted by the server and in order of time.
use Rattle.std.proofs.Common.{ℕ, List, [], ◌∷◌, sym, subst, inl, inr}
use Rattle.sv_replay.specs.declared.entry.Entry.{Entry}
use Rattle.sv_replay.specs.Scenario.{Tells, IsScenario}

pub told_entries_are_scenario : (least : ℕ) (lines : List (List ℕ)) (entries : List Entry) → Tells least lines entries
    → IsScenario least entries
told_entries_are_scenario least [] entries none = subst (IsScenario least) (sym none) tt
told_entries_are_scenario least (line ∷ lines) entries (inl (empty, more)) = told_entries_are_scenario least lines entries more
told_entries_are_scenario least (line ∷ lines) entries
    (inr (entry, others, (short, (digits, text, number, few, says, accepted, is), le), more, all)) =
    subst (IsScenario least) (sym all) (le, accepted, told_entries_are_scenario entry.tick lines others more)
