use Rattle.std.proofs.Common.{Bool, ℕ, rules, tests, ◌∙◌}
use Rattle.std.specs.Prelude.{find, ◌≡◌}
use Rattle.std.proofs.lemmas.Iterator.{YieldsList-from_slice}
use Rattle.std.proofs.lemmas.Iterator.Search.{find_from_yields_List}
use Rattle.sv_links.specs.declared.waiting.Entry.{Entry}
use Rattle.sv_links.specs.Limits.{max_connections}
use Rattle.sv_links.specs.Queue.{IsEntry, is_past}
use Rattle.sv_links.proofs.Queues.{oldest_expired}
use Rattle.sv_links.proofs.Found.{found_each, found_within, measure_after_found}
use Rattle.sv_links.proofs.waiting.Waiting.expired.Goals as goal
use Rattle.sv_links.proofs.waiting.Waiting.expired.Given as given

abbrev passes : ℕ → Entry → Bool
passes clock entry = is_past clock entry.deadline

result_is : (g : given.Over) (c : goal.After-copied g) → c.copied.result ≡ find (passes c.args.clock) c.self.inside.entries.items
result_is g c = c.copied.ensures
    ∙ find_from_yields_List {all = c.self.inside.entries.items} (passes c.args.clock) _ _ c.find.result c.find.ensures.ran
    (YieldsList-from_slice _ cc) (λ x b q k. search (rules, tests))

pub returns-clause-answer : goal.returns-clause-answer
returns-clause-answer g c acts is =
    rw (c.copied.ensures
    ∙ find_from_yields_List {all = c.self.inside.entries.items} (passes c.args.clock) _ _ c.find.result c.find.ensures.ran
    (YieldsList-from_slice _ cc) (λ x b q k. search (rules, tests)))
    (oldest_expired c.args.clock acts c.self.inside.entries.items (rw (← c.self.view_is) at is))

pub returns-clause-entry : goal.returns-clause-entry
returns-clause-entry g c acts is =
    let old = rw (← c.self.view_is) at is in
    rw (result_is g c) (found_each (IsEntry acts) (passes c.args.clock) c.self.inside.entries.items old.each)

pub returns-clause-within : goal.returns-clause-within
returns-clause-within g c =
    rw (result_is g c, ← c.self.view_is) (found_within (passes c.args.clock) max_connections c.self.inside.entries.items
    c.self.invariant.1 c.self.invariant.0)

pub returns-clause-measure : goal.returns-clause-measure
returns-clause-measure g c = rw (result_is g c, ← c.self.view_is) (measure_after_found (passes c.args.clock) c.self.inside.entries.items)
