use Rattle.std.proofs.Common.{rules, tests, eqb, ◌∙◌}
use Rattle.std.proofs.lemmas.Iterator.{YieldsList-from_slice}
use Rattle.std.proofs.lemmas.Iterator.Search.{find_from_yields_List}
use Rattle.sv_links.proofs.Found.{entry_waits}
use Rattle.sv_links.proofs.waiting.Waiting.of.Goals as goal

pub returns : goal.returns
returns g c acts is =
    rw (c.copied.ensures
    ∙ find_from_yields_List {all = c.self.inside.entries.items} (λ entry. eqb entry.conn c.args.conn) _ _ c.find.result c.find.ensures.ran
    (YieldsList-from_slice _ cc)
    (λ x b q k. search (rules, tests))) (entry_waits c.args.conn acts c.self.inside.entries.items (rw (← c.self.view_is) at is))
