use Rattle.std.proofs.Common.{rules, tests, eqb, ap, ◌∙◌, None, Some, ℕ}
use Rattle.std.specs.Prelude.{option_map}
use Rattle.std.proofs.lemmas.Iterator.Consumers.{YieldsList-from_first}
use Rattle.std.proofs.lemmas.Iterator.Search.{find_from_yields_List}
use Rattle.slab.specs.Slab.{entries_from}
use Rattle.sv_links.specs.declared.links.Link.{Link}
use Rattle.sv_links.proofs.Named.{owner_found}
use Rattle.sv_links.proofs.links.Links.owner.Goals as goal

pub returns-in_err-_key : goal.returns-in_err-_key
returns-in_err-_key g c acts is =
    let old = rw (← c.self.view_is) at is in
    let found = find_from_yields_List {all = entries_from 0 c.self.inside.links.slots} (λ entry. eqb entry.1.lid c.args.lid) _ _
    None c.in_err-_key.ensures.ran
    (YieldsList-from_first (λ item. (item.0, item.1.now)) (λ rest. rest) _ c.iter.ensures.rest) (λ x b q k. search (rules, tests)) in
    c.from_residual.ensures ∙ ap (option_map (λ (entry : ℕ × Link). entry.1.conn)) found
    ∙ owner_found c.args.lid 0 c.self.inside.links.slots _ _ old.kept old.rising

pub returns : goal.returns
returns g c acts is =
    let old = rw (← c.self.view_is) at is in
    let found = find_from_yields_List {all = entries_from 0 c.self.inside.links.slots} (λ entry. eqb entry.1.lid c.args.lid)
    c.find.new.self _
    (Some (c.in_ok-_key._key, c.in_ok-_key.link)) c.in_ok-_key.ensures.ran
    (YieldsList-from_first (λ item. (item.0, item.1.now)) (λ rest. rest) _ c.iter.ensures.rest) (λ x b q k. search (rules, tests)) in
    ap (option_map (λ (entry : ℕ × Link). entry.1.conn)) found ∙ owner_found c.args.lid 0 c.self.inside.links.slots _ _ old.kept old.rising
