use Rattle.std.proofs.Common.{◌≡◌, rules, tests, ltb, ◌∙◌, sym, ℕ, List, true}
use Rattle.std.specs.Prelude.{map, filter}
use Rattle.std.specs.List.{find}
use Rattle.std.proofs.lemmas.Iterator.Adapters.{option_map_id}
use Rattle.std.proofs.lemmas.Iterator.{YieldsList-from_map}
use Rattle.std.proofs.lemmas.Iterator.Consumers.{YieldsList-from_first, YieldsList-from_filter, YieldsList-at, min_from_yields_List}
use Rattle.slab.specs.Slab.{entries_from}
use Rattle.sv_links.specs.declared.links.Link.{Link}
use Rattle.sv_links.specs.Links.{LinkAct, live}
use Rattle.sv_links.specs.Table.{IsTable}
use Rattle.sv_links.proofs.Named.{least_found, none_passes, first_link_is_found, first_link_is_lost}
use Rattle.sv_links.proofs.links.Links.after.Goals.{After-min}
use Rattle.sv_links.proofs.links.Links.after.Goals as goal
use Rattle.sv_links.proofs.links.Links.after.Given as given

-- The number that was found is that of the first link above `lid`.
lowest_is : (g : given.Over) (c : After-min g) (acts : List LinkAct) → IsTable c.args.self.now acts
    → c.min.result ≡ find (λ lid. true) (map (λ link. link.lid) (filter (λ (link : Link). ltb c.args.lid link.lid) (live acts)))
lowest_is g c acts is =
    let old = rw (← c.self.view_is) at is in
    let least = min_from_yields_List c.map.result c.min.result c.min.ensures.ran
    (YieldsList-from_map _ (λ (entry : ℕ × Link). entry.1.lid)
    (YieldsList-at c.map.ensures.source (YieldsList-from_filter _ (λ (entry : ℕ × Link). ltb c.args.lid entry.1.lid)
    (YieldsList-at c.filter.ensures.source (YieldsList-from_first (λ item. (item.0, item.1.now)) (λ rest. rest)
    (entries_from 0 c.self.inside.links.slots) c.iter.ensures.rest))
    c.filter.ensures.closure (λ x r q k. search (rules, tests))))
    c.map.ensures.closure (λ x r q k. search rules)) in
    sym (option_map_id c.min.result) ∙ least
    ∙ least_found (λ (link : Link). ltb c.args.lid link.lid) 0 c.self.inside.links.slots _ _ old.kept old.rising

pub returns-in-None : goal.returns-in-None
returns-in-None g c acts is =
    none_passes (λ (link : Link). ltb c.args.lid link.lid) (live acts) (sym (lowest_is g c.before acts is) ∙ c.in-None.is)

pub returns-in-Some-owner : goal.returns-in-Some-owner
returns-in-Some-owner g c acts is =
    first_link_is_found (λ (link : Link). ltb c.args.lid link.lid) (live acts) _ c.in-Some.next c.in-Some-owner.conn
    (rw (← c.self.view_is) at is).rising (sym (lowest_is g c.before.before.before acts is) ∙ c.in-Some.is) (c.in-Some-owner.ensures acts is)

pub returns-in-None-owner : goal.returns-in-None-owner
returns-in-None-owner g c acts is =
    first_link_is_lost (λ (link : Link). ltb c.args.lid link.lid) (live acts) _ c.in-Some.next
    (rw (← c.self.view_is) at is).rising (sym (lowest_is g c.before.before.before acts is) ∙ c.in-Some.is) (c.in-None-owner.ensures acts is)
