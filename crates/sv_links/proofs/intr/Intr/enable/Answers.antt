use Rattle.std.proofs.Common.{◌≡◌, ◌≤◌, ◌<◌, ◌∷◌, ◌++◌, ℕ, List, Bool, length, rules, tests, arith, ltb, refl, sym, ap, subst, ◌∙◌}
use Rattle.std.specs.Prelude.{not}
use Rattle.std.specs.List.{insert}
use Rattle.std.specs.Result.{is_ok}
use Rattle.std.proofs.lemmas.Iterator.{YieldsList-from_slice}
use Rattle.std.proofs.lemmas.Iterator.Consumers.{count_from_yields_List, YieldsList-from_filter, YieldsList-at}
use Rattle.std.proofs.lemmas.Bool.{cond-true}
use Rattle.std.proofs.lemmas.List.Edits.{length-insert}
use Rattle.std.proofs.lemmas.List.Filters.{length-filter_both}
use Rattle.sv_links.specs.declared.enabled.Enabled.{Enabled}
use Rattle.sv_links.specs.Limits.{max_enabled}
use Rattle.sv_links.specs.ChannelRepresentation.{Channel, Channels, AreChannels, IsSorted}
use Rattle.sv_links.proofs.Asking.{lower_links, higher_links, other_links, sorted_inserted, insert_between}
use Rattle.sv_links.proofs.Acts.{are_channels_enabled}
use Rattle.sv_links.proofs.intr.Intr.enable.Goals as goal
use Rattle.sv_links.proofs.intr.Intr.enable.Given as given

-- The other links with service requests enabled stay.
others_are : (g : given.Over) (c : goal.After-insert g) → c.self.inside.enabled.items ≡ other_links c.args.lid c.args.self.now.enabled
others_are g c = ap (λ (kept : Channels). kept.enabled) c.self.view_is ∙ c.disable.ensures.value

-- The link's position comes after the links with lower numbers.
place_is : (g : given.Over) (c : goal.After-insert g) → c.count-place.result ≡ length (lower_links c.args.lid c.self.inside.enabled.items)
place_is g c =
    count_from_yields_List c.filter.result _ c.count-place.ensures.ran
    (YieldsList-from_filter _ (λ (other : Enabled). ltb other.lid c.args.lid) (YieldsList-at c.filter.ensures.source
    (YieldsList-from_slice c.self.inside.enabled.items cc)) c.filter.ensures.closure
    (λ x r q k. search (rules, tests)))

-- Memory suffices, so the link is inserted.
items_are : (g : given.Over) (c : goal.After-insert g) → c.insert.new.self.items
    ≡ insert (other_links c.args.lid c.args.self.now.enabled)
    (length (lower_links c.args.lid (other_links c.args.lid c.args.self.now.enabled))) c.new.result
items_are g c =
    let others = c.self.inside.enabled.items in
    let done = c.insert.ensures.succeeds (omega (arith, c.if-len-ge-MAX_ENABLED.false, c.len.ensures, c.self.invariant.2)) in
    c.insert.ensures.items ∙ cond-true (is_ok c.insert.result) (insert others c.count-place.result c.new.result) others done
    ∙ ap (λ (place : ℕ). insert others place c.new.result) (place_is g c)
    ∙ ap (λ (links : List Enabled). insert links (length (lower_links c.args.lid links)) c.new.result) (others_are g c)

pub invariant_of-self : goal.invariant_of-self
invariant_of-self g c =
    let lid = c.args.lid in
    let others = other_links lid c.args.self.now.enabled in
    let test : Enabled → Bool = λ other. ltb other.lid lid in
    let few : length others < max_enabled =
    omega (arith, c.if-len-ge-MAX_ENABLED.false, c.len.ensures, c.self.inside.enabled.ok.0, ap length (others_are g c)) in
    let within : length (lower_links lid others) ≤ length others =
    omega (arith, length-filter_both test (λ other. not (test other)) (λ _. refl) others) in (
      c.self.invariant.0,
      omega (arith, few, ap length (items_are g c), length-insert others (length (lower_links lid others)) c.new.result within),
      omega (arith, c.insert.ensures.capacity, c.self.invariant.2),
      rw (items_are g c) (sorted_inserted lid c.args.self.now.enabled c.new.result c.new.ensures.link.0
          (subst IsSorted (others_are g c) c.self.invariant.3)),
    )

pub returns-clause-stands : goal.returns-clause-stands
returns-clause-stands g c short room acts is =
    let lid = c.args.lid in
    let old = c.args.self.now in
    let link = c.new.result in
    let channels = ap (λ (kept : Channels). kept.channels) c.self.view_is ∙ c.disable.ensures.ready in
    let before = subst (λ (channels : List Channel). AreChannels (record old { channels = channels }) acts) (sym channels) is in
    let sorted = subst IsSorted (others_are g c) c.self.invariant.3 in
    let place = items_are g c ∙ insert_between lid old.enabled link sorted
    ∙ ap (λ (lid : ℕ). lower_links lid old.enabled ++ link ∷ higher_links lid old.enabled) (sym c.new.ensures.link.0) in
    let now = are_channels_enabled (record old { channels = c.self.inside.channels.items }) c.insert.new.self.items link acts place before
    in
    let opened = rw (← c.self.view_is) at c.disable.ensures.stands in
    rw (← c.new.ensures.link.0, ← c.new.ensures.link.1, ← c.new.ensures.handle short) (record {
      enabled = now.enabled;
      each = now.each;
      beyond = now.beyond;
      opened = (opened acts is).opened;
    })

pub returns-clause-ready : goal.returns-clause-ready
returns-clause-ready g c = search rules
