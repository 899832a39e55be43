use Rattle.std.proofs.Common.{rules, arith, ◌≡◌, ◌≤◌, ◌∙◌, tests}
use Rattle.std.proofs.lemmas.Iterator.{YieldsList-from_slice}
use Rattle.std.proofs.lemmas.Iterator.Consumers.{count_from_yields_List, YieldsList-from_filter, YieldsList-at}
use Rattle.sv_links.specs.Limits.{max_connections, max_waiting}
use Rattle.sv_links.specs.Queue.{creates, creations}
use Rattle.sv_links.proofs.Counted.{length_filter_le}
use Rattle.sv_links.proofs.Queues.{entries_at_most}
use Rattle.sv_links.proofs.Creating.{creations_all}
use Rattle.sv_links.proofs.waiting.Waiting.creating.Goals as goal
use Rattle.sv_links.proofs.waiting.Waiting.creating.Given as given

counted : (g : given.Over) (c : goal.After-count g) → c.count.result ≡ creations c.self.inside.entries.items
counted g c =
    count_from_yields_List c.filter.result _ c.count.ensures.ran
    (YieldsList-from_filter _ creates (YieldsList-at c.filter.ensures.source
    (YieldsList-from_slice c.self.inside.entries.items cc)) c.filter.ensures.closure
    (λ x r q k. search (rules, tests)))

few : (g : given.Over) (c : goal.After-count g) → c.count.result ≤ max_waiting
few g c =
    let items = c.self.inside.entries.items in
    omega (
      arith,
      counted g c,
      length_filter_le creates items,
      entries_at_most max_connections items c.self.invariant.0 c.self.invariant.1,
    )

pub overflow_cast-result : goal.overflow_cast-result
overflow_cast-result g c = let few = few g c in search (rules, few, arith)

pub returns-clause-value : goal.returns-clause-value
returns-clause-value g c = rw (← c.self.view_is) (counted g c)

pub returns-clause-bounded : goal.returns-clause-bounded
returns-clause-bounded g c = few g c

pub returns-clause-answer : goal.returns-clause-answer
returns-clause-answer g c acts is =
    counted g c ∙ creations_all acts c.self.inside.entries.items c.self.invariant.0 c.self.invariant.1 (rw (← c.self.view_is) at is)
