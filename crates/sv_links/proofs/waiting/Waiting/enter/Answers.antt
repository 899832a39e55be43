use Rattle.std.proofs.Common.{rules, arith, ap, ◌∙◌, List, ◌++◌, ◌∷◌, []}
use Rattle.sv_links.specs.Limits.{max_connections}
use Rattle.sv_links.specs.Queue.{IsFree}
use Rattle.sv_links.specs.declared.waiting.Entry.{Entry}
use Rattle.sv_links.proofs.Queues.{is_queue_entered, free_without, once_push, below_push, queue_has_room}
use Rattle.sv_links.proofs.waiting.Waiting.enter.Goals as goal

pub push_reserved-requires : goal.push_reserved-requires
push_reserved-requires g c =
    let items = c.self.view_is ∙ c.leave.ensures.value in
    let free : IsFree c.args.entry.conn c.self.inside.entries.items = rw items (free_without c.args.entry.conn c.args.self.now) in
    let room = queue_has_room c.args.entry max_connections c.self.inside.entries.items free c.requires c.self.invariant.0
    c.self.invariant.1 in
    search (rules, room, arith)

pub invariant_of-self : goal.invariant_of-self
invariant_of-self g c =
    let items = c.self.view_is ∙ c.leave.ensures.value in
    let free : IsFree c.args.entry.conn c.self.inside.entries.items = rw items (free_without c.args.entry.conn c.args.self.now) in
    let items = c.self.inside.entries.items in (
      rw c.push_reserved.ensures.items (once_push c.args.entry items free c.self.invariant.0),
      rw c.push_reserved.ensures.items (below_push c.args.entry max_connections items c.requires c.self.invariant.1),
      search rules,
    )

pub returns-clause-value : goal.returns-clause-value
returns-clause-value g c =
    c.push_reserved.ensures.items ∙ ap (λ (xs : List Entry). xs ++ c.args.entry ∷ []) (c.self.view_is ∙ c.leave.ensures.value)

pub returns-clause-stands : goal.returns-clause-stands
returns-clause-stands g c acts is =
    rw (c.push_reserved.ensures.items ∙ ap (λ (xs : List Entry). xs ++ c.args.entry ∷ []) (c.self.view_is ∙ c.leave.ensures.value))
    (is_queue_entered c.args.entry acts c.args.self.now is)
