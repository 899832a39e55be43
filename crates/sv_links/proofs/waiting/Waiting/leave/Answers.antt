use Rattle.std.proofs.Common.{rules, eqb, Bool}
use Rattle.std.specs.Prelude.{not}
use Rattle.std.proofs.lemmas.Fn.{filter_same}
use Rattle.sv_links.specs.declared.waiting.Entry.{Entry}
use Rattle.sv_links.specs.Limits.{max_connections}
use Rattle.sv_links.proofs.Queues.{is_queue_left, once_filter, below_filter}
use Rattle.sv_links.proofs.waiting.Waiting.leave.Goals as goal

pub invariant_of-self : goal.invariant_of-self
invariant_of-self g c =
    let p : Entry → Bool = λ entry. not (eqb entry.conn c.args.conn) in
    let kept = filter_same _ p _ (λ x b f' k. search rules) _ _ c.retain.ensures.filtered in
    let items = c.self.inside.entries.items in (
      rw kept (once_filter p items c.self.invariant.0),
      rw kept (below_filter p max_connections items c.self.invariant.1),
      search rules,
    )

pub returns-clause-value : goal.returns-clause-value
returns-clause-value g c =
    rw (← c.self.view_is)
    (filter_same _ (λ entry. not (eqb entry.conn c.args.conn)) _ (λ x b f' k. search rules) _ _ c.retain.ensures.filtered)

pub returns-clause-stands : goal.returns-clause-stands
returns-clause-stands g c acts is =
    rw (filter_same _ (λ entry. not (eqb entry.conn c.args.conn)) _ (λ x b f' k. search rules) _ _ c.retain.ensures.filtered)
    (is_queue_left c.args.conn acts _ (rw c.self.view_is is))
