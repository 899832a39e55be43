use Rattle.std.proofs.Common.{rules, tests, arith}
use Rattle.sv_links.proofs.Slots.{retained, retain_adds_none}
use Rattle.sv_links.proofs.Tables.{other_than, is_table_destroyed, freed_if_holder, freed_if_not_holder}
use Rattle.sv_links.proofs.links.Links.destroy.Goals as goal

pub invariant_of-self : goal.invariant_of-self
invariant_of-self g c =
    let slots = retained _ _ (other_than c.args.lid) (λ key shown b left next k. search (rules, tests)) 0
    c.self.inside.links.slots c.retain.new.self.slots c.retain.ensures.retained in
    let fewer = retain_adds_none (other_than c.args.lid) c.self.inside.links.slots c.retain.new.self.slots slots in (
      c.self.invariant.0,
      omega (arith, fewer, c.self.invariant.1),
      omega (arith, fewer, c.self.invariant.2, c.retain.ensures.capacity),
    )

pub invariant_of-self-else-eq : goal.invariant_of-self-else-eq
invariant_of-self-else-eq g c =
    let slots = retained _ _ (other_than c.args.lid) (λ key shown b left next k. search (rules, tests)) 0
    c.self.inside.links.slots c.retain.new.self.slots c.retain.ensures.retained in
    let fewer = retain_adds_none (other_than c.args.lid) c.self.inside.links.slots c.retain.new.self.slots slots in (
      c.self.invariant.0,
      omega (arith, fewer, c.self.invariant.1),
      omega (arith, fewer, c.self.invariant.2, c.retain.ensures.capacity),
    )

pub returns-then-eq-clause-stands : goal.returns-then-eq-clause-stands
returns-then-eq-clause-stands g c acts is =
    let slots = retained _ _ (other_than c.args.lid) (λ key shown b left next k. search (rules, tests)) 0
    c.self.inside.links.slots c.retain.new.self.slots c.retain.ensures.retained in
    is_table_destroyed _ c.args.lid acts _ _ slots (freed_if_holder c.args.lid c.self.inside.holder c.eq.result c.eq.ensures c.if-eq.true)
    (rw c.self.view_is is)

pub returns-else-eq-clause-stands : goal.returns-else-eq-clause-stands
returns-else-eq-clause-stands g c acts is =
    let slots = retained _ _ (other_than c.args.lid) (λ key shown b left next k. search (rules, tests)) 0
    c.self.inside.links.slots c.retain.new.self.slots c.retain.ensures.retained in
    is_table_destroyed _ c.args.lid acts _ _ slots
    (freed_if_not_holder c.args.lid c.self.inside.holder c.eq.result c.eq.ensures c.if-eq.false)
    (rw c.self.view_is is)
