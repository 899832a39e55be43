use Rattle.std.proofs.Common.{rules, tests, arith, eqb, None}
use Rattle.std.specs.Prelude.{not}
use Rattle.sv_links.specs.declared.links.Link.{Link}
use Rattle.sv_links.proofs.Slots.{retained, retain_adds_none}
use Rattle.sv_links.proofs.Closing.{is_table_closed, closed_holder_frees, other_holder_stays, no_holder_stays}
use Rattle.sv_links.proofs.links.Links.close_connection.Goals as goal
use Rattle.sv_links.proofs.links.Links.close_connection.Goals.{in-Some+then-eq, in-Some+else-eq, in_default}

pub invariant_of-self : goal.invariant_of-self
invariant_of-self g c =
    let slots = retained _ _ (λ (link : Link). not (eqb link.conn c.args.conn)) (λ key shown b left next k. search (rules, tests)) 0
    c.match-self.self-inside.links.slots c.retain.new.self.slots c.retain.ensures.retained in
    let fewer = retain_adds_none (λ (link : Link). not (eqb link.conn c.args.conn)) c.match-self.self-inside.links.slots
    c.retain.new.self.slots slots in
    let capacity = c.retain.ensures.capacity in
    elim c.match-self.branch [
      | in-Some+then-eq w ↦ (
        rw w.self-inside-is c.self.invariant.0,
        (let fewer = rw w.self-inside-is at fewer in omega (arith, fewer, c.self.invariant.1)),
        (let fewer = rw w.self-inside-is at fewer in let capacity = rw w.self-inside-is at capacity in
            rw w.self-inside-is (omega (arith, fewer, capacity, c.self.invariant.2))),
      )
      | in-Some+else-eq w ↦ (
        rw w.self-inside-is c.self.invariant.0,
        (let fewer = rw w.self-inside-is at fewer in omega (arith, fewer, c.self.invariant.1)),
        (let fewer = rw w.self-inside-is at fewer in let capacity = rw w.self-inside-is at capacity in
            rw w.self-inside-is (omega (arith, fewer, capacity, c.self.invariant.2))),
      )
      | in_default w ↦ (
        rw w.self-inside-is c.self.invariant.0,
        (let fewer = rw w.self-inside-is at fewer in omega (arith, fewer, c.self.invariant.1)),
        (let fewer = rw w.self-inside-is at fewer in let capacity = rw w.self-inside-is at capacity in
            rw w.self-inside-is (omega (arith, fewer, capacity, c.self.invariant.2))),
      )
    ]

pub returns-clause-stands : goal.returns-clause-stands
returns-clause-stands g c acts is =
    let slots = retained _ _ (λ (link : Link). not (eqb link.conn c.args.conn)) (λ key shown b left next k. search (rules, tests)) 0
    c.match-self.self-inside.links.slots c.retain.new.self.slots c.retain.ensures.retained in
    let old = rw (← c.self.view_is) at is in
    elim c.match-self.branch [
      | in-Some+then-eq w ↦
          let slots = rw w.self-inside-is at slots in
          rw w.self-inside-is (is_table_closed _ c.args.conn acts c.retain.new.self.slots None slots
          (closed_holder_frees c.args.conn w.in-Some.lid acts c.self.inside.holder w.owner.result w.eq.result w.in-Some.is
          (w.owner.ensures acts is) w.eq.ensures w.if-eq.true) old)
      | in-Some+else-eq w ↦
          let slots = rw w.self-inside-is at slots in
          rw w.self-inside-is (is_table_closed _ c.args.conn acts c.retain.new.self.slots c.self.inside.holder slots
          (other_holder_stays c.args.conn w.in-Some.lid acts c.self.inside.holder w.owner.result w.eq.result w.in-Some.is
          (w.owner.ensures acts is) w.eq.ensures w.if-eq.false) old)
      | in_default w ↦
          let slots = rw w.self-inside-is at slots in
          rw w.self-inside-is (is_table_closed _ c.args.conn acts c.retain.new.self.slots c.self.inside.holder slots
          (no_holder_stays c.args.conn acts c.self.inside.holder w.in_default.is) old)
    ]
