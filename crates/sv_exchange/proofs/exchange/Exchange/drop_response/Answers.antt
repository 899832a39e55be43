use Rattle.std.proofs.Common.{rules, sym, subst, arith}
use Rattle.std.proofs.lemmas.Grind.{common_steps}
use Rattle.sv_exchange.specs.Contents.{Contents, IsUnitDue, next_of}
use Rattle.sv_exchange.proofs.Dues.{unit_due_after_interrupt, interrupt_due_has_response}
use Rattle.sv_exchange.proofs.Measures.{interrupt_measure}
use Rattle.sv_exchange.proofs.Stands.{interrupted_stands}
use Rattle.sv_exchange.proofs.exchange.Exchange.drop_response.Goals as goal

pub invariant_of-self : goal.invariant_of-self
invariant_of-self g c = search rules

pub returns-clause-value : goal.returns-clause-value
returns-clause-value g c = grind (arith, common_steps)

pub returns-clause-measure : goal.returns-clause-measure
returns-clause-measure g c =
    interrupt_measure c.args.self.now _ (interrupt_due_has_response c.args.self.now c.requires) (returns-clause-value g c)

pub returns-clause-stays_open : goal.returns-clause-stays_open
returns-clause-stays_open g c = search rules

pub returns-clause-stands : goal.returns-clause-stands
returns-clause-stands g c =
    λ acts s. interrupted_stands c.args.self.now _ acts (interrupt_due_has_response c.args.self.now c.requires) (returns-clause-value g c) s

pub returns-clause-next : goal.returns-clause-next
returns-clause-next g c =
    subst (λ (contents : Contents). IsUnitDue (next_of contents)) (sym (returns-clause-value g c))
    (unit_due_after_interrupt c.args.self.now c.requires)
