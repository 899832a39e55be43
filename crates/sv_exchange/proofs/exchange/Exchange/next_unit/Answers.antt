use Rattle.std.proofs.Common.{rules, ◌≡◌, ◌∙◌}
use Rattle.sv_exchange.specs.Exchange.{InterruptDue, FinishDue, UnitDue}
use Rattle.sv_exchange.specs.Contents.{next_of}
use Rattle.sv_exchange.proofs.Dues.{due_by_contents}
use Rattle.sv_exchange.proofs.exchange.Exchange.next_unit.Goals as goal

pub returns-then-self-2-clause-answer : goal.returns-then-self-2-clause-answer
returns-then-self-2-clause-answer g c = let is : FinishDue ≡ next_of c.args.self.now = search rules in
    λ acts s. is ∙ due_by_contents _ acts s

pub returns-then-readable-clause-answer : goal.returns-then-readable-clause-answer
returns-then-readable-clause-answer g c = let is : InterruptDue ≡ next_of c.args.self.now = search rules in
    λ acts s. is ∙ due_by_contents _ acts s

pub returns-else-readable-clause-answer : goal.returns-else-readable-clause-answer
returns-else-readable-clause-answer g c = let is : UnitDue c.in-Some.unit.now ≡ next_of c.args.self.now = search rules in
    λ acts s. is ∙ due_by_contents _ acts s

pub returns-in-None-clause-answer : goal.returns-in-None-clause-answer
returns-in-None-clause-answer g c = let is : FinishDue ≡ next_of c.args.self.now = search rules in λ acts s. is ∙ due_by_contents _ acts s
