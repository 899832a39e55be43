use Rattle.std.proofs.Common.{rules, ◌≡◌, ◌∙◌, sym, Some, None}
use Rattle.sv_exchange.specs.Contents.{unit_of}
use Rattle.sv_exchange.proofs.Dues.{next_unit_by_contents}
use Rattle.sv_exchange.proofs.exchange.Exchange.pending_unit.Goals as goal

pub returns-in-Some : goal.returns-in-Some
returns-in-Some g c = let is : Some c.in-Some.unit.now ≡ unit_of c.args.self.now = search rules in
    λ acts s. is ∙ sym (next_unit_by_contents _ acts s)

pub returns-in-None : goal.returns-in-None
returns-in-None g c = let is : None ≡ unit_of c.args.self.now = search rules in λ acts s. is ∙ sym (next_unit_by_contents _ acts s)
