use Rattle.std.proofs.Common.{rules, ◌≡◌, ◌∙◌, sym, None}
use Rattle.sv_exchange.proofs.Dues.{unended_in, unended_is}
use Rattle.sv_exchange.proofs.exchange.Exchange.unended.Goals as goal

pub returns-then-self : goal.returns-then-self
returns-then-self g c = let is : None ≡ unended_in c.args.self.now = search rules in λ acts s. is ∙ sym (unended_is _ acts s)
