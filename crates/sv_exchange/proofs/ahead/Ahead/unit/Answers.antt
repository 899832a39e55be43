use Rattle.sv_exchange.proofs.Looking.{first_is}
use Rattle.sv_exchange.proofs.ahead.Ahead.unit.Goals as goal

pub returns-then-self : goal.returns-then-self
returns-then-self c = first_is c.args.self.now c.args.text.now c.requires c.if-self.true
