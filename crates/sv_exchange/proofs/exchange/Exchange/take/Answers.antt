use Rattle.std.proofs.Common.{arith}
use Rattle.std.proofs.lemmas.Grind.{common_steps}
use Rattle.sv_exchange.proofs.Stands.{read_stands}
use Rattle.sv_exchange.proofs.exchange.Exchange.take.Goals as goal

pub returns-clause-stands : goal.returns-clause-stands
returns-clause-stands g c = λ acts s. read_stands c.args.self.now _ acts c.args.count c.requires (grind (arith, common_steps)) s
