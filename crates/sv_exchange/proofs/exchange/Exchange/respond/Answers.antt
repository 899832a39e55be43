use Rattle.std.proofs.Common.{true, false, arith}
use Rattle.std.proofs.lemmas.Grind.{common_steps}
use Rattle.sv_exchange.proofs.Stands.{responded_stands}
use Rattle.sv_exchange.proofs.exchange.Exchange.respond.Goals as goal

pub returns-then-answer-len-clause-value : goal.returns-then-answer-len-clause-value
returns-then-answer-len-clause-value g c = grind (arith, common_steps)

pub returns-then-answer-len-clause-fits : goal.returns-then-answer-len-clause-fits
returns-then-answer-len-clause-fits g c = grind (arith, common_steps)

pub returns-then-answer-len-clause-stands : goal.returns-then-answer-len-clause-stands
returns-then-answer-len-clause-stands g c =
    responded_stands c.args.self.now _ c.args.answer.now false c.requires (returns-then-answer-len-clause-value g c)
    (returns-then-answer-len-clause-fits g c)

pub returns-clause-value : goal.returns-clause-value
returns-clause-value g c = grind (arith, common_steps)

pub returns-clause-fits : goal.returns-clause-fits
returns-clause-fits g c = grind (arith, common_steps)

pub returns-clause-stands : goal.returns-clause-stands
returns-clause-stands g c =
    responded_stands c.args.self.now _ c.args.answer.now true c.requires (returns-clause-value g c) (returns-clause-fits g c)
