use Rattle.std.proofs.Common.{rules}
use Rattle.sv_exchange.proofs.exchange.Exchange.readable.Goals as goal

pub returns-clause-value : goal.returns-clause-value
returns-clause-value g c = search rules

pub returns-clause-answer : goal.returns-clause-answer
returns-clause-answer g c = search rules
