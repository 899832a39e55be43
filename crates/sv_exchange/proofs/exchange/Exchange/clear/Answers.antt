use Rattle.std.proofs.Common.{rules}
use Rattle.sv_exchange.proofs.Stands.{cleared_stands}
use Rattle.sv_exchange.proofs.exchange.Exchange.clear.Goals as goal

pub returns-clause-value : goal.returns-clause-value
returns-clause-value g c = search rules

pub returns-clause-stands : goal.returns-clause-stands
returns-clause-stands g c = λ acts s. cleared_stands _ acts (returns-clause-value g c)
