use Rattle.std.proofs.Common.{rules}
use Rattle.sv_exchange.proofs.exchange.Exchange.overran.Goals as goal

pub returns-clause-value : goal.returns-clause-value
returns-clause-value g c = search rules

pub returns-clause-measure : goal.returns-clause-measure
returns-clause-measure g c = search rules

pub returns-clause-stays_open : goal.returns-clause-stays_open
returns-clause-stays_open g c = search rules

pub returns-clause-stands : goal.returns-clause-stands
returns-clause-stands g c = search rules
