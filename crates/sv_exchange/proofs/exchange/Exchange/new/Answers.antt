use Rattle.std.proofs.Common.{rules}
use Rattle.sv_exchange.proofs.Stands.{new_stands}
use Rattle.sv_exchange.proofs.exchange.Exchange.new.Goals as goal

pub returns : goal.returns
returns g c = search (rules, new_stands)
