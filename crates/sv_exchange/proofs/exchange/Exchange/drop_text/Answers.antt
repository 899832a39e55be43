use Rattle.std.proofs.Common.{rules}
use Rattle.sv_exchange.proofs.exchange.Exchange.drop_text.Goals as goal

pub returns : goal.returns
returns g c = search rules
