use Rattle.sv_exchange.proofs.Stands.{text_dropped_stands}
use Rattle.sv_exchange.proofs.exchange.Exchange.drop_unfinished.Goals as goal

pub returns-clause-stands : goal.returns-clause-stands
returns-clause-stands g c = λ acts s. text_dropped_stands _ _ acts c.requires c.drop_text.ensures s
