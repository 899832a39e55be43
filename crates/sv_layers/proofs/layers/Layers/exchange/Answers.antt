use Rattle.sv_layers.proofs.Lent.{exchange_stands}
use Rattle.sv_layers.proofs.layers.Layers.exchange.Goals as goal

pub returns-clause-stands : goal.returns-clause-stands
returns-clause-stands g c = λ log h. exchange_stands _ log (rw (← c.self.view_is) at h)
