use Rattle.sv_layers.proofs.Lent.{scanner_stands}
use Rattle.sv_layers.proofs.layers.Layers.scanner.Goals as goal

pub returns-clause-stands : goal.returns-clause-stands
returns-clause-stands g c = λ log h. scanner_stands _ log (rw (← c.self.view_is) at h)
