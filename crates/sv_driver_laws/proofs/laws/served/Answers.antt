use Rattle.sv_driver_laws.proofs.Serving.{served}
use Rattle.sv_driver_laws.proofs.laws.served.Goals as goal

pub returns : goal.returns
returns g c = served g.W.Wire.hears g.J.Journal.notes
