use Rattle.sv_driver_laws.proofs.CarriedOn.{carried}
use Rattle.sv_driver_laws.proofs.laws.carried.Goals as goal

pub returns : goal.returns
returns g c = carried g.W.Wire.hears g.J.Journal.notes
