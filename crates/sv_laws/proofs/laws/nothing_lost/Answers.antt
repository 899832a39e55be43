use Rattle.sv_laws.proofs.NothingLost.{nothing_lost}
use Rattle.sv_laws.proofs.laws.nothing_lost.Goals as goal

pub returns : goal.returns
returns c = nothing_lost
