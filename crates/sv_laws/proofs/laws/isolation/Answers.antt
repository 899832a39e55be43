use Rattle.sv_laws.proofs.Isolation.Isolated.{isolation}
use Rattle.sv_laws.proofs.laws.isolation.Goals as goal

pub returns : goal.returns
returns c = isolation
