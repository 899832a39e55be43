use Rattle.sv_layers.proofs.SameRequests.{same_status}
use Rattle.sv_layers.proofs.laws.same_status.Goals as goal

pub returns : goal.returns
returns c = same_status
