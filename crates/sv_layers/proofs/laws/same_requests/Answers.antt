use Rattle.sv_layers.proofs.SameRequests.{same_requests}
use Rattle.sv_layers.proofs.laws.same_requests.Goals as goal

pub returns : goal.returns
returns c = same_requests
