use Rattle.sv_layers.proofs.Completion.{same_waiting}
use Rattle.sv_layers.proofs.laws.same_waiting.Goals as goal

pub returns : goal.returns
returns c = same_waiting
