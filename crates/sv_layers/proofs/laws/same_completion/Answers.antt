use Rattle.sv_layers.proofs.Completion.{same_completion}
use Rattle.sv_layers.proofs.laws.same_completion.Goals as goal

pub returns : goal.returns
returns c = same_completion
