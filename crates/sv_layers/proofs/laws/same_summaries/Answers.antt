use Rattle.sv_layers.proofs.SameSummaries.{same_summaries}
use Rattle.sv_layers.proofs.laws.same_summaries.Goals as goal

pub returns : goal.returns
returns c = same_summaries
