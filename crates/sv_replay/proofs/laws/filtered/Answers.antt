use Rattle.sv_replay.proofs.Filter.Runs.{runs_filtered}
use Rattle.sv_replay.proofs.laws.filtered.Goals as goal

pub returns : goal.returns
returns c = runs_filtered
