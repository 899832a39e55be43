use Rattle.sv_laws.proofs.Stillness.{time_only_counts}
use Rattle.sv_laws.proofs.laws.stillness.Goals as goal

pub returns : goal.returns
returns c = time_only_counts
