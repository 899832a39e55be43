use Rattle.sv_layers.proofs.SameStandard.{same_standard_events}
use Rattle.sv_layers.proofs.laws.same_standard_events.Goals as goal

pub returns : goal.returns
returns c = same_standard_events
