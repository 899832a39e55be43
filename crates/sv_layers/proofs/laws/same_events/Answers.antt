use Rattle.sv_layers.proofs.SameEvents.{same_events}
use Rattle.sv_layers.proofs.laws.same_events.Goals as goal

pub returns : goal.returns
returns c = same_events
