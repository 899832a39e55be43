use Rattle.sv_logs.proofs.Since.{iff_transitive}
use Rattle.sv_layers.proofs.SameEvents.{same_events}
use Rattle.sv_layers.proofs.layers.Layers.events.Goals as goal

pub returns : goal.returns
returns g c = λ log h k. iff_transitive (c.event.ensures _ _ (c.register.ensures _ h.status_log h.joined) k) (same_events c.args.name k log)
