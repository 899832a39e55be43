use Rattle.sv_logs.proofs.Since.{iff_transitive}
use Rattle.sv_layers.proofs.SameStandard.{same_standard_events}
use Rattle.sv_layers.proofs.layers.Layers.standard_events.Goals as goal

pub returns : goal.returns
returns g c = λ log h k.
    let j = rw (← c.self.view_is) at h.joined in
    iff_transitive (c.event.ensures _ j.standard k) (same_standard_events k log)
