use Rattle.sv_logs.proofs.Since.{iff_transitive}
use Rattle.sv_layers.proofs.SameRequests.{same_status}
use Rattle.sv_layers.proofs.layers.Layers.status_byte.Goals as goal

pub returns : goal.returns
returns g c = λ log h k.
    let j = rw (← c.self.view_is) at h.joined in
    iff_transitive (c.status.ensures h.status_log j.status k) (same_status log h.status_log h.are k).1
