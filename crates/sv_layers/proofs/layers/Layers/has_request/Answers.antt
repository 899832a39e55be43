use Rattle.sv_logs.proofs.Since.{iff_transitive}
use Rattle.sv_layers.proofs.SameRequests.{same_requests}
use Rattle.sv_layers.proofs.layers.Layers.has_request.Goals as goal

pub returns : goal.returns
returns g c = λ log h.
    let j = rw (← c.self.view_is) at h.joined in
    iff_transitive (c.rqs.ensures h.status_log j.status) (same_requests log h.status_log h.are)
