use Rattle.std.proofs.Common.{◌∙◌}
use Rattle.sv_layers.proofs.Projected.{projected}
use Rattle.sv_layers.proofs.layers.Layers.service.Goals as goal

pub returns : goal.returns
returns g c = λ log h.
    let j = rw (← c.self.view_is) at h.joined in
    j.service ∙ (projected log).3
