use Rattle.std.proofs.Common.{◌∙◌}
use Rattle.sv_layers.proofs.SameStandard.{same_enable}
use Rattle.sv_layers.proofs.layers.Layers.standard_enable.Goals as goal

pub returns : goal.returns
returns g c = λ log h.
    let j = rw (← c.self.view_is) at h.joined in
    c.enable.ensures _ j.standard ∙ same_enable log
