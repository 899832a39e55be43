use Rattle.sv_layers.proofs.Completion.{same_waiting}
use Rattle.sv_layers.proofs.layers.Layers.has_opc.Goals as goal

pub returns : goal.returns
returns g c = λ log h.
    let j = rw (← c.self.view_is) at h.joined in
    rw j.waits (same_waiting log)
