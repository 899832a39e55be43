use Rattle.std.proofs.Common.{refl}
use Rattle.sv_layers.proofs.Acted.{exchange_act_begun}
use Rattle.sv_layers.proofs.layers.Layers.accept.Goals as goal

pub returns-clause-applied : goal.returns-clause-applied
returns-clause-applied g c = λ log h.
    let k = rw (← c.self.view_is) at h in
    rw (← c.self.view_is) (c.update_status.ensures.applied log _ (exchange_act_begun k (c.accept.ensures.stands _ k.joined.exchange)) refl)
