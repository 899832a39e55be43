use Rattle.std.proofs.Common.{sym, subst, arith}
use Rattle.sv_layers.specs.Inside.Representation.{LayerState, AllRead}
use Rattle.sv_instrument.proofs.Counting.{count_after_act, no_act_raises_none, runs_at_start}
use Rattle.sv_instrument.proofs.instrument.Instrument.external.Goals as goal

pub returns-in-Ok : goal.returns-in-Ok
returns-in-Ok g c = λ log h.
    let s = rw (← c.self.view_is) at h in
    let did = c.in-Ok.ensures.applied log s.layers.stands in
    let begun = count_after_act did.1 (runs_at_start s).layers in
    rw did.0 (c.take_requests.ensures.ran log _ (record { layers = begun; held = s.held; path = s.path }) (omega arith))

pub returns-in-Err : goal.returns-in-Err
returns-in-Err g c = λ log h.
    let s = rw (← c.self.view_is) at h in
    let same = subst (λ (layers : LayerState). AllRead layers log) (sym c.in-Err.ensures.refused) s.layers in
    rw (c.in-Err.ensures.applied log s.layers.stands)
    (record { stands = record { layers = same; held = s.held; path = s.path }; raises = no_act_raises_none log })
