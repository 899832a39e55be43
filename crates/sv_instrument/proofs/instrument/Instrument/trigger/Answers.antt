use Rattle.std.proofs.Common.{sym, subst, arith}
use Rattle.sv_layers.specs.Inside.Representation.{LayerState}
use Rattle.sv_instrument.specs.Inside.Acted.{Counts}
use Rattle.sv_instrument.proofs.Counting.{count_after_act, counts, runs_at_start}
use Rattle.sv_instrument.proofs.instrument.Instrument.trigger.Goals.{in-Ok, in-Err}
use Rattle.sv_instrument.proofs.instrument.Instrument.trigger.Goals as goal

pub returns : goal.returns
returns g c = λ log h.
    let s = runs_at_start (rw (← c.self.view_is) at h) in
    elim c.match-trigger.branch [
      | in-Ok w ↦
          let did = w.in-Ok.ensures.applied log s.layers.stands in
          let begun = count_after_act did.1 s.layers in
          rw did.0
          (c.take_requests.ensures.ran log _ (rw w.self-is (record { layers = begun; held = s.held; path = s.path })) (omega arith))
      | in-Err w ↦
          let same = subst (λ (layers : LayerState). Counts log layers log) (sym w.in-Err.ensures.refused) s.layers in
          let reported = counts w.apply.ensures.applied same in
          rw (w.in-Err.ensures.applied log s.layers.stands)
          (c.take_requests.ensures.ran log _ (rw w.self-is (record { layers = reported; held = s.held; path = s.path })) (omega arith))
    ]
