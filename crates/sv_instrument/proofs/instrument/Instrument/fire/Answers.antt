use Rattle.std.proofs.Common.{refl, arith, rules}
use Rattle.sv_instrument.proofs.Counting.{count_after_act, runs_at_start}
use Rattle.sv_instrument.proofs.instrument.Instrument.fire.Goals as goal

pub returns-in-Ok-clause-fires : goal.returns-in-Ok-clause-fires
returns-in-Ok-clause-fires g c = λ log h.
    let s = runs_at_start (rw (← c.self.view_is) at h) in
    let did = c.in-Ok.ensures.applied log s.layers.stands in
    let begun = count_after_act did.1 s.layers in
    (_, (did.0, refl), c.take_requests.ensures.ran log _ (record { layers = begun; held = s.held; path = s.path }) (omega arith))

pub returns-in-Ok-clause-idle : goal.returns-in-Ok-clause-idle
returns-in-Ok-clause-idle g c = tt

pub returns-in-Err-clause-fires : goal.returns-in-Err-clause-fires
returns-in-Err-clause-fires g c = search rules

pub returns-in-Err-clause-measure : goal.returns-in-Err-clause-measure
returns-in-Err-clause-measure g c = tt
