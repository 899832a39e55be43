use Rattle.std.proofs.Common.{arith, refl}
use Rattle.sv_instrument.proofs.Counting.{counts, runs_at_start}
use Rattle.sv_instrument.proofs.instrument.Instrument.clear.Goals as goal

pub returns : goal.returns
returns g c = λ log h.
    let s = runs_at_start (rw (← c.self.view_is) at h) in
    let purged = counts c.purge.ensures.applied s.layers in
    c.take_requests.ensures.ran log _ (record { layers = purged; held = refl; path = c.root-self-inside.ensures }) (omega arith)
