use Rattle.std.proofs.Common.{arith}
use Rattle.std.proofs.Math.Facts.{to_z-of_z}
use Rattle.sv_instrument.proofs.Counting.{counts, runs_at_start}
use Rattle.sv_instrument.proofs.instrument.Instrument.input.Goals as goal

pub returns : goal.returns
returns g c = λ log h.
    let s = runs_at_start (rw (← c.self.view_is) at h) in
    let put = rw (to_z-of_z c.ranges.microvolts) at (counts c.apply.ensures.applied s.layers) in
    c.take_requests.ensures.ran log _ (record { layers = put; held = s.held; path = s.path }) (omega arith)
