use Rattle.std.proofs.Common.{arith}
use Rattle.sv_instrument.proofs.Counting.{counts, runs_at_start}
use Rattle.sv_instrument.proofs.NextStep.{read_keeps_held_unit}
use Rattle.sv_instrument.proofs.instrument.Instrument.take.Goals as goal

pub invariant_of-self : goal.invariant_of-self
invariant_of-self g c = (
  c.self.invariant.0,
  read_keeps_held_unit c.self.inside.held _ _ _ c.self.invariant.1 (rw (← c.self.view_is) at c.requires)
      c.take.ensures.value,
)

pub returns : goal.returns
returns g c = λ log h.
    let s = runs_at_start (rw (← c.self.view_is) at h) in
    let taken = counts c.take.ensures.applied s.layers in
    c.take_requests.ensures.ran log _ (record { layers = taken; held = s.held; path = s.path }) (omega arith)
