use Rattle.std.proofs.Common.{refl}
use Rattle.sv_instrument.proofs.instrument.Instrument.new.Goals as goal

pub invariant_of-result : goal.invariant_of-result
invariant_of-result g c = (c.in_ok-answer.ensures.capacity, tt)

pub returns : goal.returns
returns g c = record { layers = c.in_ok-layers.ensures; held = refl; path = c.root.ensures }
