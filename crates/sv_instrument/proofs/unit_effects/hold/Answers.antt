use Rattle.sv_instrument.proofs.Counting.{counts}
use Rattle.sv_instrument.proofs.Units.{behaves_held}
use Rattle.sv_instrument.proofs.unit_effects.hold.Goals as goal

pub returns-clause-behaves : goal.returns-clause-behaves
returns-clause-behaves g c = λ start log h. behaves_held start log c.args.awaited _ (counts c.apply.ensures.applied h)
