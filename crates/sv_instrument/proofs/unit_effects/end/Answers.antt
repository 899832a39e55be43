use Rattle.sv_instrument.proofs.Counting.{counts}
use Rattle.sv_instrument.proofs.Units.{behaves_done}
use Rattle.sv_instrument.proofs.unit_effects.end.Goals as goal

pub returns-clause-behaves : goal.returns-clause-behaves
returns-clause-behaves g c = λ start log h. behaves_done start log _ (counts c.done.ensures.applied h)
