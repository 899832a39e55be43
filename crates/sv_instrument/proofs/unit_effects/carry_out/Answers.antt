use Rattle.sv_instrument.proofs.Counting.{counts}
use Rattle.sv_instrument.proofs.Units.{behaves_apart, change_apart}
use Rattle.sv_instrument.proofs.unit_effects.carry_out.Goals as goal

pub returns-clause-behaves : goal.returns-clause-behaves
returns-clause-behaves g c = λ start log h.
    behaves_apart (change_apart c.args.change log) (c.end.ensures.behaves start _ (counts c.apply.ensures.applied h))
