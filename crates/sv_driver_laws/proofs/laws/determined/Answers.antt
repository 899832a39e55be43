use Rattle.sv_driver_laws.proofs.Answered.{by_answers}
use Rattle.sv_driver_laws.proofs.CarriedOn.{determined}
use Rattle.sv_driver_laws.proofs.laws.determined.Goals as goal

pub returns-clause-until : goal.returns-clause-until
returns-clause-until g c = determined g.W.Wire.hears g.J.Journal.notes g.V.Wire.hears g.K.Journal.notes

pub returns-clause-by_answers : goal.returns-clause-by_answers
returns-clause-by_answers g c = by_answers
