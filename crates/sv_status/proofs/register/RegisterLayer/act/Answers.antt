use Rattle.std.proofs.Common.{ℕ, ◌∷◌, subst, sym}
use Rattle.sv_status.specs.declared.register.RegisterAct.TheVariants.{SetFilter}
use Rattle.sv_status.specs.Register.{StandsFor}
use Rattle.sv_status.proofs.register.RegisterLayer.act.Goals as goal

pub returns-in-SetFilter-clause-stands : goal.returns-in-SetFilter-clause-stands
returns-in-SetFilter-clause-stands c log is =
    let set = c.set_filter.ensures _ log is in
    let same = λ (start : ℕ). StandsFor start c.set_filter.new.self (SetFilter c.in-SetFilter.rise c.in-SetFilter.fall ∷ log) in
    rw c.in-SetFilter.is (subst same (sym set.begins) set)

pub returns-in-ReadEvent-clause-answer : goal.returns-in-ReadEvent-clause-answer
returns-in-ReadEvent-clause-answer c log is = rw c.in-ReadEvent.is (c.read_event.ensures.answer _ log is)
