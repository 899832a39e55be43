use Rattle.sv_serve.specs.DriverView.{Steps, ForEach}
use Rattle.sv_serve.specs.Steps.{ReadsFrom}
use Rattle.sv_serve.proofs.driver.Driver.read_each.Given as goal

-- The step was taken for each connection below this number.
abbrev pub invariant-loop-conn : goal.invariant-loop-conn
invariant-loop-conn g l = Steps g.J.Journal.notes (ForEach l.conn (ReadsFrom g.W.Wire.hears)) l.fn.self l.self
