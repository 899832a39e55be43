use Rattle.sv_serve.specs.DriverView.{Steps, ForEach}
use Rattle.sv_serve.specs.Steps.{Dials}
use Rattle.sv_serve.proofs.driver.Driver.dial_each.Given as goal

-- The step was taken for each connection below this number.
abbrev pub invariant-loop-conn : goal.invariant-loop-conn
invariant-loop-conn g l = Steps g.J.Journal.notes (ForEach l.conn (Dials g.W.Wire.hears)) l.fn.self l.self
