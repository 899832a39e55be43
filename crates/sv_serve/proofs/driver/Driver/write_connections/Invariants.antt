use Rattle.std.proofs.Common.{ℕ}
use Rattle.sv_serve.specs.DriverView.{Steps, ForEach}
use Rattle.sv_history.specs.declared.event.Port.TheVariants.{Conn}
use Rattle.sv_serve.specs.Steps.{WritesTo}
use Rattle.sv_serve.proofs.driver.Driver.write_connections.Given as goal

-- The step was taken for each connection below this number.
abbrev pub invariant-loop-conn : goal.invariant-loop-conn
invariant-loop-conn g l = Steps g.J.Journal.notes (ForEach l.conn (λ (c : ℕ). WritesTo g.W.Wire.hears (Conn c))) l.fn.self l.self
