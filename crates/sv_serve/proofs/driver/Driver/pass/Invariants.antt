use Rattle.sv_serve.specs.DriverView.{Steps, ForEach, ◌then◌}
use Rattle.sv_serve.specs.Sweep.{Plays, TicksOnce}
use Rattle.sv_serve.proofs.driver.Driver.pass.Given as goal

-- So many milliseconds have passed.
abbrev pub invariant-loop : goal.invariant-loop
invariant-loop g l = Steps g.J.Journal.notes (ForEach l.counter (λ i. Plays then TicksOnce)) l.fn.self l.self
