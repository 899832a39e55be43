use Rattle.std.proofs.Common.{ℕ, length}
use Rattle.sv_serve.specs.DriverView.{Steps, ForEach}
use Rattle.sv_serve.specs.Sweep.{PlaysOne}
use Rattle.sv_serve.proofs.driver.Driver.play.Given as goal

-- Some entries of the scenario, each of them due, were applied.
abbrev pub invariant-loop : goal.invariant-loop
invariant-loop g l = Steps g.J.Journal.notes (λ config before after. (n : ℕ)
    × ForEach n (λ i. PlaysOne) config before after) l.fn.self l.self

abbrev pub decreases-loop : goal.decreases-loop
decreases-loop g l = length l.self.ahead
