use Rattle.std.proofs.Common.{◌-◌, length}
use Rattle.sv_exchange.specs.Ahead.{IsBegun}
use Rattle.sv_exchange.proofs.ahead.Ahead.look.Given as goal

-- A prefix of the text was read, and the state describes it.
abbrev pub invariant-loop-self : goal.invariant-loop-self
invariant-loop-self l = IsBegun l.self l.text

abbrev pub decreases-loop-self : goal.decreases-loop-self
decreases-loop-self l = length l.text - l.self.looked
