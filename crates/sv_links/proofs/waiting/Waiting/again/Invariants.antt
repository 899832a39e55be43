use Rattle.std.proofs.Common.{◌≡◌, ◌++◌}
use Rattle.std.specs.Prelude.{map, take, drop}
use Rattle.sv_links.specs.Queue.{anew}
use Rattle.sv_links.proofs.waiting.Waiting.again.Given as goal

abbrev pub invariant-loop-entry : goal.invariant-loop-entry
invariant-loop-entry g l =
    l.entry-items ≡ map (anew l.conn l.wait l.deadline) (take l.entry-index l.initial.entry-items)
    ++ drop l.entry-index l.initial.entry-items
