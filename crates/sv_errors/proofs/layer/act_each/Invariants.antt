-- The acts before the index have happened.
use Rattle.std.proofs.Common.{List, ◌++◌, take}
use Rattle.std.specs.Prelude.{reverse}
use Rattle.sv_errors.proofs.layer.act_each.Given as goal

abbrev pub invariant-loop-act : goal.invariant-loop-act
invariant-loop-act g l = (log : List g.row.L-Act.Denot) → g.L.Layer.stands_for l.fn.layer log
    → g.L.Layer.stands_for l.layer (reverse (take l.act-index l.acts) ++ log)
