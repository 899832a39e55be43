use Rattle.std.proofs.Common.{take, map, ◌∷◌}
use Rattle.std.specs.List.{concat}
use Rattle.std.specs.Fmt.{signed_decimal}
use Rattle.sv_print.specs.Printed.{Prints}
use Rattle.sv_explain.proofs.lines.put_each.Given as goal

-- The numbers before the index are printed.
abbrev pub invariant-loop-number : goal.invariant-loop-number
invariant-loop-number g l = Prints (g.W.Write.contents l.fn.writer) l.fn.failed (g.W.Write.contents l.writer) l.failed
    (concat (map (λ n. 32 ∷ signed_decimal n) (take l.number-index l.numbers)))
