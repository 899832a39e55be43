use Rattle.std.proofs.Common.{◌≡◌, List, ℕ, ◌++◌, drop}
use Rattle.sv_print.specs.Printed.{Prints}
use Rattle.sv_explain.specs.Lines.{lines_of}
use Rattle.sv_explain.specs.Inside.Names.{owner_text, texts_of}
use Rattle.sv_explain.proofs.lines.put_values.Given as goal

-- The lines of the values before the index are printed; the other lines remain.
abbrev pub invariant-loop-index : goal.invariant-loop-index
invariant-loop-index g l = (done : List ℕ) × (lines_of (owner_text l.owner) (texts_of l.names) l.old l.new
    ≡ done ++ lines_of (owner_text l.owner) (texts_of (drop l.index l.names)) (drop l.index l.old) (drop l.index l.new))
    × Prints (g.W.Write.contents l.fn.writer) l.fn.failed (g.W.Write.contents l.writer) l.failed done
