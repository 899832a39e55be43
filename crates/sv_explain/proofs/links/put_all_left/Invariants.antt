use Rattle.std.proofs.Common.{take, map}
use Rattle.std.specs.List.{concat}
use Rattle.sv_print.specs.Printed.{Prints}
use Rattle.sv_explain.specs.Inside.Names.{left_line}
use Rattle.sv_explain.proofs.Printing.{line_unless}
use Rattle.sv_explain.proofs.links.put_all_left.Given as goal

-- The lines of the links before the index are printed.
abbrev pub invariant-loop-link : goal.invariant-loop-link
invariant-loop-link g l = Prints (g.W.Write.contents l.fn.writer) l.fn.failed (g.W.Write.contents l.writer) l.failed
    (concat (map (line_unless (left_line l.of) l.new) (take l.link-index l.old)))
