use Rattle.std.specs.Cmp.Lexicographic.{pointwise}
use Rattle.std.specs.Ordering.{int_eq}
use Rattle.sv_explain.specs.Lines.{numbers_text}
use Rattle.sv_print.proofs.Taking.{prints_then, prints_equal_text}
use Rattle.sv_explain.proofs.Printing.{prints_if_changed, false_from_not, numbers_line_text}
use Rattle.sv_explain.proofs.lines.put_numbers.Goals as goal

pub returns-then-ne : goal.returns-then-ne
returns-then-ne g c =
    prints_if_changed _ _ _ _ (pointwise int_eq c.args.old.now c.args.new.now) _ (false_from_not _ c.if-ne.ensures)
    (prints_equal_text _ _ _ _ _ _ (numbers_line_text c.args.name.now (numbers_text c.args.new.now))
    (prints_then _ _ _ _ _ _ _ _ c.put.ensures
    (prints_then _ _ _ _ _ _ _ _ c.put_list.ensures c.put-then-ne.ensures)))
