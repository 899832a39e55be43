use Rattle.sv_explain.specs.Inside.Names.{left_line}
use Rattle.sv_print.proofs.Taking.{prints_none, prints_more, prints_equal_text}
use Rattle.sv_explain.proofs.Printing.{line_unless, prints_all, without_lines}
use Rattle.sv_explain.proofs.links.put_all_left.Goals as goal

pub loop-link-init : goal.loop-link-init
loop-link-init g c = prints_none _ _

pub loop-link-preserved : goal.loop-link-preserved
loop-link-preserved g c =
    prints_more (line_unless (left_line c.args.of) c.args.new.now) c.args.old.now c.loop-link.link-index _ _ _ _ _ _ _
    c.loop-link-test.true c.loop-link.invariant c.put_left.ensures

pub returns : goal.returns
returns g c =
    prints_equal_text _ _ _ _ _ _ (without_lines (left_line c.args.of) c.args.new.now c.args.old.now)
    (prints_all (line_unless (left_line c.args.of) c.args.new.now) c.args.old.now c.loop-link.link-index _ _ _ _
    c.loop-link-test.false c.loop-link.invariant)
