use Rattle.std.proofs.Common.{[], refl}
use Rattle.sv_explain.specs.Inside.Names.{owner_text}
use Rattle.sv_print.proofs.Taking.{prints_none}
use Rattle.sv_explain.proofs.Printing.{below_least, values_more, values_all}
use Rattle.sv_explain.proofs.lines.put_values.Goals as goal

pub loop-index-init : goal.loop-index-init
loop-index-init g c = ([], refl, prints_none _ _)

pub loop-index-preserved : goal.loop-index-preserved
loop-index-preserved g c =
    values_more (owner_text c.args.owner) c.args.names.now c.args.old.now c.args.new.now c.loop-index.index _ _ _ _ _ _ _ _
    (below_least _ _ _ _ _ c.loop-index.index c.min.ensures c.min-count.ensures c.loop-index-test.true)
    c.loop-index.invariant c.put_value.ensures

pub returns : goal.returns
returns g c =
    values_all (owner_text c.args.owner) c.args.names.now c.args.old.now c.args.new.now _ _ c.loop-index.index _ _ _ _
    c.min.ensures c.min-count.ensures c.loop-index-test.false c.loop-index.invariant
