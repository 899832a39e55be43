use Rattle.std.proofs.Common.{subst, List, ℕ}
use Rattle.std.specs.Io.KnownBytes.{Appends}
use Rattle.sv_print.specs.Parts.{part_text}
use Rattle.sv_print.proofs.Taking.{appends_none, appends_more, takes_stuck, texts_all}
use Rattle.sv_print.proofs.parts.put_parts.Goals as goal

pub loop-part-init : goal.loop-part-init
loop-part-init g c = appends_none _

pub returns-in_err-put_part : goal.returns-in_err-put_part
returns-in_err-put_part g c =
    takes_stuck part_text c.args.parts.now c.loop-part.part-index _ _ _ _ c.in_err-put_part.field-0.0 c.from_residual.result
    c.loop-part-test.true c.from_residual.ensures.0 c.loop-part.invariant c.in_err-put_part.ensures

pub loop-part-preserved : goal.loop-part-preserved
loop-part-preserved g c =
    appends_more part_text c.args.parts.now c.loop-part.part-index _ _ _ _ c.loop-part-test.true c.loop-part.invariant
    c.in_ok-put_part.ensures

pub returns : goal.returns
returns g c =
    subst (λ (l : List ℕ). Appends (g.W.Write.contents c.args.writer.now) (g.W.Write.contents c.loop-part.writer) l)
    (texts_all part_text c.args.parts.now c.loop-part.part-index c.loop-part-test.false) c.loop-part.invariant
