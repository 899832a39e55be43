use Rattle.std.proofs.Common.{◌++◌, ◌∙◌, List, ℕ, ap, sym, append-nil}
use Rattle.sv_print.specs.Parts.{part_text}
use Rattle.sv_print.proofs.Taking.{texts_appended, texts_all}
use Rattle.sv_print.proofs.parts.append_all.Goals as goal

pub loop-part-init : goal.loop-part-init
loop-part-init c = sym (append-nil _)

pub loop-part-preserved : goal.loop-part-preserved
loop-part-preserved c =
    texts_appended part_text c.args.parts.now c.loop-part.part-index _ c.args.text.now.items c.loop-part.text.items
    c.append.new.text.items c.loop-part-test.true c.loop-part.invariant (c.append.ensures c.if-not-append.false)

pub returns : goal.returns
returns c = λ e. c.loop-part.invariant ∙ ap (λ (l : List ℕ). c.args.text.now.items ++ l)
    (texts_all part_text c.args.parts.now c.loop-part.part-index c.loop-part-test.false)
