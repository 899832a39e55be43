use Rattle.std.proofs.Common.{refl, sym, ap, subst, ◌∙◌, ◌++◌}
use Rattle.sv_recording.specs.Tape.{Writes, ticks_line}
use Rattle.sv_recording.proofs.Taping.{writes_reset}
use Rattle.sv_recording.proofs.tape.Tape.put_ticks.Goals as goal

pub returns : goal.returns
returns g c = λ first text ticks writes.
    let counted = writes.1 (ap (λ t. t.failed) (sym c.self.view_is) ∙ c.if-self.false) in
    writes_reset g.W.Write.contents first (text ++ ticks_line ticks) ticks _ _ refl refl refl (rw (← c.self-2.view_is) at
    (subst (λ n. Writes g.W.Write.contents first (text ++ ticks_line n) ticks c.put_count-2.new.self)
    (ap (λ t. t.ticks) c.put_count.view_is ∙ counted) (c.put_count-2.ensures first text ticks writes)))
