use Rattle.std.proofs.Common.{arith, refl, ◌++◌}
use Rattle.sv_recording.specs.Tape.{script, pending, ticks_line}
use Rattle.sv_recording.proofs.Taping.{writes_reset, full_tick}
use Rattle.sv_recording.proofs.tape.Tape.count.Goals as goal

pub returns-then-self-eq-MOST_TICKS : goal.returns-then-self-eq-MOST_TICKS
returns-then-self-eq-MOST_TICKS g c = λ first history writes.
    let counted = (rw (← c.self.view_is) at writes).1 c.if-self.false in
    let left = c.self-then-self-eq-MOST_TICKS in
    full_tick g.W.Write.contents first history (record { writer = left.inside.writer; ticks = 0; failed = left.inside.failed })
    (omega (arith, counted, c.if-self-eq-MOST_TICKS.true))
    (writes_reset g.W.Write.contents first (script history ++ ticks_line 1000000) (pending history) _ _ refl refl refl
    (rw (← left.view_is) at (c.put_count.ensures first (script history) (pending history) writes)))
