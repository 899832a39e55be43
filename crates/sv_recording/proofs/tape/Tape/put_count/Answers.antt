use Rattle.std.proofs.Common.{arith}
use Rattle.sv_recording.proofs.Taping.{writes_as, ticks_line_is}
use Rattle.sv_recording.proofs.tape.Tape.put_count.Goals as goal

pub returns-then-count-gt0 : goal.returns-then-count-gt0
returns-then-count-gt0 g c = λ first text ticks writes. writes_as g.W.Write.contents first _ _ ticks _
    (ticks_line_is text c.args.count (λ e. absurd (omega (arith, c.if-count-gt0.true, e))))
    (rw c.from.ensures at (c.put.ensures first text ticks writes))
