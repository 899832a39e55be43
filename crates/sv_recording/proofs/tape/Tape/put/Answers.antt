use Rattle.std.proofs.Common.{refl}
use Rattle.sv_recording.proofs.Taping.{writes_then}
use Rattle.sv_recording.proofs.tape.Tape.put.Goals as goal

pub returns : goal.returns
returns g c = rw (← c.self.view_is) (λ first text ticks writes.
    writes_then g.W.Write.contents first text _ ticks _ _ refl c.put.ensures writes)
