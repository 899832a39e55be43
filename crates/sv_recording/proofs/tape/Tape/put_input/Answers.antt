use Rattle.std.proofs.Math.Facts.{to_z-of_z}
use Rattle.sv_recording.proofs.tape.Tape.put_input.Goals as goal

pub returns : goal.returns
returns g c = λ first text ticks writes.
    rw c.from.ensures at (rw (to_z-of_z c.ranges.microvolts) at (c.put.ensures first text ticks writes))
