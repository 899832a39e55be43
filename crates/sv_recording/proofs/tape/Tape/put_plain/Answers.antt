use Rattle.std.proofs.Common.{append-nil}
use Rattle.sv_recording.proofs.tape.Tape.put_plain.Goals as goal

pub returns : goal.returns
returns g c = λ first text ticks writes.
    rw c.from.ensures at (rw (append-nil c.args.end.now) at (c.put.ensures first text ticks writes))
