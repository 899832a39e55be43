use Rattle.sv_recording.proofs.tape.Tape.put_bytes.Goals as goal

pub returns : goal.returns
returns g c = λ first text ticks writes. rw c.from.ensures at (c.put.ensures first text ticks writes)
