use Rattle.sv_recording.proofs.tape.Tape.put_line.Goals as goal

pub returns : goal.returns
returns g c = λ first text ticks writes. c.put_event.ensures first _ 0 (c.put_ticks.ensures first text ticks writes)
