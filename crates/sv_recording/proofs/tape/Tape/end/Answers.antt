use Rattle.sv_recording.proofs.tape.Tape.end.Goals as goal

pub returns-clause-text : goal.returns-clause-text
returns-clause-text g c = λ first text ticks writes. c.pass_on.ensures first _ 0 (c.put_ticks.ensures first text ticks writes)
