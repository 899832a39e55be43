use Rattle.sv_recording.proofs.tape.Tape.put_close.Goals as goal

pub returns-in-Conn : goal.returns-in-Conn
returns-in-Conn g c = rw c.in-Conn.is (λ first text ticks writes. c.put_plain.ensures first text ticks writes)

pub returns-in-Intr : goal.returns-in-Intr
returns-in-Intr g c = rw c.in-Intr.is (λ first text ticks writes. c.put_plain-in-Intr.ensures first text ticks writes)
