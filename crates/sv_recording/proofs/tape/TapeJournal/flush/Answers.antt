use Rattle.sv_recording.specs.Tape.{script, pending}
use Rattle.sv_recording.proofs.tape.TapeJournal.flush.Goals as goal

pub returns : goal.returns
returns g c = λ first history writes. c.pass_on.ensures _ (script history) (pending history) writes
