use Rattle.std.proofs.Common.{refl}
use Rattle.sv_history.specs.Event.{plain}
use Rattle.sv_recording.specs.Tape.{script, pending}
use Rattle.sv_recording.proofs.Taping.{noted}
use Rattle.sv_recording.proofs.tape.TapeJournal.note.Goals as goal

pub returns-in-Open : goal.returns-in-Open
returns-in-Open g c = λ first history writes. noted g.W.Write.contents _ history (plain c.args.event) _ (rw c.in-Open.is refl)
    (c.put_line.ensures _ (script history) (pending history) writes)

pub returns-in-Bytes : goal.returns-in-Bytes
returns-in-Bytes g c = λ first history writes. noted g.W.Write.contents _ history (plain c.args.event) _ (rw c.in-Bytes.is refl)
    (c.put_line-in-Bytes.ensures _ (script history) (pending history) writes)

pub returns-in-Turn : goal.returns-in-Turn
returns-in-Turn g c = λ first history writes. noted g.W.Write.contents _ history (plain c.args.event) _ (rw c.in-Turn.is refl)
    (c.put_line-in-Turn.ensures _ (script history) (pending history) writes)

pub returns-in-Refuse : goal.returns-in-Refuse
returns-in-Refuse g c = λ first history writes. noted g.W.Write.contents _ history (plain c.args.event) _ (rw c.in-Refuse.is refl)
    (c.put_line-in-Refuse.ensures _ (script history) (pending history) writes)

pub returns-in-Close : goal.returns-in-Close
returns-in-Close g c = λ first history writes. noted g.W.Write.contents _ history (plain c.args.event) _ (rw c.in-Close.is refl)
    (c.put_line-in-Close.ensures _ (script history) (pending history) writes)

pub returns-in-Dialed : goal.returns-in-Dialed
returns-in-Dialed g c = λ first history writes. noted g.W.Write.contents _ history (plain c.args.event) _ (rw c.in-Dialed.is refl)
    (c.put_line-in-Dialed.ensures _ (script history) (pending history) writes)

pub returns-in-Input : goal.returns-in-Input
returns-in-Input g c = λ first history writes. noted g.W.Write.contents _ history (plain c.args.event) _ (rw c.in-Input.is refl)
    (c.put_line-in-Input.ensures _ (script history) (pending history) writes)

pub returns-in-External : goal.returns-in-External
returns-in-External g c = λ first history writes. noted g.W.Write.contents _ history (plain c.args.event) _ (rw c.in-External.is refl)
    (c.put_line-in-External.ensures _ (script history) (pending history) writes)
