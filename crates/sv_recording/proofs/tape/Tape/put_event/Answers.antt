use Rattle.std.proofs.Common.{rules, sym, subst, ◌++◌}
use Rattle.sv_history.specs.declared.event.Event.{Event}
use Rattle.sv_history.specs.Event.{Input, plain}
use Rattle.sv_recording.specs.Tape.{event_line, Writes}
use Rattle.sv_recording.proofs.tape.Tape.put_event.Goals as goal

pub returns-in-Open : goal.returns-in-Open
returns-in-Open g c = rw c.in-Open.is (λ first text ticks writes.
    rw c.role_end.ensures at (c.put_plain.ensures first text ticks writes))

pub returns-in-Bytes : goal.returns-in-Bytes
returns-in-Bytes g c = rw c.in-Bytes.is (λ first text ticks writes. c.put_bytes.ensures first text ticks writes)

pub returns-in-Turn : goal.returns-in-Turn
returns-in-Turn g c = rw c.in-Turn.is (λ first text ticks writes. c.put_plain-in-Turn.ensures first text ticks writes)

pub returns-in-Refuse : goal.returns-in-Refuse
returns-in-Refuse g c = rw c.in-Refuse.is (λ first text ticks writes. c.put_plain-in-Refuse.ensures first text ticks writes)

pub returns-in-Close : goal.returns-in-Close
returns-in-Close g c = rw c.in-Close.is (λ first text ticks writes. c.put_close.ensures first text ticks writes)

pub returns-in-Dialed : goal.returns-in-Dialed
returns-in-Dialed g c = rw c.in-Dialed.is (λ first text ticks writes.
    rw c.ok_end.ensures at (c.put_plain-in-Dialed.ensures first text ticks writes))

pub returns-in-Input : goal.returns-in-Input
returns-in-Input g c = λ first text ticks writes.
    let did : Writes g.W.Write.contents first
    (text ++ event_line (Input c.in-Input.channel c.in-Input.microvolts)) ticks c.put_input.new.self =
    search (rules, c.put_input.ensures first text ticks writes) in
    subst (λ (e : Event). Writes g.W.Write.contents first (text ++ event_line (plain e)) ticks c.put_input.new.self) (sym c.in-Input.is) did

pub returns-in-External : goal.returns-in-External
returns-in-External g c = rw c.in-External.is (λ first text ticks writes. c.put.ensures first text ticks writes)
