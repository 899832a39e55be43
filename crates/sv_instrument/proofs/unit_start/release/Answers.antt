use Rattle.std.proofs.Common.{◌∙◌, ◌++◌, ℕ, List, ap, arith}
use Rattle.sv_layers.specs.Act.{scan_acts}
use Rattle.sv_instrument.specs.CommandEffect.{after_answering, done}
use Rattle.sv_instrument.specs.QueryResponse.{readings_text}
use Rattle.sv_instrument.proofs.Units.{behaves_if_equal_log}
use Rattle.sv_instrument.proofs.unit_start.release.Goals as goal

pub returns-in-Nothing-clause-behaves : goal.returns-in-Nothing-clause-behaves
returns-in-Nothing-clause-behaves g c = rw c.in-Nothing.is c.end.ensures.behaves

pub returns-in-One-clause-behaves : goal.returns-in-One-clause-behaves
returns-in-One-clause-behaves g c = rw c.in-One.is c.reply.ensures.behaves

pub returns-in-Readings-clause-behaves : goal.returns-in-Readings-clause-behaves
returns-in-Readings-clause-behaves g c = λ start log h.
    let read = c.readings_so_far.ensures.answer (scan_acts log) (c.scanner.ensures.stands log h.stands) in
    let told = c.as_slice.ensures.value ∙ c.put_readings.ensures.text
    ∙ ap (λ (front : List ℕ). front ++ readings_text c.readings_so_far.result.now) c.clear.ensures.items ∙ ap readings_text read in
    rw c.in-Readings.is
    (behaves_if_equal_log (ap (λ (text : List ℕ). after_answering text (done log)) told) (c.reply-in-Readings.ensures.behaves start log h))

pub end-requires : goal.end-requires
end-requires g c = c.requires.due

pub reply-requires : goal.reply-requires
reply-requires g c = c.requires.due

pub reply-requires-in-Readings : goal.reply-requires-in-Readings
reply-requires-in-Readings g c = c.requires.due

pub put_readings-requires-clause-small : goal.put_readings-requires-clause-small
put_readings-requires-clause-small g c = c.readings_so_far.ensures.bounded

pub put_readings-requires-clause-room : goal.put_readings-requires-clause-room
put_readings-requires-clause-room g c =
    omega (arith, c.readings_so_far.ensures.few, c.clear.ensures.len, c.clear.ensures.capacity, c.requires.room)

pub returns-in-Nothing-clause-advances : goal.returns-in-Nothing-clause-advances
returns-in-Nothing-clause-advances g c = c.end.ensures.advances

pub returns-in-Nothing-clause-capacity : goal.returns-in-Nothing-clause-capacity
returns-in-Nothing-clause-capacity g c = c.requires.room

pub returns-in-One-clause-advances : goal.returns-in-One-clause-advances
returns-in-One-clause-advances g c = c.reply.ensures.advances

pub returns-in-One-clause-capacity : goal.returns-in-One-clause-capacity
returns-in-One-clause-capacity g c = c.requires.room

pub returns-in-Readings-clause-advances : goal.returns-in-Readings-clause-advances
returns-in-Readings-clause-advances g c = c.reply-in-Readings.ensures.advances

pub returns-in-Readings-clause-capacity : goal.returns-in-Readings-clause-capacity
returns-in-Readings-clause-capacity g c = omega (arith, c.put_readings.ensures.capacity, c.clear.ensures.capacity, c.requires.room)
