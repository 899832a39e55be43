use Rattle.std.proofs.Common.{◌∙◌, ap, rules, arith}
use Rattle.std.specs.Prelude.{Option, unwrap_or}
use Rattle.sv_errors.specs.declared.code.Code.{Code}
use Rattle.sv_errors.specs.declared.code.Code.TheVariants.{NoError}
use Rattle.sv_layers.specs.Act.{queue_acts, scan_acts}
use Rattle.sv_value.specs.Printing.{error_text}
use Rattle.sv_instrument.specs.QueryResponse.{readings_text}
use Rattle.sv_instrument.proofs.Words.{word_printed, number_printed, append_to_empty}
use Rattle.sv_instrument.proofs.queries.put_answer.Goals.{in-StandardEvents, in-StatusByte, in-ErrorCount, in-Events, in-Condition}
use Rattle.sv_instrument.proofs.queries.put_answer.Goals as goal

pub returns-in-Identification-clause-capacity : goal.returns-in-Identification-clause-capacity
returns-in-Identification-clause-capacity g c = omega (arith, c.append.ensures.capacity, c.clear.ensures.capacity, c.requires)

pub returns-in-SelfTest-clause-capacity : goal.returns-in-SelfTest-clause-capacity
returns-in-SelfTest-clause-capacity g c = omega (arith, c.append-in-SelfTest.ensures.capacity, c.clear.ensures.capacity, c.requires)

pub returns-in-Version-clause-capacity : goal.returns-in-Version-clause-capacity
returns-in-Version-clause-capacity g c = omega (arith, c.append-in-Version.ensures.capacity, c.clear.ensures.capacity, c.requires)

pub returns-in-Error-clause-capacity : goal.returns-in-Error-clause-capacity
returns-in-Error-clause-capacity g c = omega (arith, c.put_error.ensures.capacity, c.clear.ensures.capacity, c.requires)

pub returns-in-Readings-clause-capacity : goal.returns-in-Readings-clause-capacity
returns-in-Readings-clause-capacity g c = omega (arith, c.put_readings.ensures.capacity, c.clear.ensures.capacity, c.requires)

pub returns-clause-capacity : goal.returns-clause-capacity
returns-clause-capacity g c = omega (arith, c.put_whole.ensures.capacity, c.clear.ensures.capacity, c.requires)

pub returns-in-Identification-clause-says : goal.returns-in-Identification-clause-says
returns-in-Identification-clause-says g c = λ log h free.
    rw c.in-Identification.is (append_to_empty c.clear.ensures.items c.append.ensures.items)

pub returns-in-SelfTest-clause-says : goal.returns-in-SelfTest-clause-says
returns-in-SelfTest-clause-says g c = λ log h free.
    rw c.in-SelfTest.is (append_to_empty c.clear.ensures.items c.append-in-SelfTest.ensures.items)

pub returns-in-Version-clause-says : goal.returns-in-Version-clause-says
returns-in-Version-clause-says g c = λ log h free.
    rw c.in-Version.is (append_to_empty c.clear.ensures.items c.append-in-Version.ensures.items)

pub returns-in-Error-clause-says : goal.returns-in-Error-clause-says
returns-in-Error-clause-says g c = λ log h free.
    let code = c.unwrap_or.ensures
    ∙ ap (λ (o : Option Code). unwrap_or o NoError) (c.oldest.ensures (queue_acts log) (c.errors.ensures log h)) in
    rw c.in-Error.is (append_to_empty c.clear.ensures.items c.put_error.ensures.text
    ∙ ap error_text code)

pub returns-in-Readings-clause-says : goal.returns-in-Readings-clause-says
returns-in-Readings-clause-says g c = λ log h free.
    rw c.in-Readings.is (append_to_empty c.clear.ensures.items c.put_readings.ensures.text
    ∙ ap readings_text (c.readings_so_far.ensures.answer (scan_acts log) (c.scanner.ensures.stands log h)))

pub returns-clause-says : goal.returns-clause-says
returns-clause-says g c = λ log h free.
    let empty = c.clear.ensures.items in
    let text = c.put_whole.ensures.text in
    elim c.match-question.branch [
      | in-StandardEvents w ↦
          let same = c.from.ensures ∙ w.word-is ∙ w.from-word.ensures in
          rw w.in-StandardEvents.is (word_printed _ _ _ _ _ (search rules) empty same text (w.standard_events.ensures log h))
      | in-StatusByte w ↦
          let same = c.from.ensures ∙ w.word-is ∙ w.from-word-in-StatusByte.ensures in
          rw w.in-StatusByte.is (word_printed _ _ _ _ _ (search rules) empty same text (w.status_byte.ensures log h))
      | in-ErrorCount w ↦
          let same = c.from.ensures ∙ w.word-is ∙ w.from-word-in-ErrorCount.ensures
          ∙ w.count.ensures.answer (queue_acts log) (w.errors-in-ErrorCount.ensures log h) in
          rw w.in-ErrorCount.is (number_printed _ _ _ _ empty same text)
      | in-Events w ↦
          let same = c.from.ensures ∙ w.word-is in
          rw w.in-Events.is (word_printed _ _ _ _ _ (search rules) empty same text (w.events-word.ensures log h))
      | in-Condition w ↦
          let same = c.from.ensures ∙ w.word-is ∙ w.condition-word.ensures log h in
          rw w.in-Condition.is (number_printed _ _ _ _ empty same text)
    ]

pub put_value-requires-clause-empty : goal.put_value-requires-clause-empty
put_value-requires-clause-empty g c = c.clear.ensures.items

pub put_value-requires-clause-room : goal.put_value-requires-clause-room
put_value-requires-clause-room g c = omega (arith, c.clear.ensures.capacity, c.requires)

pub returns-in-Value-clause-capacity : goal.returns-in-Value-clause-capacity
returns-in-Value-clause-capacity g c = c.put_value.ensures.capacity

pub returns-in-Value-clause-says : goal.returns-in-Value-clause-says
returns-in-Value-clause-says g c = λ log h free. rw c.in-Value.is (c.put_value.ensures.text log h)
