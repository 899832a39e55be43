use Rattle.std.proofs.Common.{◌∙◌, ℕ, ◌∷◌, [], ap, arith}
use Rattle.sv_layers.specs.Act.{scan_acts}
use Rattle.sv_value.specs.Printing.{channels_text, switch_text, source_text}
use Rattle.sv_instrument.proofs.Words.{number_printed, append_to_empty}
use Rattle.sv_instrument.proofs.queries.put_value.Goals.{in-StandardEnable, in-ServiceEnable, in-Enable, in-Rise, in-Fall, in-Count}
use Rattle.sv_instrument.proofs.queries.put_value.Goals as goal

pub returns-in-ScanList-clause-capacity : goal.returns-in-ScanList-clause-capacity
returns-in-ScanList-clause-capacity g c = omega (arith, c.put_channels.ensures.capacity, c.requires.room)

pub returns-in-Monitor-clause-capacity : goal.returns-in-Monitor-clause-capacity
returns-in-Monitor-clause-capacity g c = omega (arith, c.put_channels-in-Monitor.ensures.capacity, c.requires.room)

pub returns-in-Range-clause-capacity : goal.returns-in-Range-clause-capacity
returns-in-Range-clause-capacity g c = omega (arith, c.put_voltage.ensures.capacity, c.requires.room)

pub returns-in-UpperLimit-clause-capacity : goal.returns-in-UpperLimit-clause-capacity
returns-in-UpperLimit-clause-capacity g c = omega (arith, c.put_voltage-in-UpperLimit.ensures.capacity, c.requires.room)

pub returns-in-LowerLimit-clause-capacity : goal.returns-in-LowerLimit-clause-capacity
returns-in-LowerLimit-clause-capacity g c = omega (arith, c.put_voltage-in-LowerLimit.ensures.capacity, c.requires.room)

pub returns-in-Limits-clause-capacity : goal.returns-in-Limits-clause-capacity
returns-in-Limits-clause-capacity g c = omega (arith, c.put_switch.ensures.capacity, c.requires.room)

pub returns-in-Source-clause-capacity : goal.returns-in-Source-clause-capacity
returns-in-Source-clause-capacity g c = omega (arith, c.put_source.ensures.capacity, c.requires.room)

pub returns-in-ScanList-clause-text : goal.returns-in-ScanList-clause-text
returns-in-ScanList-clause-text g c = λ log h.
    rw c.in-ScanList.is (append_to_empty c.requires.empty c.put_channels.ensures.text
    ∙ ap channels_text (c.list.ensures.answer (scan_acts log) (c.scanner-scanner.ensures.stands log h)))

pub returns-in-Monitor-clause-text : goal.returns-in-Monitor-clause-text
returns-in-Monitor-clause-text g c = λ log h.
    rw c.in-Monitor.is (append_to_empty c.requires.empty c.put_channels-in-Monitor.ensures.text
    ∙ ap (λ (k : ℕ). channels_text (k ∷ [])) (c.monitor.ensures.answer (scan_acts log) (c.scanner-scanner.ensures.stands log h)))

pub returns-in-Limits-clause-text : goal.returns-in-Limits-clause-text
returns-in-Limits-clause-text g c = λ log h.
    rw c.in-Limits.is (append_to_empty c.requires.empty c.put_switch.ensures.text
    ∙ ap switch_text (c.limits.ensures (scan_acts log) (c.scanner-scanner.ensures.stands log h)))

pub returns-in-Source-clause-text : goal.returns-in-Source-clause-text
returns-in-Source-clause-text g c = λ log h.
    rw c.in-Source.is (append_to_empty c.requires.empty c.put_source.ensures.text
    ∙ ap source_text (c.source.ensures (scan_acts log) (c.scanner-scanner.ensures.stands log h)))

pub returns-clause-text : goal.returns-clause-text
returns-clause-text g c = λ log h.
    let empty = c.requires.empty in
    let text = c.put_whole.ensures.text in
    elim c.match-name.branch [
      | in-StandardEnable w ↦
          let same = c.from.ensures ∙ w.word-is ∙ w.from-word.ensures ∙ w.standard_enable.ensures log h in
          rw w.in-StandardEnable.is (number_printed _ _ _ _ empty same text)
      | in-ServiceEnable w ↦
          let same = c.from.ensures ∙ w.word-is ∙ w.from-word-in-ServiceEnable.ensures ∙ w.service.ensures log h in
          rw w.in-ServiceEnable.is (number_printed _ _ _ _ empty same text)
      | in-Enable w ↦
          let same = c.from.ensures ∙ w.word-is ∙ w.enabled-word.ensures log h in
          rw w.in-Enable.is (number_printed _ _ _ _ empty same text)
      | in-Rise w ↦
          let same = c.from.ensures ∙ w.word-is ∙ w.rise-word.ensures log h in
          rw w.in-Rise.is (number_printed _ _ _ _ empty same text)
      | in-Fall w ↦
          let same = c.from.ensures ∙ w.word-is ∙ w.fall-word.ensures log h in
          rw w.in-Fall.is (number_printed _ _ _ _ empty same text)
      | in-Count w ↦
          let same = c.from.ensures ∙ w.word-is ∙ w.from-word-in-Count.ensures
          ∙ w.count.ensures.answer (scan_acts log) (c.scanner-scanner.ensures.stands log h) in
          rw w.in-Count.is (number_printed _ _ _ _ empty same text)
    ]

pub returns-clause-capacity : goal.returns-clause-capacity
returns-clause-capacity g c = omega (arith, c.put_whole.ensures.capacity, c.requires.room)
