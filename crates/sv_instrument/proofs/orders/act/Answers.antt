use Rattle.std.proofs.Common.{refl, sym, subst}
use Rattle.sv_layers.specs.Act.{scan_acts}
use Rattle.sv_layers.specs.Inside.Representation.{LayerState}
use Rattle.sv_layers.proofs.Refusals.{no_fault_if_done, fault_of_refusal}
use Rattle.sv_instrument.specs.Inside.Acted.{Counts}
use Rattle.sv_instrument.proofs.Counting.{count_after_act, counts}
use Rattle.sv_instrument.proofs.Units.{behaves_apart, behaves_if_equal_log, behaves_unless}
use Rattle.sv_instrument.proofs.orders.act.Goals.{in-ClearStatus, in-Reset, in-TellComplete, in-Preset, in-Initiate, in-Abort}
use Rattle.sv_instrument.proofs.orders.act.Goals as goal

pub returns-in-Wait-clause-behaves : goal.returns-in-Wait-clause-behaves
returns-in-Wait-clause-behaves g c = rw c.in-Wait.is c.hold.ensures.behaves

pub returns-in-WaitAndTell-clause-behaves : goal.returns-in-WaitAndTell-clause-behaves
returns-in-WaitAndTell-clause-behaves g c = rw c.in-WaitAndTell.is c.hold-in-WaitAndTell.ensures.behaves

pub returns-in-Wait-clause-advances : goal.returns-in-Wait-clause-advances
returns-in-Wait-clause-advances g c = c.hold.ensures.advances

pub returns-in-WaitAndTell-clause-advances : goal.returns-in-WaitAndTell-clause-advances
returns-in-WaitAndTell-clause-advances g c = c.hold-in-WaitAndTell.ensures.advances

pub returns-clause-behaves : goal.returns-clause-behaves
returns-clause-behaves g c = λ start log h.
    let b = c.carry_out-2.ensures.behaves start log h in
    elim c.match-action.branch [
      | in-ClearStatus w ↦ rw w.in-ClearStatus.is (rw w.change-is at b)
      | in-Reset w ↦ rw w.in-Reset.is (rw w.change-is at b)
      | in-TellComplete w ↦ rw w.in-TellComplete.is (rw w.change-is at b)
      | in-Preset w ↦ rw w.in-Preset.is (rw w.change-is at b)
      | in-Initiate w ↦
          let allowed = w.may_init.ensures (scan_acts log) (w.scanner.ensures.stands log h.stands) in
          rw w.in-Initiate.is (behaves_if_equal_log (w.unless_refused-change.ensures _ log allowed) (rw w.change-is at b))
      | in-Abort w ↦ rw w.in-Abort.is (rw w.change-is at b)
    ]

pub returns-in-Ok-clause-behaves : goal.returns-in-Ok-clause-behaves
returns-in-Ok-clause-behaves g c = λ start log h.
    let did = c.in-Ok.ensures.applied log h.stands in
    rw c.in-Trigger.is (behaves_unless _ did.0 (behaves_apart refl (c.end.ensures.behaves start _ (count_after_act did.1 h))))

pub returns-in-Err-clause-behaves : goal.returns-in-Err-clause-behaves
returns-in-Err-clause-behaves g c = λ start log h.
    let same = subst (λ (layers : LayerState). Counts start layers log) (sym c.in-Err.ensures.refused) h in
    rw c.in-Trigger.is (behaves_unless _ (c.in-Err.ensures.applied log h.stands) (c.carry_out.ensures.behaves start log same))

pub returns-in-Ok-may_read-clause-behaves : goal.returns-in-Ok-may_read-clause-behaves
returns-in-Ok-may_read-clause-behaves g c = λ start log h.
    let fault = no_fault_if_done _ (c.in-Ok-may_read.ensures (scan_acts log) (c.scanner-in-Read.ensures.stands log h.stands)) in
    let begun = counts c.apply-in-Ok-may_read.ensures.applied (counts c.apply.ensures.applied h) in
    rw c.in-Read.is (behaves_unless _ fault (behaves_apart refl (c.hold-in-Ok-may_read.ensures.behaves start _ begun)))

pub returns-in-Err-may_read-clause-behaves : goal.returns-in-Err-may_read-clause-behaves
returns-in-Err-may_read-clause-behaves g c = λ start log h.
    let fault = fault_of_refusal _ _ (c.in-Err-may_read.ensures (scan_acts log) (c.scanner-in-Read.ensures.stands log h.stands)) in
    rw c.in-Read.is (behaves_unless _ fault (c.carry_out-in-Err-may_read.ensures.behaves start log h))
