use Rattle.std.proofs.Common.{refl}
use Rattle.sv_history.specs.Act.{instrument_acts}
use Rattle.sv_server.proofs.OnDevice.Parts.{not_true, not_false}
use Rattle.sv_server.proofs.device.Device.device_wait.Goals as goal

pub returns-then-can_write-clause-answer : goal.returns-then-can_write-clause-answer
returns-then-can_write-clause-answer g c = λ config acts old.
    let is = rw (← c.self.view_is) at old in
    rw (c.in-DeviceWrite.is, not_true _ (c.if-can_write.ensures.answer (instrument_acts acts) is.1)) refl

pub returns-else-can_write-clause-answer : goal.returns-else-can_write-clause-answer
returns-else-can_write-clause-answer g c = λ config acts old.
    let is = rw (← c.self.view_is) at old in
    rw (c.in-DeviceWrite.is, not_false _ (c.if-can_write.ensures.answer (instrument_acts acts) is.1)) refl

pub returns-then-can_read-clause-answer : goal.returns-then-can_read-clause-answer
returns-then-can_read-clause-answer g c = λ config acts old.
    let is = rw (← c.self.view_is) at old in
    rw (c.in-DeviceRead.is, ← (c.if-can_read.ensures.answer (instrument_acts acts) is.1)) refl

pub returns-else-can_read-clause-answer : goal.returns-else-can_read-clause-answer
returns-else-can_read-clause-answer g c = λ config acts old.
    let is = rw (← c.self.view_is) at old in
    rw (c.in-DeviceRead.is, ← (c.if-can_read.ensures.answer (instrument_acts acts) is.1)) refl
