use Rattle.sv_history.specs.Act.{link_acts}
use Rattle.sv_server.proofs.OnDevice.Parts.{lock_ends}
use Rattle.sv_server.proofs.device.Device.device_lock.Goals as goal

pub returns-then-not-lock-clause-ends : goal.returns-then-not-lock-clause-ends
returns-then-not-lock-clause-ends g c = λ config acts old.
    let is = rw (← c.self.view_is) at old in
    lock_ends config acts _ c.lock.new.self c.args.lid c.lock.result is (c.lock.ensures.answer (link_acts acts) is.0)
    (λ got. c.lock.ensures.stands got (link_acts acts) is.0) c.lock.ensures.spare c.lock.ensures.refused _
    (rw c.if-not-lock.true c.plain.ensures)

pub returns-clause-ends : goal.returns-clause-ends
returns-clause-ends g c = λ config acts old.
    let is = rw (← c.self.view_is) at old in
    lock_ends config acts _ c.lock.new.self c.args.lid c.lock.result is (c.lock.ensures.answer (link_acts acts) is.0)
    (λ got. c.lock.ensures.stands got (link_acts acts) is.0) c.lock.ensures.spare c.lock.ensures.refused _
    (rw c.if-not-lock.false c.plain-2.ensures)
