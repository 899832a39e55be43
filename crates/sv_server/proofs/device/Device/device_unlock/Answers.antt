use Rattle.sv_history.specs.Act.{link_acts}
use Rattle.sv_server.proofs.OnDevice.Parts.{unlock_ends}
use Rattle.sv_server.proofs.device.Device.device_unlock.Goals as goal

pub returns-then-not-unlock-clause-ends : goal.returns-then-not-unlock-clause-ends
returns-then-not-unlock-clause-ends g c = λ config acts old.
    let is = rw (← c.self.view_is) at old in
    unlock_ends config acts _ c.unlock.new.self c.args.lid c.unlock.result is (c.unlock.ensures.answer (link_acts acts) is.0)
    (λ got. c.unlock.ensures.stands got (link_acts acts) is.0) c.unlock.ensures.spare c.unlock.ensures.refused _
    (rw c.if-not-unlock.true c.plain.ensures)

pub returns-clause-ends : goal.returns-clause-ends
returns-clause-ends g c = λ config acts old.
    let is = rw (← c.self.view_is) at old in
    unlock_ends config acts _ c.unlock.new.self c.args.lid c.unlock.result is (c.unlock.ensures.answer (link_acts acts) is.0)
    (λ got. c.unlock.ensures.stands got (link_acts acts) is.0) c.unlock.ensures.spare c.unlock.ensures.refused _
    (rw c.if-not-unlock.false c.plain-2.ensures)
