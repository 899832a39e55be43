use Rattle.sv_server.proofs.device.Device.make_link.Goals as goal

pub returns-then-lock_device-clause-ends : goal.returns-then-lock_device-clause-ends
returns-then-lock_device-clause-ends g c = λ config acts old place free.
    rw c.if-lock_device.true (c.make_locked.ensures.ends config acts old place (free c.if-lock_device.true))

pub returns-clause-ends : goal.returns-clause-ends
returns-clause-ends g c = λ config acts old place free. rw c.if-lock_device.false (c.make_free.ensures.ends config acts old place)
