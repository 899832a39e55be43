use Rattle.sv_server.proofs.device.Device.execute.Goals as goal

pub returns-in-CreateLink-clause-ends : goal.returns-in-CreateLink-clause-ends
returns-in-CreateLink-clause-ends g c = λ config polled acts known free.
    let has = rw c.in-CreateLink.is at free in
    rw c.in-CreateLink.is (c.make_link.ensures.ends config acts known.0 has.0 has.1)

pub returns-in-DestroyIntrChan-clause-ends : goal.returns-in-DestroyIntrChan-clause-ends
returns-in-DestroyIntrChan-clause-ends g c = λ config polled acts known free.
    rw c.in-DestroyIntrChan.is (c.destroy_channel.ensures.ends config acts known.0)
