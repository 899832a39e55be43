use Rattle.sv_server.proofs.device.Device.continue_call.Goals as goal

pub resume-requires : goal.resume-requires
resume-requires g c = rw c.in-Able.is at c.requires

pub returns-in-Able-clause-ends : goal.returns-in-Able-clause-ends
returns-in-Able-clause-ends g c = λ config polled acts known may.
    let so = rw c.in-Able.is at may in rw c.in-Able.is (c.resume.ensures.resumes config polled acts known so.0 so.1)

pub returns-in-Dialed-clause-ends : goal.returns-in-Dialed-clause-ends
returns-in-Dialed-clause-ends g c = λ config polled acts known may.
    rw c.in-Dialed.is (c.end_dial.ensures.ends config acts known.0 (rw c.in-Dialed.is at may))

pub returns-in-Failed-clause-ends : goal.returns-in-Failed-clause-ends
returns-in-Failed-clause-ends g c = λ config polled acts known may.
    rw c.in-Failed.is (c.give_up.ensures.ends config acts known.0)
