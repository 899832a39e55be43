use Rattle.sv_server.proofs.device.Device.resume.Goals as goal

pub returns-in-Lock-clause-resumes : goal.returns-in-Lock-clause-resumes
returns-in-Lock-clause-resumes g c = λ config polled acts known waits may.
    rw c.in-Lock.is (c.resume_after_lock.ensures.resumes config polled acts known waits may)
