use Rattle.sv_server.proofs.device.Device.next_wait.Goals as goal

pub returns-in-OnLink-clause-answer : goal.returns-in-OnLink-clause-answer
returns-in-OnLink-clause-answer g c = λ config acts is. rw c.in-OnLink.is (c.device_wait.ensures.answer config acts is)
