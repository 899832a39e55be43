use Rattle.std.proofs.Common.{refl}
use Rattle.sv_server.proofs.device.Device.ready_call.Goals as goal

pub returns-in-CreateLink-clause-answer : goal.returns-in-CreateLink-clause-answer
returns-in-CreateLink-clause-answer g c = λ config acts is. rw c.in-CreateLink.is ((_, _, _, refl), tt)
