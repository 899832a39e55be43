use Rattle.std.proofs.Common.{sym}
use Rattle.sv_server.proofs.device.Device.give_up.Goals as goal

pub returns-clause-ends : goal.returns-clause-ends
returns-clause-ends g c = λ config acts old. (sym c.failure.ensures.result_is, c.end_wait.ensures.stands config acts old)
