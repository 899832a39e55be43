use Rattle.std.proofs.Common.{refl}
use Rattle.sv_vxi.specs.declared.error_code.ErrorCode.TheVariants.{Locked}
use Rattle.sv_server.proofs.device.admission.lock_admission.Goals as goal

pub returns-else-lock-clause-stops : goal.returns-else-lock-clause-stops
returns-else-lock-clause-stops g c = (Locked, rw g.if-lock.false refl, g.call_failure.ensures.result_is c)
