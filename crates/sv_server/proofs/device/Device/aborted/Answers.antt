use Rattle.std.proofs.Common.{refl}
use Rattle.sv_server.proofs.device.Device.aborted.Goals as goal

pub returns : goal.returns
returns g c = λ config acts is. rw (← (c.in_ok-owner_of.ensures config acts is)) (c.if_waiting.ensures config acts is)

pub returns-in_err-owner_of : goal.returns-in_err-owner_of
returns-in_err-owner_of g c = λ config acts is. rw (c.from_residual.ensures, ← (c.in_err-owner_of.ensures config acts is)) refl
