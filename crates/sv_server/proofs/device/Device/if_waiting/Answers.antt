use Rattle.std.proofs.Common.{refl}
use Rattle.sv_server.proofs.device.Device.if_waiting.Goals as goal

pub returns-then-waits_with : goal.returns-then-waits_with
returns-then-waits_with g c = λ config acts is. rw (c.in_ok-lid.was, ← (c.if-waits_with.ensures config acts is)) refl

pub returns-else-waits_with : goal.returns-else-waits_with
returns-else-waits_with g c = λ config acts is. rw (c.in_ok-lid.was, ← (c.if-waits_with.ensures config acts is)) refl
