use Rattle.std.proofs.Common.{refl}
use Rattle.sv_server.proofs.device.Device.abort_result.Goals as goal

pub returns-then-is_some-clause-answer : goal.returns-then-is_some-clause-answer
returns-then-is_some-clause-answer g c = λ config acts is.
    rw (← c.owner_of.ensures config acts is, ← c.is_some.ensures, c.if-is_some.true) c.plain.ensures

pub returns-then-is_some-clause-short : goal.returns-then-is_some-clause-short
returns-then-is_some-clause-short g c = rw c.plain.ensures refl

pub returns-else-is_some-clause-answer : goal.returns-else-is_some-clause-answer
returns-else-is_some-clause-answer g c = λ config acts is.
    rw (← c.owner_of.ensures config acts is, ← c.is_some.ensures, c.if-is_some.false) c.plain-else-is_some.ensures

pub returns-else-is_some-clause-short : goal.returns-else-is_some-clause-short
returns-else-is_some-clause-short g c = rw c.plain-else-is_some.ensures refl
