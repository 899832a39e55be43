use Rattle.std.proofs.Common.{sym}
use Rattle.sv_server.proofs.device.Device.end_channel.Goals as goal

pub returns-then-not-ok-clause-ends : goal.returns-then-not-ok-clause-ends
returns-then-not-ok-clause-ends g c = λ config acts old dials addr port family.
    rw c.if-not-ok.true (sym c.plain.ensures, c.give_up_channel.ensures.stands config acts old)

pub returns-clause-ends : goal.returns-clause-ends
returns-clause-ends g c = λ config acts old dials addr port family.
    rw c.if-not-ok.false (sym c.plain-2.ensures, c.open_channel.ensures.stands config acts old dials)
