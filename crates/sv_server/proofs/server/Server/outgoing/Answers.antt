use Rattle.std.proofs.Common.{refl}
use Rattle.sv_server.proofs.server.Server.outgoing.Goals as goal

pub returns-in-Some-clause-exact : goal.returns-in-Some-clause-exact
returns-in-Some-clause-exact g c = λ config log channel_log rep tells.
    rw c.in-Conn.is (c.waiting.ensures.answer _ (c.in-Some.ensures config log rep))

pub returns-in-None-clause-exact : goal.returns-in-None-clause-exact
returns-in-None-clause-exact g c = λ config log channel_log rep tells. rw (c.in-Conn.is, c.in-None.ensures config log rep) refl

pub returns-in-Intr-clause-exact : goal.returns-in-Intr-clause-exact
returns-in-Intr-clause-exact g c = λ config log channel_log rep tells.
    rw c.in-Intr.is (c.sent.ensures.exact config log channel_log rep tells)
