use Rattle.std.proofs.Common.{sym, subst}
use Rattle.sv_history.specs.Effect.{Effect}
use Rattle.sv_server.specs.Server.Inside.Ending.{Concludes}
use Rattle.sv_server.proofs.server.turn.conclude.Goals as goal

pub returns-in-Fault-clause-ends : goal.returns-in-Fault-clause-ends
returns-in-Fault-clause-ends g c = λ config acts before effect is busy ends.
    let known = rw c.in-Fault.is at ends in (rw known.0 (c.fault.ensures acts is busy), known.1)

pub returns-in-Reply-clause-ends : goal.returns-in-Reply-clause-ends
returns-in-Reply-clause-ends g c = λ config acts before effect is busy ends.
    let known = rw c.in-Reply.is at ends in (rw known.0 (c.answer.ensures acts is busy), known.1)

pub returns-in-Response-clause-ends : goal.returns-in-Response-clause-ends
returns-in-Response-clause-ends g c = λ config acts before effect is busy ends.
    let known = rw c.in-Response.is at ends in
    subst (λ (e : Effect). Concludes e config acts before c.answer_read.new.connection c.answer_read.new.self) (sym known.0)
    (c.answer_read.ensures.ends config acts before is busy known.1)

pub returns-in-Suspended-clause-ends : goal.returns-in-Suspended-clause-ends
returns-in-Suspended-clause-ends g c = λ config acts before effect is busy ends.
    let known = rw c.in-Suspended.is at ends in (rw known.0 is, known.1)
