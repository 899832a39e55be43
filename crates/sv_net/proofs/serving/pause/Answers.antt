use Rattle.std.proofs.Common.{refl}
use Rattle.sv_net.proofs.Pausing.{one_look, in_vain, pauses_then, if_ok, poll_fails, pauses_then_fails, if_err, on_err}
use Rattle.sv_net.proofs.serving.pause.Goals as goal

pub returns-then-not-is_busy-clause-pauses : goal.returns-then-not-is_busy-clause-pauses
returns-then-not-is_busy-clause-pauses g c = rw c.end.ensures.times.0 at c.sleep.ensures.pauses

pub returns-then-not-spinning-2-clause-pauses : goal.returns-then-not-spinning-2-clause-pauses
returns-then-not-spinning-2-clause-pauses g c = one_look _ _ _ _ _ _ _ _ _ _ _ _ refl c.in_ok-reported.ensures.answers

pub returns-clause-pauses : goal.returns-clause-pauses
returns-clause-pauses g c = if_ok c.spin.result (rw c.in_ok-reported.ensures.swept at c.spin.ensures.pauses)
    (λ ended more. pauses_then (in_vain _ _ _ _ _ _ _ _ _ _ _ refl (rw c.if-reported.false at c.in_ok-reported.ensures.answers)) more)

pub returns-then-not-is_busy-clause-fails : goal.returns-then-not-is_busy-clause-fails
returns-then-not-is_busy-clause-fails g c = rw c.end.ensures.times.0 at c.sleep.ensures.fails

pub returns-in_err-reported-clause-fails : goal.returns-in_err-reported-clause-fails
returns-in_err-reported-clause-fails g c =
    on_err c.from_residual.result (poll_fails _ refl c.in_err-reported.ensures.fails)

pub returns-clause-fails : goal.returns-clause-fails
returns-clause-fails g c = if_err c.spin.result (rw c.in_ok-reported.ensures.swept at c.spin.ensures.fails)
    (λ failing. pauses_then_fails (in_vain _ _ _ _ _ _ _ _ _ _ _ refl (rw c.if-reported.false at c.in_ok-reported.ensures.answers)) failing)
