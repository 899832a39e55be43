use Rattle.std.proofs.Common.{refl, ◌∙◌}
use Rattle.sv_net.proofs.Pausing.{one_look, in_vain, no_wait, pauses_from_quiet, pauses_to_fresh, pauses_then, if_ok, poll_fails, fails_from_quiet, pauses_then_fails, if_err, on_err}
use Rattle.sv_net.proofs.serving.spin.Goals as goal

pub loop-looks-init : goal.loop-looks-init
loop-looks-init g c = record { pauses = no_wait _ _ _ _ _ _ _ _; swept = refl }

pub returns-then-not-is_spinning-clause-pauses : goal.returns-then-not-is_spinning-clause-pauses
returns-then-not-is_spinning-clause-pauses g c =
    let slept = rw (c.end.ensures.times.0, c.loop-looks.invariant.swept) at c.sleep.ensures.pauses in
    if_ok c.sleep.result slept (λ ended more. pauses_then c.loop-looks.invariant.pauses (pauses_from_quiet more))

pub returns-then-reported-clause-pauses : goal.returns-then-reported-clause-pauses
returns-then-reported-clause-pauses g c =
    pauses_then c.loop-looks.invariant.pauses (pauses_from_quiet (one_look _ _ _ _ _ _ _ _ _ _ _ _ refl c.in_ok-reported.ensures.answers))

pub loop-looks-preserved : goal.loop-looks-preserved
loop-looks-preserved g c = record {
  pauses =
      pauses_then c.loop-looks.invariant.pauses
      (pauses_from_quiet (in_vain _ _ _ _ _ _ _ _ _ _ _ refl (rw c.if-reported.false at c.in_ok-reported.ensures.answers)));
  swept = c.in_ok-reported.ensures.swept ∙ c.loop-looks.invariant.swept;
}

pub returns-clause-pauses : goal.returns-clause-pauses
returns-clause-pauses g c = pauses_to_fresh c.loop-looks.invariant.pauses

pub returns-then-not-is_spinning-clause-fails : goal.returns-then-not-is_spinning-clause-fails
returns-then-not-is_spinning-clause-fails g c =
    let slept = rw (c.end.ensures.times.0, c.loop-looks.invariant.swept) at c.sleep.ensures.fails in
    if_err c.sleep.result slept (λ failing. pauses_then_fails c.loop-looks.invariant.pauses (fails_from_quiet failing))

pub returns-in_err-reported-clause-fails : goal.returns-in_err-reported-clause-fails
returns-in_err-reported-clause-fails g c =
    let failing = fails_from_quiet (poll_fails _ refl c.in_err-reported.ensures.fails) in
    on_err c.from_residual.result (pauses_then_fails c.loop-looks.invariant.pauses failing)
