use Rattle.std.proofs.Common.{◌≡◌, ◌+◌, ◌-◌, ◌∙◌, ap, sym, arith}
use Rattle.sv_pace.specs.Pace.{Kept}
use Rattle.sv_net.proofs.Running.{served_by, stopped_by, stopped_by_lost_event}
use Rattle.sv_net.proofs.Pausing.{on_err}
use Rattle.sv_net.proofs.serving.serve.Goals as goal

pub loop-made-preserved : goal.loop-made-preserved
loop-made-preserved g c =
    let kept : c.ticks.new.self.swept ≡ c.loop-made.now = ap (λ (k : Kept). k.swept) c.ticks.ensures.kept in
    let handed = c.stimulate.ensures.goes _ _ _ _ _ _ c.loop-made.invariant.ran in
    let ran = c.sweep.ensures.goes _ _ _ _ _ _ c.ticks.ensures.count handed in
    let remain : c.args.sweeps - 1 - c.loop-made.made ≡ c.args.sweeps - (c.loop-made.made + 1) = omega arith in
    record {
      ran = rw (c.in_ok-now.ensures.swept, kept) ((rw kept at c.in_ok-now.ensures.pauses).goes _ _ _ _ remain ran);
      kept = λ some. rw c.journal.ensures at (sym c.is_lost.ensures ∙ c.if-is_lost.false);
    }

pub returns-clause-ok : goal.returns-clause-ok
returns-clause-ok g c =
    let all : c.loop-made.made ≡ c.args.sweeps = omega (arith, c.loop-made-test.false, c.loop-made.auto.made-end) in
    served_by g.J.Journal.lost (rw all at c.loop-made.invariant.kept) (rw all at c.loop-made.invariant.ran)

pub returns-then-is_lost-clause-err : goal.returns-then-is_lost-clause-err
returns-then-is_lost-clause-err g c =
    let handed = c.stimulate.ensures.goes _ _ _ _ _ _ c.loop-made.invariant.ran in
    let ran = c.sweep.ensures.goes _ _ _ _ _ _ c.ticks.ensures.count handed in
    stopped_by_lost_event g.J.Journal.lost g.M.Machine.fails (omega arith) (omega (arith, c.loop-made-test.true))
    (rw c.journal.ensures at (sym c.is_lost.ensures ∙ c.if-is_lost.true)) ran

pub returns-in_err-now-clause-err : goal.returns-in_err-now-clause-err
returns-in_err-now-clause-err g c =
    let kept : c.ticks.new.self.swept ≡ c.loop-made.now = ap (λ (k : Kept). k.swept) c.ticks.ensures.kept in
    let handed = c.stimulate.ensures.goes _ _ _ _ _ _ c.loop-made.invariant.ran in
    let ran = c.sweep.ensures.goes _ _ _ _ _ _ c.ticks.ensures.count handed in
    let remain : c.args.sweeps - 1 - c.loop-made.made ≡ c.args.sweeps - (c.loop-made.made + 1) = omega arith in
    on_err c.from_residual.result
    (stopped_by g.J.Journal.lost (rw kept at c.in_err-now.ensures.fails) remain (omega arith) (omega (arith, c.loop-made-test.true))
    (rw c.journal.ensures at (sym c.is_lost.ensures ∙ c.if-is_lost.false)) ran)
