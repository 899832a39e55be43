use Rattle.std.proofs.Common.{ℕ, subst, [], ◌++◌, ◌+◌, refl, arith}
use Rattle.sv_print.proofs.Taking.{appends_none, appends_then}
use Rattle.sv_replay.proofs.Printed.{ticks_none, ticks_more, ticks_stop, performs_fault}
use Rattle.sv_replay.specs.Line.{Ticks}
use Rattle.sv_replay.specs.Script.{events_of, Prints}
use Rattle.sv_replay.proofs.perform.pass.Goals as goal

pub loop-init : goal.loop-init
loop-init g c = λ config history s. ([], history, ticks_none c.args.mode c.args.number config history, s, appends_none _)

pub returns-in_err-apply : goal.returns-in_err-apply
returns-in_err-apply g c = λ config history s.
    let (text, middle, prints, stands, put) = c.loop.invariant config history s in
    let (other, after, replays, now, more) = c.in_err-apply.ensures config middle stands in (
      text ++ other,
      after,
      performs_fault c.args.mode config history _ c.in_err-apply.field-0.0 c.from_residual.result _ after c.from_residual.ensures.0
          c.from_residual.ensures.1
          (ticks_stop c.args.mode c.args.number config history c.loop.counter c.args.count c.in_err-apply.field-0.0 text other middle after
          c.loop-test.true prints
          replays),
      now,
      appends_then _ _ _ text other put more,
    )

pub loop-preserved : goal.loop-preserved
loop-preserved g c = λ config history s.
    let (text, middle, prints, stands, put) = c.loop.invariant config history s in
    let (other, after, replays, now, more) = c.in_ok-apply.ensures config middle stands in (
      text ++ other,
      after,
      ticks_more c.args.mode c.args.number config history c.loop.counter (c.loop.counter + 1) text other middle after refl prints replays,
      now,
      appends_then _ _ _ text other put more,
    )

pub returns : goal.returns
returns g c = λ config history s.
    let (text, after, prints, stands, put) = c.loop.invariant config history s in (
      text,
      after,
      subst (λ (n : ℕ). Prints c.args.mode config history (events_of c.args.number (Ticks n)) text after)
          (omega arith) prints,
      stands,
      put,
    )
