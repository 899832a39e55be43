use Rattle.std.proofs.Common.{arith, [], refl, inr}
use Rattle.sv_print.proofs.Taking.{appends_none}
use Rattle.std.specs.Prelude.{⊤}
use Rattle.sv_replay.specs.PlainLine.{plain_line}
use Rattle.sv_replay.proofs.Heard.{input_fault_passed_on, replay_fault_is_not_input}
use Rattle.sv_replay.proofs.Staged.{replay_fault_stops_line}
use Rattle.sv_replay.proofs.run.do_line.Goals as goal

pub returns-in_err-perform-in-Some-clause-runs : goal.returns-in_err-perform-in-Some-clause-runs
returns-in_err-perform-in-Some-clause-runs g c = λ config history s.
    let (text, after, stops, stands, put) = c.in_err-perform-in-Some.ensures config history s in (
      text,
      after,
      replay_fault_stops_line config c.args.mode c.args.line.now c.args.number history
          (plain_line c.in-Some.said) c.in_err-perform-in-Some.field-0.0 c.from_residual.result text after
          (omega arith) c.in-Some.ensures.found
          c.from_residual.ensures.0 c.from_residual.ensures.1 stops,
      stands,
      put,
    )

pub returns-in_ok-perform-in-Some-clause-runs : goal.returns-in_ok-perform-in-Some-clause-runs
returns-in_ok-perform-in-Some-clause-runs g c = λ config history s.
    let (text, after, prints, stands, put) = c.in_ok-perform-in-Some.ensures config history s in
    (text, after, (plain_line c.in-Some.said, omega arith, c.in-Some.ensures.found, prints), stands, put)

pub returns-in_err-perform-in-Some-clause-input : goal.returns-in_err-perform-in-Some-clause-input
returns-in_err-perform-in-Some-clause-input g c =
    input_fault_passed_on c.from_residual.result _ _ c.from_residual.ensures.0 c.from_residual.ensures.1
    (replay_fault_is_not_input ⊤ c.in_err-perform-in-Some.field-0.0)

pub returns-in-None-clause-runs : goal.returns-in-None-clause-runs
returns-in-None-clause-runs g c = λ config history s.
    ([], history, (refl, inr (λ said says. c.in-None.ensures.only said says), refl), s, appends_none _)
