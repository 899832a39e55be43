use Rattle.std.proofs.Common.{arith, refl, []}
use Rattle.sv_replay.specs.Run.{config_of}
use Rattle.sv_replay.proofs.Heard.{input_fault_passed_on}
use Rattle.sv_replay.proofs.Ending.{memory_refused_at_start}
use Rattle.sv_replay.proofs.run.run_lines.Goals as goal

pub returns-in_err-run-clause-runs : goal.returns-in_err-run-clause-runs
returns-in_err-run-clause-runs g c =
    memory_refused_at_start (config_of c.args.ports) c.args.mode _ _ c.from_residual.result c.from_residual.ensures.0
    c.from_residual.ensures.1

pub returns-in_err-run-clause-reads : goal.returns-in_err-run-clause-reads
returns-in_err-run-clause-reads g c =
    ([], (refl, omega arith), input_fault_passed_on c.from_residual.result _ _ c.from_residual.ensures.0 c.from_residual.ensures.1 tt)

pub returns-clause-runs : goal.returns-clause-runs
returns-clause-runs g c = rw c.in_ok-run.ensures.3 at (c.play.ensures.runs (config_of c.args.ports) c.in_ok-run.ensures.0)
