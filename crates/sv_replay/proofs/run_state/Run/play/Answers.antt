use Rattle.sv_replay.proofs.Heard.{input_fault_passed_on, read_out_at_end}
use Rattle.sv_replay.proofs.Ending.{fault_ends_run, plain_run_ends, explained_run_ends, at_end_if_ok}
use Rattle.sv_replay.proofs.run_state.Run.play.Goals as goal

pub returns-in_err-to_end-clause-runs : goal.returns-in_err-to_end-clause-runs
returns-in_err-to_end-clause-runs g c = λ config stands.
    fault_ends_run config c.args.self.now.mode c.to_end.new.self.server _ _ _ _ c.in_err-to_end.field-0.0
    c.from_residual.result c.from_residual.ensures.0 c.from_residual.ensures.1 (c.in_err-to_end.ensures.runs config stands)

pub returns-in-Plain-clause-runs : goal.returns-in-Plain-clause-runs
returns-in-Plain-clause-runs g c = λ config stands.
    rw c.in-Plain.is (plain_run_ends config c.to_end.new.self.server _ _ _ _
    (rw c.in-Plain.is at (c.in_ok-to_end.ensures.runs config stands)))

pub returns-in-Explained-clause-runs : goal.returns-in-Explained-clause-runs
returns-in-Explained-clause-runs g c = λ config stands.
    rw c.in-Explained.is (explained_run_ends
    config c.to_end.new.self.server _ _ _ _ _ c.put_end.result c.in_ok-to_end.ensures.end
    (rw c.in-Explained.is at (c.in_ok-to_end.ensures.runs config stands))
    c.put_end.ensures.taken c.put_end.ensures.fault)

pub returns-in-Explained-clause-end : goal.returns-in-Explained-clause-end
returns-in-Explained-clause-end g c = at_end_if_ok _ c.put_end.result c.in_ok-to_end.ensures.end

pub returns-in_err-to_end-clause-reads : goal.returns-in_err-to_end-clause-reads
returns-in_err-to_end-clause-reads g c =
    let (reads, made, on) = c.in_err-to_end.ensures.reads in (
      reads,
      made,
      input_fault_passed_on c.from_residual.result _ _ c.from_residual.ensures.0 c.from_residual.ensures.1 on,
    )

pub returns-in-Explained-clause-reads : goal.returns-in-Explained-clause-reads
returns-in-Explained-clause-reads g c = read_out_at_end _ _ _ c.put_end.result c.put_end.ensures.fault c.in_ok-to_end.ensures.reads
