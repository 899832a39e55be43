use Rattle.sv_replay.specs.Run.{config_of}
use Rattle.sv_replay.proofs.Heard.{read_out_after_flush}
use Rattle.sv_replay.proofs.Ending.{run_after_flush, at_end_after_flush}
use Rattle.sv_replay.proofs.run.run_script.Goals as goal

pub returns-clause-runs : goal.returns-clause-runs
returns-clause-runs g c =
    run_after_flush (config_of c.args.ports) c.args.mode _ _ _ _ _ c.run_lines-answer.result c.pass_on.result c.run_lines-answer.ensures.end
    c.pass_on.ensures.answer
    c.pass_on.ensures.kept c.run_lines-answer.ensures.runs

pub returns-clause-end : goal.returns-clause-end
returns-clause-end g c = at_end_after_flush _ c.run_lines-answer.result c.pass_on.result c.run_lines-answer.ensures.end
    c.pass_on.ensures.answer

pub returns-clause-reads : goal.returns-clause-reads
returns-clause-reads g c =
    read_out_after_flush _ _ _ c.run_lines-answer.result c.pass_on.result c.pass_on.ensures.answer c.run_lines-answer.ensures.reads
