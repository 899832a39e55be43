use Rattle.std.proofs.Common.{◌∙◌}
use Rattle.sv_replay.proofs.Entries.{stimulus_reads, found_stimulus_is_said}
use Rattle.sv_replay.proofs.entry.read_stimulus.Goals as goal

pub returns-clause-found : goal.returns-clause-found
returns-clause-found c = found_stimulus_is_said c.args.line.now c.stimulus_of.result c.stimulus_of.ensures

pub returns-clause-only : goal.returns-clause-only
returns-clause-only c = λ stimulus says fine. c.stimulus_of.ensures ∙ stimulus_reads c.args.line.now stimulus says fine
