use Rattle.std.proofs.Common.{rules}
use Rattle.sv_replay.proofs.entry.Stimulus.event.Goals as goal

pub returns-in-External : goal.returns-in-External
returns-in-External c = search rules
