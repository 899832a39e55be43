use Rattle.sv_replay.proofs.Lines.{line_meaning_unique}
use Rattle.sv_replay.proofs.laws.one_line.Goals as goal

pub returns : goal.returns
returns c = line_meaning_unique
