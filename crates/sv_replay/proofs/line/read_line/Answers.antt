-- The meaning that is read from a line is the one that the line has.
use Rattle.sv_replay.proofs.Lines.{found_meaning_is_said, said_meaning_is_found}
use Rattle.sv_replay.proofs.line.read_line.Goals as goal

pub returns-clause-found : goal.returns-clause-found
returns-clause-found c = found_meaning_is_said c.args.line.now c.line_of.result c.line_of.ensures

pub returns-clause-only : goal.returns-clause-only
returns-clause-only c = λ what says. said_meaning_is_found c.args.line.now c.line_of.result what c.line_of.ensures says
