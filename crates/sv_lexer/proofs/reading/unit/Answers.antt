use Rattle.std.proofs.Common.{[]}
use Rattle.sv_lexer.proofs.reading.unit.Goals as goal

pub finish-requires : goal.finish-requires
finish-requires c = c.push_all.ensures [] c.new-partial.ensures

pub returns : goal.returns
returns c = c.finish.ensures
