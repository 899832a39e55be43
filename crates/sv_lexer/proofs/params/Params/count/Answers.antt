use Rattle.std.proofs.Common.{rules}
use Rattle.sv_lexer.proofs.params.Params.count.Goals as goal

pub returns : goal.returns
returns c = search rules
