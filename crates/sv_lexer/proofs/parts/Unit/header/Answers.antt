use Rattle.std.proofs.Common.{rules}
use Rattle.sv_lexer.proofs.parts.Unit.header.Goals as goal

pub returns : goal.returns
returns c = search rules
