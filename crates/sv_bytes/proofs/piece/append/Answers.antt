use Rattle.std.proofs.Common.{rules}
use Rattle.sv_bytes.proofs.piece.append.Goals as goal

pub returns-clause-items : goal.returns-clause-items
returns-clause-items g c = search rules
