use Rattle.std.proofs.Common.{rules}
use Rattle.sv_errors.proofs.code.Code.number.Goals as goal

pub returns-in-UndefinedHeader : goal.returns-in-UndefinedHeader
returns-in-UndefinedHeader c = search rules
