use Rattle.std.proofs.Common.{rules}
use Rattle.sv_errors.proofs.code.Code.text.Goals as goal

pub returns-in-DataOutOfRange : goal.returns-in-DataOutOfRange
returns-in-DataOutOfRange c = search rules
