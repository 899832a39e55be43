use Rattle.std.proofs.Common.{rules}
use Rattle.sv_value.proofs.value.keyword.Goals as goal

pub returns-in-Word : goal.returns-in-Word
returns-in-Word c = search rules
