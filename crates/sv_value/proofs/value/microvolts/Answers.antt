use Rattle.std.proofs.Common.{rules}
use Rattle.sv_value.proofs.value.microvolts.Goals as goal

pub returns-in-Number-clause-value : goal.returns-in-Number-clause-value
returns-in-Number-clause-value c = search rules
