use Rattle.std.proofs.Common.{rules}
use Rattle.sv_value.proofs.printing.put_source.Goals as goal

pub returns-clause-capacity : goal.returns-clause-capacity
returns-clause-capacity g c = search rules
