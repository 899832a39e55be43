use Rattle.std.proofs.Common.{arith, rules}
use Rattle.std.proofs.lemmas.Grind.{common_steps}
use Rattle.sv_value.proofs.printing.put_error.Goals as goal

pub returns-clause-text : goal.returns-clause-text
returns-clause-text g c = grind (arith, common_steps)

pub returns-clause-capacity : goal.returns-clause-capacity
returns-clause-capacity g c = search rules

pub returns-clause-bounded : goal.returns-clause-bounded
returns-clause-bounded g c = grind (arith, common_steps)
