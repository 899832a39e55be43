use Rattle.std.proofs.Common.{arith, rules}
use Rattle.std.proofs.lemmas.Grind.{common_steps}
use Rattle.sv_value.proofs.amount.Amount.in_range.Goals as goal

pub returns-then-below-clause-value : goal.returns-then-below-clause-value
returns-then-below-clause-value c = grind (arith, common_steps)

pub returns-then-below-clause-range : goal.returns-then-below-clause-range
returns-then-below-clause-range c = search rules

pub returns-clause-value : goal.returns-clause-value
returns-clause-value c = grind (arith, common_steps)

pub returns-clause-range : goal.returns-clause-range
returns-clause-range c = grind (arith, common_steps)
