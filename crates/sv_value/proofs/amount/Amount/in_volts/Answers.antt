use Rattle.std.proofs.Common.{rules}
use Rattle.sv_value.proofs.amount.Amount.in_volts.Goals as goal

pub returns-then-self-clause-value : goal.returns-then-self-clause-value
returns-then-self-clause-value c = search rules

pub returns-then-self-clause-range : goal.returns-then-self-clause-range
returns-then-self-clause-range c = search rules

pub returns-else-self-clause-value : goal.returns-else-self-clause-value
returns-else-self-clause-value c = search rules

pub returns-else-self-clause-range : goal.returns-else-self-clause-range
returns-else-self-clause-range c = search rules
