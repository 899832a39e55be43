use Rattle.std.proofs.Common.{rules}
use Rattle.sv_errors.proofs.limits.is_channel.Goals as goal

pub returns-then-number-ge1 : goal.returns-then-number-ge1
returns-then-number-ge1 c = search rules
