use Rattle.std.proofs.Common.{rules}
use Rattle.sv_errors.proofs.limits.is_channel_list.Goals as goal

pub returns-then-channels-le-LONGEST_LIST : goal.returns-then-channels-le-LONGEST_LIST
returns-then-channels-le-LONGEST_LIST c = search rules
