use Rattle.std.proofs.Common.{◌≡◌, ◌<◌, ◌+◌, ◌-◌, ◌++◌, length}
use Rattle.sv_errors.specs.Limits.{longest_list}
use Rattle.sv_value.specs.Channels.{channel_range}
use Rattle.sv_value.proofs.channels.push_run.Given as goal

-- The channels before this one are in the list, and the others have room.
abbrev pub invariant-loop-channel : goal.invariant-loop-channel
invariant-loop-channel l = record {
  same : l.list.items ++ channel_range l.channel l.last ≡ l.fn.list.items ++ channel_range l.first l.last;
  fits : length l.list.items + (l.channel - l.last) + (l.last - l.channel) < longest_list;
}

abbrev pub decreases-loop-channel : goal.decreases-loop-channel
decreases-loop-channel l = (l.channel - l.last) + (l.last - l.channel)
