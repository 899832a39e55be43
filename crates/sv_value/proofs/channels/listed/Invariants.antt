use Rattle.std.proofs.Common.{◌≡◌, [], length}
use Rattle.sv_text.specs.Cut.{cut_at}
use Rattle.sv_value.specs.Channels.{list_channels}
use Rattle.sv_value.proofs.channels.listed.Given as goal

-- The channels of the items so far are in the list, and those of the remaining items follow.
abbrev pub invariant-loop-item : goal.invariant-loop-item
invariant-loop-item l = list_channels [] (cut_at 44 l.items) ≡ list_channels l.list.items (cut_at 44 l.rest)

abbrev pub decreases-loop-item : goal.decreases-loop-item
decreases-loop-item l = length l.rest
