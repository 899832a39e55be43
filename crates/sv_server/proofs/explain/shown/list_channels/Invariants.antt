use Rattle.std.proofs.Common.{◌≡◌, length, map, take, pos}
use Rattle.sv_server.proofs.explain.shown.list_channels.Given as goal

-- The channels so far are the first ones of the list.
abbrev pub invariant-loop-channel : goal.invariant-loop-channel
invariant-loop-channel g l = record {
  count : length l.found.items ≡ l.channel-index;
  are : l.found.items ≡ map pos (take l.channel-index l.channel-items);
}
