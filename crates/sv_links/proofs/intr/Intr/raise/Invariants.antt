use Rattle.std.proofs.Common.{◌≡◌, ◌<◌, ◌≤◌, ℕ, List, ◌∷◌, length, true}
use Rattle.std.specs.Prelude.{slice_index_or}
use Rattle.sv_links.specs.Channels.{ChannelAct, Requested}
use Rattle.sv_links.specs.Limits.{max_connections}
use Rattle.sv_links.specs.ChannelRepresentation.{Channel, AreChannels, IsChannel, IsReady, is_prepared}
use Rattle.sv_links.proofs.intr.Intr.raise.Given as goal

-- The channels before the index have their calls, and the others are unchanged.
abbrev pub invariant-loop-conn : goal.invariant-loop-conn
invariant-loop-conn g l = record {
  enabled : l.self-inside.enabled ≡ l.initial.self-inside.enabled;
  opened : l.self-inside.opened ≡ l.initial.self-inside.opened;
  long : length l.self-inside.channels.items ≡ max_connections;
  sent : (c : ℕ) (other : Channel) (acts : List ChannelAct) → c < l.conn → AreChannels l.fn.self acts
      → IsChannel (slice_index_or l.self-inside.channels.items c other) c (Requested ∷ acts);
  rest : (c : ℕ) (other : Channel) → l.conn ≤ c
      → slice_index_or l.self-inside.channels.items c other ≡ slice_index_or l.fn.self.channels c other;
  ready : (c : ℕ) (other : Channel) → IsReady l.fn.self c
      → is_prepared (slice_index_or l.self-inside.channels.items c other).stage ≡ true;
}
