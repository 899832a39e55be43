use Rattle.std.proofs.Common.{◌≡◌, ◌<◌, ℕ, length}
use Rattle.std.specs.Prelude.{slice_index_or}
use Rattle.sv_links.specs.declared.channel.Stage.TheVariants.{Closed}
use Rattle.sv_links.specs.ChannelRepresentation.{Channel}
use Rattle.sv_links.proofs.intr.Intr.new.Given as goal

-- There are `counter` channels, and none is open.
abbrev pub invariant-loop : goal.invariant-loop
invariant-loop g l = record {
  long : length l.channels.items ≡ l.counter;
  closed : (c : ℕ) (other : Channel) → c < l.counter → (slice_index_or l.channels.items c other).stage ≡ Closed;
}
