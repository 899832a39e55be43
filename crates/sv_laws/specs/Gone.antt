-- What a connection that isn't open holds: nothing (VXI-11 revision 1.0, sections B.4.4 and B.6).
use Rattle.std.specs.Prelude.{◌≡◌, ◌≢◌, ℕ, true, false, List, ◌∷◌, Some, None}
use Rattle.sv_links.specs.declared.enabled.Enabled.{Enabled}
use Rattle.sv_links.specs.Links.{owner, holder}
use Rattle.sv_links.specs.Waiting.{waits}
use Rattle.sv_links.specs.Channels.{ChannelAct, srq_enabled}
use Rattle.sv_history.specs.declared.event.Config.{Config}
use Rattle.sv_history.specs.declared.event.Port.TheVariants.{Conn}
use Rattle.sv_history.specs.Event.{PlainEvent, Close}
use Rattle.sv_history.specs.Act.{Act, of, device_acts, link_acts, wait_acts}
use Rattle.sv_history.specs.Connection.{is_open}
use Rattle.sv_history.specs.Interrupts.{has_channel}
use Rattle.sv_history.specs.Requests.{HearsOf}
use Rattle.sv_history.specs.History.{IsLogOf}

-- No live link is of connection `c`. If a link holds the lock, it is a live link of another
-- connection that is open. Connection `c` has no suspended call and no open interrupt channel, and
-- no link of it has service requests enabled.
pub record HoldsNothing (c : ℕ) (log : List Act) : Type 0 where
  pub links : (lid : ℕ) → owner lid (link_acts (device_acts log)) ≢ Some c
  pub lock : (lid : ℕ) → holder (link_acts (device_acts log)) ≡ Some lid
      → (d : ℕ) × (owner lid (link_acts (device_acts log)) ≡ Some d) × (d ≢ c) × (is_open (of d log) ≡ true)
  pub call : waits c (wait_acts (device_acts log)) ≡ None
  pub channel : has_channel c (device_acts log) ≡ false
  pub requests : (channel_log : List ChannelAct) (lid : ℕ) (enabled : Enabled) → HearsOf (device_acts log) channel_log
      → srq_enabled lid channel_log ≡ Some enabled → enabled.conn ≢ c

-- A connection that isn't open holds nothing.
abbrev pub ClosedHoldsNothing : Type 0
ClosedHoldsNothing = (config : Config) (history : List PlainEvent) (log : List Act) (c : ℕ) → IsLogOf config history log
    → is_open (of c log) ≡ false → HoldsNothing c log

-- After the Close of a connection, the connection isn't open.
abbrev pub CloseShuts : Type 0
CloseShuts = (config : Config) (history : List PlainEvent) (log : List Act) (c : ℕ) → IsLogOf config (Close (Conn c) ∷ history) log
    → is_open (of c log) ≡ false
