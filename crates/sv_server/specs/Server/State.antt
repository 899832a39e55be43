-- The state of the server, and when a state stands for a log or for a history.
use Rattle.std.specs.Prelude.{◌≡◌, ℕ, ◌<◌, ◌≤◌, true, List, [], Some, slice_index_or}
use Rattle.sv_history.specs.declared.event.Config.{Config}
use Rattle.sv_history.specs.Event.{PlainEvent}
use Rattle.std.specs.List.{AllByRecursion}
use Rattle.sv_links.specs.declared.waiting.Entry.{Entry}
use Rattle.sv_links.specs.Queue.{creates}
use Rattle.sv_history.specs.Act.{Act, of, device_acts}
use Rattle.sv_history.specs.Connection.{pending_call}
use Rattle.sv_history.specs.CoreCall.{creates_link}
use Rattle.sv_history.specs.Request.{core_call}
use Rattle.sv_server.specs.Connection.Representation.{Connection, IsConnection}
use Rattle.sv_server.specs.Device.Representation.{Device, IsDevice}
use Rattle.sv_history.specs.Settling.{IsSettled}
use Rattle.sv_history.specs.Queries.{IsUsed}
use Rattle.sv_history.specs.History.{IsLogOf}

-- the state of the server: sixteen connections; the device; and the highest number of a connection
-- that was ever opened, plus 1 (0 if no connection was ever opened)
pub record State : Type 0 where
  pub connections : List Connection
  pub device : Device
  pub connections_used : ℕ

-- The suspended call that this entry of the queue stands for was taken and has no reply yet. If the
-- call is create_link, the entry says that the call waits for the lock.
abbrev pub IsTaken : List Act → Entry → Type 0
IsTaken log entry = (call : List ℕ) × (pending_call (of entry.conn log) ≡ Some call)
    × (creates_link (core_call call) ≡ true → creates entry ≡ true)

-- The server's state is the one that this configuration and this log determine.
pub record Represents (state : State) (config : Config) (log : List Act) : Type 0 where
  pub each : (c : ℕ) (other : Connection) → c < 16 → IsConnection (slice_index_or state.connections c other) (of c log)
  pub beyond : (c : ℕ) → 16 ≤ c → of c log ≡ []
  pub connections_used : IsUsed state.connections_used log
  pub device : IsDevice state.device config (device_acts log)
  pub taken : AllByRecursion (IsTaken log) state.device.waiting

-- The server stands for a history: it has the state that the log of the history determines, and no
-- step is due.
pub record StandsFor (state : State) (config : Config) (history : List PlainEvent) : Type 0 where
  pub log : List Act
  pub is_log : IsLogOf config history log
  pub represents : Represents state config log
  pub settled : IsSettled config log
