-- Events as plain data, and the ranges of the numbers in an event and in a configuration.
use Rattle.std.specs.Prelude.{ℕ, ◌<◌, ◌^◌, ℤ, pos, neg_ℤ, ◌≤ℤ◌, ◌<ℤ◌, Bool, List, All, ⊤}
use Rattle.sv_history.specs.declared.event.Role.{Role}
use Rattle.sv_history.specs.declared.event.Port.{Port}
use Rattle.sv_history.specs.declared.event.Port.TheVariants.{Conn, Intr}
use Rattle.sv_history.specs.declared.event.Config.{Config}
use Rattle.sv_history.specs.declared.event.Event.{Event}
use Rattle.sv_history.specs.declared.event.Event.TheVariants as events

-- an event as plain data: the bytes that come are a list, no matter where the code stores them
pub data PlainEvent : Type 0 where
  Open : (conn : ℕ) (role : Role) → PlainEvent
  Bytes : (conn : ℕ) (piece : List ℕ) → PlainEvent
  Turn : (conn : ℕ) → PlainEvent
  Refuse : (conn : ℕ) → PlainEvent
  Took : (port : Port) (count : ℕ) → PlainEvent
  Close : (port : Port) → PlainEvent
  Dialed : (conn : ℕ) (ok : Bool) → PlainEvent
  Input : (channel : ℕ) (microvolts : ℤ) → PlainEvent
  External : PlainEvent
  Tick : PlainEvent

-- an event of the code, as plain data
abbrev pub plain : Event → PlainEvent
plain (events.Open conn role) = Open conn role
plain (events.Bytes conn piece) = Bytes conn piece.now
plain (events.Turn conn) = Turn conn
plain (events.Refuse conn) = Refuse conn
plain (events.Took port count) = Took port count
plain (events.Close port) = Close port
plain (events.Dialed conn ok) = Dialed conn ok
plain (events.Input channel microvolts) = Input channel microvolts
plain events.External = External
plain events.Tick = Tick

-- the number of the connection that a port belongs to
abbrev pub port_number : Port → ℕ
port_number (Conn c) = c
port_number (Intr c) = c

-- The event can happen: each of its numbers lies in the range of its type, and each of its bytes is
-- below 256.
abbrev pub IsEvent : PlainEvent → Type 0
IsEvent (Open conn role) = conn < 256
IsEvent (Bytes conn piece) = (conn < 256) × All (λ b. b < 256) piece
IsEvent (Turn conn) = conn < 256
IsEvent (Refuse conn) = conn < 256
IsEvent (Took port count) = (port_number port < 256) × (count < 2 ^ 32)
IsEvent (Close port) = port_number port < 256
IsEvent (Dialed conn ok) = conn < 256
IsEvent (Input channel microvolts) = (channel < 256) × (neg_ℤ (pos (2 ^ 63)) ≤ℤ microvolts) × (microvolts <ℤ pos (2 ^ 63))
IsEvent _ = ⊤

-- The code's type `Config` allows this configuration: each number lies in the range of its field's
-- type.
abbrev pub IsConfig : Config → Type 0
IsConfig config = (config.core < 2 ^ 16) × (config.abort < 2 ^ 16) × (config.clock < 2 ^ 64)
