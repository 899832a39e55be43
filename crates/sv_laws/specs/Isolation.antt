-- Isolation: while a link holds the lock, other connections change nothing that is sent on the
-- link's connection and on this connection's interrupt channel (VXI-11 revision 1.0, section B.4.4:
-- device locking).
use Rattle.std.specs.Prelude.{◌≡◌, ◌≢◌, ◌↔◌, ◌==◌, not, ℕ, Bool, false, ⊤, List, [], ◌∷◌, ◌++◌, filter, Option, Some, None}
use Rattle.sv_vxi.specs.Arguments.{is_create_link}
use Rattle.sv_links.specs.declared.waiting.Wait.TheVariants.{Input as ForInput, Response as ForResponse}
use Rattle.sv_links.specs.Links.{owner, holder}
use Rattle.sv_links.specs.Waiting.{WaitAct, waits}
use Rattle.sv_history.specs.declared.event.Config.{Config}
use Rattle.sv_history.specs.declared.event.Port.{Port}
use Rattle.sv_history.specs.Event.{PlainEvent, Open, Bytes, Turn, Refuse, Took, Close, Dialed, Input, External, Tick, port_number}
use Rattle.sv_history.specs.Act.{Act, of, device_acts, link_acts, wait_acts}
use Rattle.sv_history.specs.CoreCall.{lid_of}
use Rattle.sv_history.specs.Request.{Request, CoreRequest, AbortRequest, next_request}
use Rattle.sv_history.specs.AbortChannel.{owner_of}
use Rattle.sv_history.specs.History.{IsLogOf}
use Rattle.sv_laws.specs.Adding.{Adds}

-- whether an event is of a connection other than `c`, or of the interrupt channel of a connection
-- other than `c`
abbrev pub is_foreign : ℕ → PlainEvent → Bool
is_foreign c (Open d role) = not (d == c)
is_foreign c (Bytes d piece) = not (d == c)
is_foreign c (Turn d) = not (d == c)
is_foreign c (Refuse d) = not (d == c)
is_foreign c (Took port count) = not (port_number port == c)
is_foreign c (Close port) = not (port_number port == c)
is_foreign c (Dialed d ok) = not (d == c)
is_foreign c (Input channel microvolts) = false
is_foreign c External = false
is_foreign c Tick = false

-- the events that remain if the events of connections other than `c`, and of their interrupt
-- channels, are left out (`is_foreign`)
abbrev pub own_events : ℕ → List PlainEvent → List PlainEvent
own_events c = filter (λ event. not (is_foreign c event))

-- the link that a device_abort names; `None` for any other request
abbrev pub aborted_link : Option Request → Option ℕ
aborted_link = elim [ Some (AbortRequest xid lid) ↦ lid_of (Some lid) | _ ↦ None ]

-- whether a request is create_link
abbrev pub makes_link : Option Request → Bool
makes_link = elim [ Some (CoreRequest call) ↦ is_create_link call.arguments | _ ↦ false ]

-- If the event takes a device_abort, this device_abort names no link of connection `c`. The event
-- neither takes nor refuses a create_link on connection `c`.
abbrev pub LeavesLinksAlone : ℕ → PlainEvent → List Act → Type 0
LeavesLinksAlone c (Turn d) log = (owner_of (aborted_link (next_request (of d log))) (device_acts log) ≢ Some c)
    × (d ≡ c → makes_link (next_request (of d log)) ≡ false)
LeavesLinksAlone c (Refuse d) log = d ≡ c → makes_link (next_request (of d log)) ≡ false
LeavesLinksAlone c _ log = ⊤

-- `IsSuch` holds of each of these events, together with the log of all events before that event.
-- The events come after the history `past`.
abbrev pub EachIs : (PlainEvent → List Act → Type 0) → Config → List PlainEvent → List PlainEvent → Type 0
EachIs IsSuch config past [] = ⊤
EachIs IsSuch config past (event ∷ events) =
    EachIs IsSuch config past events × ((log : List Act) → IsLogOf config (events ++ past) log → IsSuch event log)

-- The link holds the lock at each moment from the end of the log `before` to the end of `log`.
abbrev pub HoldsFrom : ℕ → List Act → List Act → Type 0
HoldsFrom lid before log = (later since : List Act) → log ≡ later ++ (since ++ before)
    → holder (link_acts (device_acts (since ++ before))) ≡ Some lid

-- No connection other than `c` has a suspended device_write that waits until the device accepts it,
-- or a suspended device_read that waits until the device answers it.
abbrev pub NoOtherWaits : ℕ → List WaitAct → Type 0
NoOtherWaits c acts = (d : ℕ) → d ≢ c → (waits d acts ≢ Some ForInput) × (waits d acts ≢ Some ForResponse)

-- These events follow the history `past`. During these events link `lid` of connection `c` holds
-- the lock. No event takes a device_abort of a link of this connection, and no event takes or
-- refuses a create_link on this connection (`LeavesLinksAlone`). When the events begin, no read or
-- write of another connection is suspended (`NoOtherWaits`).
pub record IsLocked (c lid : ℕ) (config : Config) (past events : List PlainEvent) : Type 0 where
  pub before : List Act
  pub log : List Act
  pub was : IsLogOf config past before
  pub is_log : IsLogOf config (events ++ past) log
  pub owns : owner lid (link_acts (device_acts before)) ≡ Some c
  pub holds : HoldsFrom lid before log
  pub none_waits : NoOtherWaits c (wait_acts (device_acts before))
  pub left_alone : EachIs (LeavesLinksAlone c) config past events

-- While a link of a connection holds the lock (`IsLocked`), the events of all other connections can
-- be left out. The history can go on with the remaining events alone: none of them is refused. The
-- remaining events add the same bytes to the connection and to its interrupt channel as all events
-- together.
abbrev pub Isolation : Type 0
Isolation = (c lid : ℕ) (config : Config) (past events : List PlainEvent) → IsLocked c lid config past events
    → ((log : List Act) × IsLogOf config (own_events c events ++ past) log)
    × ((port : Port) (bytes : List ℕ) → port_number port ≡ c
    → Adds port config past events bytes ↔ Adds port config past (own_events c events) bytes)
