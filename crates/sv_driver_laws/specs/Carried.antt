-- What a driver carries between its wire and its server over any number of sweeps: the wire's
-- answers and the server's events match each other, in the same order. Traces (lists of the wire's
-- answers) and histories have the newest item first.
use Rattle.std.specs.Prelude.{◌≡◌, ◌⊎◌, ℕ, ◌-◌, ◌≤◌, min, ◌==◌, Bool, true, false, List, [], ◌∷◌, ◌++◌, take, filter, flat_map, Option, Some, None, if◌then◌else◌, ⊤}
use Rattle.sv_links.specs.Channels.{ChannelAct}
use Rattle.sv_history.specs.declared.event.Config.{Config}
use Rattle.sv_history.specs.declared.event.Port.{Port}
use Rattle.sv_history.specs.declared.event.Port.TheVariants.{Conn, Intr}
use Rattle.sv_history.specs.Event.{PlainEvent}
use Rattle.sv_history.specs.Act.{Act, of, device_acts}
use Rattle.sv_history.specs.Connection.{sent_on, waiting_on, waiting, is_faulted, stream}
use Rattle.sv_history.specs.Requests.{HearsOf}
use Rattle.sv_history.specs.History.{is_port_shut, last_clock, IsLogOf}
use Rattle.sv_replay.specs.Scenario.{IsScenario}
use Rattle.sv_replay.specs.declared.entry.Entry.{Entry}
use Rattle.sv_history.specs.Queries.{WaitOn, Answered}
use Rattle.sv_serve.specs.declared.wire.Answer.{Answer}
use Rattle.sv_serve.specs.declared.wire.Answer.TheVariants.{Got, Failed}
use Rattle.sv_serve.specs.Heard.{Heard, WasAccepted, WasRead, WasProbed, WasWritten, WasDialed, PeerAnswered, WasClosed, Through}
use Rattle.sv_serve.specs.DriverView.{DriverState, Stands}
use Rattle.sv_serve.specs.Sweep.{Handed, Passing, Stimulated, Swept}
use Rattle.sv_driver_laws.specs.Timed.{is_timed, time_events, handed_ticks, with_handed}
use Rattle.sv_driver_laws.specs.Served.{event_of, is_outer, IsServed}

-- whether two ports are the same
abbrev pub is_same : Port → Port → Bool
is_same (Conn c) (Conn d) = d == c
is_same (Intr c) (Intr d) = d == c
is_same _ _ = false

-- whether the streams of a port start anew with this answer of the wire: the connection was
-- accepted or closed, or the interrupt channel was connected
abbrev pub begins : Port → Heard → Bool
begins port (WasAccepted role (Some d) (Got all)) = is_same port (Conn d)
begins port (WasDialed d dial (Got all)) = is_same port (Intr d)
begins port (PeerAnswered d (Got all)) = is_same port (Intr d)
begins port (WasClosed (Conn d)) = is_same port (Conn d)
begins _ _ = false

-- the bytes that were read on a port, if this is the wire's answer to a read of the port; else no
-- bytes
abbrev pub read : Port → Heard → List ℕ
read port = elim [ WasRead d most (Got bytes) ↦ if is_same port (Conn d) then bytes else [] | _ ↦ [] ]

-- the bytes that the wire took for a port, if this is the wire's answer to a write to the port;
-- else no bytes
abbrev pub taken_bytes : Port → Heard → List ℕ
taken_bytes port = elim [ WasWritten other bytes (Got n) ↦ if is_same port other then take n bytes else [] | _ ↦ [] ]

-- the bytes that the function `bytes` finds in the wire's answers since the streams of a port last
-- started anew (`begins`). The bytes of the oldest answer come first.
abbrev pub since : Port → (Heard → List ℕ) → List Heard → List ℕ
since port bytes [] = []
since port bytes (heard ∷ trace) = if begins port heard then [] else since port bytes trace ++ bytes heard

-- whether an answer of the wire ends a port: a read or write of the port failed, or the port's peer
-- is gone. An interrupt channel also ends if a peer that was dialed before can't be reached, or if
-- its connection was closed.
abbrev pub ends_port : Port → Heard → Bool
ends_port (Conn c) (WasRead d most Failed) = d == c
ends_port (Conn c) (WasProbed d drops Failed) = d == c
ends_port port (WasWritten other bytes Failed) = is_same port other
ends_port (Intr c) (PeerAnswered d Failed) = d == c
ends_port (Intr c) (WasClosed (Conn d)) = d == c
ends_port _ _ = false

-- If an answer of the wire ended a connection (`ends_port`), the next thing that the driver asks of
-- the wire is to close this connection.
abbrev pub ClosesAtOnce : Option Heard → List Heard → Type 0
ClosesAtOnce next [] = ⊤
ClosesAtOnce next (heard ∷ trace) = ((c : ℕ) → ends_port (Conn c) heard ≡ true
    → next ≡ Some (WasClosed (Conn c))) × ClosesAtOnce (Some heard) trace

-- `IsSuch` holds of each answer of a trace, together with all answers before that answer.
abbrev pub EachHeard : (Heard → List Heard → Type 0) → List Heard → Type 0
EachHeard IsSuch [] = ⊤
EachHeard IsSuch (heard ∷ trace) = IsSuch heard trace × EachHeard IsSuch trace

-- The trace isn't empty, and `is_such` holds of its newest answer.
abbrev pub Follows : (Heard → Bool) → List Heard → Type 0
Follows is_such trace = (last : Heard) × (older : List Heard) × (trace ≡ last ∷ older) × (is_such last ≡ true)

-- There was a moment at which the wire had given exactly the answers of `trace`, and `IsSo` held of
-- the history up to that moment.
abbrev pub Once : (List PlainEvent → Type 0) → List PlainEvent → List Heard → Type 0
Once IsSo history trace = (later earlier : List PlainEvent) × (history ≡ later ++ earlier)
    × (filter is_outer earlier ≡ flat_map event_of trace) × IsSo earlier

-- The history's events from the wire are exactly those that the wire's answers cause, in the same
-- order. Every byte that is read enters its connection's stream, and every byte that the wire takes
-- is one that the history sends: in the same order, and no byte is lost, invented or doubled. Each
-- write passes exactly the bytes that waited on its port at a moment since the wire's answer before
-- it. A connection is closed right after it failed; otherwise it is only closed if it was at fault
-- and no bytes waited on it. The socket of an interrupt channel is only closed in two cases: right
-- after an answer that ends the channel (`ends_port`), or while the channel isn't open.
pub record IsCarried (config : Config) (history : List PlainEvent) (trace : List Heard) : Type 0 where
  pub events : filter is_outer history ≡ flat_map event_of trace
  pub streams : (c : ℕ) → Answered (λ log. stream (of c log)) config history (since (Conn c) (read (Conn c)) trace)
  pub sends : (port : Port) (log : List Act) (channel_log : List ChannelAct) → IsLogOf config history log
      → HearsOf (device_acts log) channel_log → is_port_shut port log ≡ false
      → since port (taken_bytes port) trace ++ waiting_on channel_log port log ≡ sent_on channel_log port log
  pub hands : EachHeard (λ heard older. (port : Port) (bytes : List ℕ) (answer : Answer ℕ) → heard ≡ WasWritten port bytes answer
      → Once (λ earlier. WaitOn port config earlier bytes) history older) trace
  pub failures : ClosesAtOnce None trace
  pub reasons : EachHeard (λ heard older. (c : ℕ) → heard ≡ WasClosed (Conn c) → Follows (ends_port (Conn c)) older ⊎ Once (λ earlier.
      (log : List Act) × IsLogOf config earlier log × (is_faulted (of c log) ≡ true) × (waiting (of c log) ≡ [])) history older) trace
  pub lets_go : EachHeard (λ heard older. (c : ℕ) → heard ≡ WasClosed (Intr c) → Follows (ends_port (Intr c)) older ⊎ Once (λ earlier.
      (log : List Act) × IsLogOf config earlier log × (is_port_shut (Intr c) log ≡ true)) history older) trace

-- The history's timed events are exactly these: a Tick for each millisecond that the sweeps were
-- given, up to the end of the clock; the event of each entry of the scenario that was due; and the
-- event of each stimulus that was handed in, where it stands as if it were an entry of the scenario
-- (`with_handed`). This has three premises: the clock is in range; the driver had counted no
-- millisecond at the start; and the scenario is valid.
abbrev pub IsTimely : Config → ℕ → List Entry → List Handed → List PlainEvent → Type 0
IsTimely config ticks entries handed history = let most = last_clock - config.clock in
    config.clock ≤ last_clock → ticks ≡ 0 → IsScenario 0 entries
    → filter is_timed history ≡ time_events (min (handed_ticks handed) most) (with_handed most handed entries)

-- Each sweep serves each connection. A sweep adds its own events to the history. To the trace it
-- adds the answers that the wire gave during the sweep. A stimulus that is handed in between two
-- sweeps adds events to the history, none of them from the wire, and nothing to the trace. For the
-- timed events, `IsTimely` holds.
abbrev pub InSweeps : {W J : Type 0} (hears : W → Heard → W → Type 0) (notes : J → List PlainEvent → J → Type 0) → Config
    → (start : DriverState W J) (handed : List Handed) (now : DriverState W J)
    → Swept hears notes handed start now → List PlainEvent → List Heard → Type 0
InSweeps hears notes config start [] now swept history trace = (history ≡ []) × (trace ≡ [])
InSweeps hears notes config start (Passing ticks ∷ handed) now (between, swept, goes) history trace = (earlier events : List PlainEvent)
    × (older piece : List Heard) × InSweeps hears notes config start handed between swept earlier older × IsCarried config earlier older
    × (history ≡ events ++ earlier) × (trace ≡ piece ++ older) × IsServed hears config between now earlier events piece
    × IsTimely config start.ticks start.ahead (Passing ticks ∷ handed) history
InSweeps hears notes config start (Stimulated stimulus ∷ handed) now (between, swept, accepted, goes) history trace =
    (earlier events : List PlainEvent) × InSweeps hears notes config start handed between swept earlier trace
    × IsCarried config earlier trace × (history ≡ events ++ earlier) × (filter is_outer events ≡ [])
    × IsTimely config start.ticks start.ahead (Stimulated stimulus ∷ handed) history

-- A driver whose server is new makes any number of sweeps, over any wire, and any stimuli are
-- handed in between them. Then there are a trace and a history for which `IsCarried` and `InSweeps`
-- hold. The events of this history lead the journal from its state at the start to its state now
-- (`notes`).
abbrev pub Carried : {W J : Type 0} → (W → Heard → W → Type 0) → (J → List PlainEvent → J → Type 0) → Type 0
Carried hears notes = (config : Config) (handed : List Handed) (start now : DriverState _ _) → Stands (notes start.journal) start config []
    → (swept : Swept hears notes handed start now) → (trace : List Heard) × (history : List PlainEvent)
    × Through hears trace start.wire now.wire × Stands (notes start.journal) now config history × IsCarried config history trace
    × InSweeps hears notes config start handed now swept history trace
