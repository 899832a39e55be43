-- The answers of a wire as events, and what a sweep does for each connection. Traces (lists of the
-- wire's answers) and histories have the newest item first.
use Rattle.std.specs.Prelude.{◌≡◌, ◌⊎◌, ℕ, ◌<◌, ◌≤◌, ◌==◌, not, Bool, true, false, List, [], ◌∷◌, ◌++◌, length, filter, flat_map, Some, None, Err, ⊤}
use Rattle.std.specs.List.{AllByRecursion}
use Rattle.sv_links.specs.Channels.{ChannelAct}
use Rattle.sv_history.specs.declared.event.Config.{Config}
use Rattle.sv_history.specs.declared.event.Dial.{Dial}
use Rattle.sv_history.specs.declared.event.Port.{Port}
use Rattle.sv_history.specs.declared.event.Port.TheVariants.{Conn, Intr}
use Rattle.sv_history.specs.Event.{PlainEvent, Open, Bytes, Turn, Refuse, Took, Close, Dialed, port_number}
use Rattle.sv_history.specs.Act.{Act, of, device_acts}
use Rattle.sv_history.specs.Connection.{waiting, waiting_on, is_idle, free}
use Rattle.sv_history.specs.Interrupts.{dial_of}
use Rattle.sv_history.specs.Requests.{HearsOf}
use Rattle.sv_history.specs.Limits.{longest_reply}
use Rattle.sv_history.specs.declared.event.Refused.TheVariants.{NoMemory}
use Rattle.sv_history.specs.History.{is_port_shut, IsLogOf, Answers}
use Rattle.sv_server.specs.Server.State.{StandsFor}
use Rattle.sv_serve.specs.declared.wire.Answer.{Answer}
use Rattle.sv_serve.specs.declared.wire.Answer.TheVariants.{Got, Failed}
use Rattle.sv_serve.specs.Heard.{Heard, WasAccepted, WasRead, WasWritten, WasDialed, PeerAnswered, WasClosed, Through}
use Rattle.sv_serve.specs.DriverView.{DriverState, Steps, Stands}
use Rattle.sv_serve.specs.Sweep.{Sweeps}
use Rattle.sv_driver_laws.specs.Timed.{is_timed}

-- the event that an answer of the wire causes, if it causes one
abbrev pub event_of : Heard → List PlainEvent
event_of (WasAccepted role (Some c) (Got all)) = Open c role ∷ []
event_of (WasRead c most (Got bytes)) = Bytes c bytes ∷ []
event_of (WasWritten port bytes (Got n)) = Took port n ∷ []
event_of (WasWritten (Intr c) bytes Failed) = Close (Intr c) ∷ []
event_of (WasDialed c dial (Got all)) = Dialed c true ∷ []
event_of (WasDialed c dial Failed) = Dialed c false ∷ []
event_of (PeerAnswered c (Got all)) = Dialed c true ∷ []
event_of (PeerAnswered c Failed) = Dialed c false ∷ []
event_of (WasClosed (Conn c)) = Close (Conn c) ∷ []
event_of _ = []

-- whether an event comes from the wire. Turns, Refuses and timed events don't come from the wire:
-- the driver makes them itself.
abbrev pub is_outer : PlainEvent → Bool
is_outer (Turn c) = false
is_outer (Refuse c) = false
is_outer event = not (is_timed event)

-- A sweep has a Turn of the connection. If memory for the call is refused, the sweep has a Refuse
-- instead. If the sweep has neither a Turn nor a Refuse of the connection, there is no call to take
-- on it, or no room for the longest reply.
abbrev pub Takes : Config → ℕ → List Act → List PlainEvent → Type 0
Takes config c before turn = (turn ≡ Turn c ∷ []) ⊎ (((turn ≡ Refuse c ∷ []) × Answers config (Turn c) before (Err NoMemory))
    ⊎ ((turn ≡ []) × ((is_idle (of c before) ≡ true) ⊎ (free (of c before) < longest_reply))))

-- These bytes are passed to the wire in one write to the port. The write can have further bytes
-- after these bytes.
abbrev pub IsWritten : Port → List ℕ → List Heard → Type 0
IsWritten port bytes piece = (more : List ℕ) × (answer : Answer ℕ) × (newer older : List Heard)
    × (piece ≡ newer ++ (WasWritten port (bytes ++ more) answer ∷ older))

-- After all reads of a sweep, the next call of a connection is taken or refused, if that is
-- possible (`Takes`). After that, the bytes that wait on the connection are passed to the wire in
-- the same sweep.
abbrev pub Serves : Config → ℕ → List PlainEvent → List PlainEvent → List Heard → Type 0
Serves config c history events piece = (earlier turn later : List PlainEvent) × (before after : List Act)
    × (events ≡ later ++ (turn ++ earlier)) × AllByRecursion (λ event. (d : ℕ) (bytes : List ℕ) → event ≡ Bytes d bytes → ⊥) later
    × IsLogOf config (earlier ++ history) before × IsLogOf config (turn ++ (earlier ++ history)) after
    × Takes config c before turn × ((waiting (of c after) ≡ []) ⊎ IsWritten (Conn c) (waiting (of c after)) piece)

-- whether an event takes the next call of a connection
abbrev pub takes_call : ℕ → PlainEvent → Bool
takes_call c = elim [ Turn d ↦ d == c | Refuse d ↦ d == c | _ ↦ false ]

-- whether an event takes the next call of some connection
abbrev pub is_taking : PlainEvent → Bool
is_taking = elim [ Turn d ↦ true | Refuse d ↦ true | _ ↦ false ]

-- whether an event is a Took or a Close
abbrev pub is_sending : PlainEvent → Bool
is_sending = elim [ Took port n ↦ true | Close port ↦ true | _ ↦ false ]

-- The wire is asked to connect the interrupt channel of a connection to this peer; or, if a peer
-- was dialed before, whether it answered.
abbrev pub IsDialed : ℕ → Dial → List Heard → Type 0
IsDialed c dial piece = (answer : Answer ⊤) × (newer older : List Heard)
    × ((piece ≡ newer ++ (WasDialed c dial answer ∷ older)) ⊎ (piece ≡ newer ++ (PeerAnswered c answer ∷ older)))

-- After the sweep has taken its calls, and before any of its time passes, there is a moment at
-- which the interrupt channel of a connection needn't be connected, or the wire is asked in the
-- same sweep to connect it, or whether the peer that was dialed before has answered.
abbrev pub DialsFor : Config → ℕ → List PlainEvent → List PlainEvent → List Heard → Type 0
DialsFor config c history events piece = (earlier later : List PlainEvent) × (log : List Act) × (events ≡ later ++ earlier)
    × AllByRecursion (λ event. is_taking event ≡ false) later × (filter is_timed earlier ≡ []) × IsLogOf config (earlier ++ history) log
    × ((dial_of c log ≡ None) ⊎ ((dial : Dial) × (dial_of c log ≡ Some dial) × IsDialed c dial piece))

-- After all calls of the sweep are taken and all of its time has passed, there is a moment from
-- which on the sweep only writes and closes. The bytes that wait at this moment on a port, a
-- connection or an interrupt channel, are passed to the wire in the same sweep; unless the port is
-- an interrupt channel that isn't open any more at the end of the sweep.
abbrev pub SendsAll : Config → List PlainEvent → List PlainEvent → List Heard → Type 0
SendsAll config history events piece = (earlier later : List PlainEvent) × (log end : List Act) × (channel_log : List ChannelAct)
    × (events ≡ later ++ earlier) × AllByRecursion (λ event. is_sending event ≡ true) later × IsLogOf config (earlier ++ history) log
    × HearsOf (device_acts log) channel_log × IsLogOf config (events ++ history) end × ((port : Port) → port_number port < 16
    → (waiting_on channel_log port log ≡ []) ⊎ IsWritten port (waiting_on channel_log port log) piece
    ⊎ ((port ≡ Intr (port_number port)) × (is_port_shut port end ≡ true)))

-- A sweep takes at most one call of each connection. The wire is asked to connect each interrupt
-- channel that has to be connected, and what waits is passed to the wire.
abbrev pub IsWhole : Config → List PlainEvent → List PlainEvent → List Heard → Type 0
IsWhole config history events piece = ((c : ℕ) → length (filter (takes_call c) events) ≤ 1)
    × ((c : ℕ) → c < 16 → DialsFor config c history events piece) × SendsAll config history events piece

-- A sweep has these events and these answers of the wire. Its events from the wire are exactly
-- those that the answers cause, and the sweep serves each connection, and is whole (`IsWhole`).
abbrev pub IsServed : {W J : Type 0} → (W → Heard → W → Type 0) → Config → DriverState W J → DriverState W J → List PlainEvent
    → List PlainEvent → List Heard → Type 0
IsServed hears config old new history events piece = StandsFor old.server config history × StandsFor new.server config (events ++ history)
    × Through hears piece old.wire new.wire × (filter is_outer events ≡ flat_map event_of piece)
    × ((c : ℕ) → c < 16 → Serves config c history events piece) × IsWhole config history events piece

-- For every sweep, whatever happened before it, there are events and answers of the wire for which
-- `IsServed` holds.
abbrev pub Served : {W J : Type 0} → (W → Heard → W → Type 0) → (J → List PlainEvent → J → Type 0) → Type 0
Served hears notes = (config : Config) (ticks : ℕ) (history : List PlainEvent) (old new : DriverState _ _)
    → (first : _) → Stands (notes first) old config history → Steps notes (Sweeps hears ticks) old new
    → (done : List PlainEvent) × (piece : List Heard)
    × IsServed hears config old new history done piece
