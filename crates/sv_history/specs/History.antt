-- The log of a history, and which events the server refuses. A history is a list of events that
-- weren't refused, the newest first.
use Rattle.std.specs.Prelude.{◌≡◌, ℕ, ◌+◌, ◌||◌, ◌==◌, not, ℤ, pos, negsuc, Bool, true, List, [], ◌∷◌, ◌++◌, length, map, Option, Some, None, is_none, Result, Ok, Err, nat_lt, if◌then◌else◌}
use Rattle.sv_errors.specs.Limits.{is_channel, most_microvolts}
use Rattle.sv_vxi.specs.declared.error_code.ErrorCode.TheVariants.{Abort}
use Rattle.sv_links.specs.Links.{closing, links_made}
use Rattle.sv_links.specs.Waiting.{Left, creating}
use Rattle.sv_links.specs.Channels.{ChannelAct, ChannelClosed, ChannelTaken, waiting as channel_waiting}
use Rattle.sv_scan.specs.declared.acts.ScanAct.TheVariants.{Input as InputTo}
use Rattle.sv_layers.specs.Act.{Scanned}
use Rattle.sv_instrument.specs.Stimulus.{external_acts, tick_acts}
use Rattle.sv_history.specs.declared.event.Port.{Port}
use Rattle.sv_history.specs.declared.event.Port.TheVariants.{Conn, Intr}
use Rattle.sv_history.specs.declared.event.Config.{Config}
use Rattle.sv_history.specs.declared.event.Did.{Did}
use Rattle.sv_history.specs.declared.event.Did.TheVariants.{Done, Idle}
use Rattle.sv_history.specs.declared.event.Refused.{Refused}
use Rattle.sv_history.specs.declared.event.Refused.TheVariants.{NoMemory, ConnInUse, NoConn, NoRoom, NotSent, NoDial, NotRefusable, BadChannel, BadInput, TimeOver}
use Rattle.sv_history.specs.Event.{IsEvent, IsConfig, PlainEvent, Open, Bytes, Turn, Refuse, Took, Close, Dialed, Input, External, Tick}
use Rattle.sv_history.specs.Act.{Act, ConnAct, DeviceAct, Opened, Piece, CallTaken, Replied, BytesTaken, PortClosed, Linked, Waited, Channel, Applied, Ticked, On, OnDevice, of, device_acts, link_acts, wait_acts, instrument_acts, ticks}
use Rattle.sv_history.specs.Connection.{is_open, waiting, next_call, is_idle, room, free, pending_call}
use Rattle.sv_history.specs.CoreCall.{CoreCall}
use Rattle.sv_history.specs.Request.{Request, core_call_in, next_request}
use Rattle.sv_history.specs.Requests.{HearsOf}
use Rattle.sv_history.specs.Interrupts.{has_channel, is_dialing, dialing}
use Rattle.sv_history.specs.Refusing.{refusable, refused_reply}
use Rattle.sv_history.specs.Effect.{Effect, acts_of}
use Rattle.sv_history.specs.Execution.{request_effect, aborts}
use Rattle.sv_history.specs.Resuming.{failure_effect, connect_effect}
use Rattle.sv_history.specs.PolledStatus.{IsPolled}
use Rattle.sv_history.specs.Settling.{Settles}
use Rattle.sv_history.specs.Limits.{longest_reply}

-- the acts by which a device_abort makes the suspended call of a connection fail with error 23;
-- none if the connection is `None`
abbrev pub abort_acts : Option ℕ → List Act → List Act
abort_acts (Some c) log = acts_of c (failure_effect Abort c (core_call_in (pending_call (of c log))))
abort_acts None log = []

-- the acts of a record that was taken: the act of taking the record; the record's own effect; and,
-- if the record aborts a suspended call, the end of that call
abbrev pub taken_acts : ℕ → List ℕ → Effect → Option ℕ → List Act → List Act
taken_acts c bytes effect aborts log =
    let acts = acts_of c effect ++ On c (CallTaken bytes) ∷ [] in abort_acts aborts (acts ++ log) ++ acts

-- the acts of a Turn event: all acts of the connection's next call (`taken_acts`); none if there is
-- no call to take
abbrev pub turn_acts : Config → ℕ → ℕ → Option (List ℕ) → Option Request → List Act → List Act
turn_acts config polled c (Some bytes) (Some request) log =
    taken_acts c bytes (request_effect config polled c request (device_acts log)) (aborts request (device_acts log)) log
turn_acts config polled c _ _ log = []

-- the acts of a Refuse event: the connection's next call is taken, and answered at once with error
-- 9
abbrev pub refuse_acts : ℕ → Option (List ℕ) → Option CoreCall → List Act
refuse_acts c (Some bytes) (Some call) = On c (Replied (refused_reply call)) ∷ On c (CallTaken bytes) ∷ []
refuse_acts c _ _ = []

-- The acts that an event itself adds to the log, if a poll of the status byte would return
-- `polled`. Closing a connection ends its suspended call, destroys its links from the lowest number
-- up, and closes its interrupt channel.
abbrev pub own_acts : Config → ℕ → PlainEvent → List Act → List Act
own_acts config polled (Open c role) log = On c (Opened role) ∷ []
own_acts config polled (Bytes c piece) log = On c (Piece piece) ∷ []
own_acts config polled (Turn c) log = turn_acts config polled c (next_call (of c log)) (next_request (of c log)) log
own_acts config polled (Refuse c) log = refuse_acts c (next_call (of c log)) (refusable (of c log))
own_acts config polled (Took (Conn c) count) log = On c (BytesTaken count) ∷ []
own_acts config polled (Took (Intr c) count) log = OnDevice (Channel (ChannelTaken c count)) ∷ []
own_acts config polled (Close (Conn c)) log =
    map OnDevice (Channel (ChannelClosed c) ∷ map Linked (closing c (link_acts (device_acts log))) ++ Waited (Left c) ∷ [])
    ++ On c PortClosed ∷ []
own_acts config polled (Close (Intr c)) log = OnDevice (Channel (ChannelClosed c)) ∷ []
own_acts config polled (Dialed c ok) log = acts_of c (connect_effect c ok (core_call_in (pending_call (of c log))))
own_acts config polled (Input channel microvolts) log = OnDevice (Applied (Scanned (InputTo channel microvolts))) ∷ []
own_acts config polled External log = map OnDevice (map Applied (external_acts (instrument_acts (device_acts log))))
own_acts config polled Tick log = map OnDevice (map Applied (tick_acts (instrument_acts (device_acts log)))) ++ OnDevice Ticked ∷ []

-- whether no connection with this number is open
abbrev pub is_shut : ℕ → List Act → Bool
is_shut c log = nat_lt 15 c || not (is_open (of c log))

-- whether no interrupt channel with this number is open
abbrev pub is_channel_shut : ℕ → List Act → Bool
is_channel_shut c log = nat_lt 15 c || not (has_channel c (device_acts log))

-- whether a port isn't open
abbrev pub is_port_shut : Port → List Act → Bool
is_port_shut (Conn c) log = is_shut c log
is_port_shut (Intr c) log = is_channel_shut c log

-- whether a voltage, in microvolts, is beyond plus or minus 1,000 V
abbrev pub is_beyond : ℤ → Bool
is_beyond (pos n) = nat_lt most_microvolts n
is_beyond (negsuc n) = nat_lt most_microvolts (n + 1)

-- why an Input event is refused: there is no such channel; or the voltage is beyond plus or minus
-- 1,000 V
abbrev pub input_refusal : ℕ → ℤ → Option Refused
input_refusal channel microvolts =
    if not (is_channel channel) then Some BadChannel else (if is_beyond microvolts then Some BadInput else None)

-- the last value of the clock, in milliseconds
abbrev pub last_clock : ℕ
last_clock = 9223372036854775807

-- why a Turn event of an open connection is refused: there is a call to take, but no room for the
-- longest reply
abbrev pub turn_refusal : List ConnAct → Option Refused
turn_refusal acts = if is_idle acts then None else (if nat_lt (free acts) longest_reply then Some NoRoom else None)

-- why a Refuse event of an open connection is itself refused: the connection has no next call that
-- the server can answer with error 9; or there is no room for the longest reply
abbrev pub refuse_refusal : List ConnAct → Option Refused
refuse_refusal acts =
    if is_none (refusable acts) then Some NotRefusable else (if nat_lt (free acts) longest_reply then Some NoRoom else None)

-- why a Took event is refused: it says that the peer took more bytes than wait to be sent
abbrev pub took_refusal : ℕ → List ℕ → Option Refused
took_refusal count bytes = if nat_lt (length bytes) count then Some NotSent else None

-- the refusal of an event that needs an open connection: `NoConn` if the connection isn't open,
-- else `other`
abbrev pub unless_shut : ℕ → List Act → Option Refused → Option Refused
unless_shut c log other = if is_shut c log then Some NoConn else other

-- The first check that an event fails; `None` if the event fails no check. `channel_log` is the log
-- of the interrupt channels. Running out of memory isn't one of these checks.
abbrev pub refusal : Config → List ChannelAct → PlainEvent → List Act → Option Refused
refusal config channel_log (Open c role) log = if nat_lt 15 c then Some NoConn else (if is_open (of c log) then Some ConnInUse else None)
refusal config channel_log (Bytes c piece) log = unless_shut c log (if nat_lt (room (of c log)) (length piece) then Some NoRoom else None)
refusal config channel_log (Turn c) log = unless_shut c log (turn_refusal (of c log))
refusal config channel_log (Refuse c) log = unless_shut c log (refuse_refusal (of c log))
refusal config channel_log (Took (Conn c) count) log = unless_shut c log (took_refusal count (waiting (of c log)))
refusal config channel_log (Took (Intr c) count) log =
    if is_channel_shut c log then Some NoConn else took_refusal count (channel_waiting c channel_log)
refusal config channel_log (Close (Conn c)) log = unless_shut c log None
refusal config channel_log (Close (Intr c)) log = if is_channel_shut c log then Some NoConn else None
refusal config channel_log (Dialed c ok) log = unless_shut c log (if is_dialing c (wait_acts (device_acts log)) then None else Some NoDial)
refusal config channel_log (Input channel microvolts) log = input_refusal channel microvolts
refusal config channel_log External log = None
refusal config channel_log Tick log = if config.clock + ticks (device_acts log) == last_clock then Some TimeOver else None

-- This is the log of this history: for each event the event's own acts, and then the acts of the
-- steps that are due. No event of the history is refused, and each number is in range.
abbrev pub IsLogOf : Config → List PlainEvent → List Act → Type 0
IsLogOf config [] log = IsConfig config × (log ≡ [])
IsLogOf config (event ∷ history) log = (before : List Act) × (polled : ℕ) × (channel_log : List ChannelAct) × IsEvent event
    × IsLogOf config history before × HearsOf (device_acts before) channel_log × (refusal config channel_log event before ≡ None)
    × IsPolled polled (device_acts before)
    × Settles config (own_acts config polled event before ++ before) log

-- what an event that wasn't refused did: `Idle` for a Turn that finds no call, else `Done`
abbrev pub did : PlainEvent → List Act → Did
did (Turn c) log = if is_idle (of c log) then Idle else Done
did _ log = Done

-- whether the server needs memory for these acts: they create a link, or suspend a create_link or a
-- create_intr_chan
abbrev pub wants_memory : List DeviceAct → Bool
wants_memory acts = nat_lt 0 (links_made (link_acts acts)) || (nat_lt 0 (creating (wait_acts acts)) || nat_lt 0 (dialing (wait_acts acts)))

-- This is the result of an event: what the event did, or the first check that it failed. The server
-- can run out of memory only if the event fails no check, and creates a link or suspends a
-- create_link or a create_intr_chan.
abbrev pub AnswersBy : Config → List ChannelAct → PlainEvent → List Act → Result Did Refused → Type 0
AnswersBy config channel_log event log (Ok what) = (refusal config channel_log event log ≡ None) × (what ≡ did event log)
AnswersBy config channel_log event log (Err NoMemory) = (refusal config channel_log event log ≡ None) × (polled : ℕ)
    × IsPolled polled (device_acts log)
    × (wants_memory (device_acts (own_acts config polled event log)) ≡ true)
AnswersBy config channel_log event log (Err refused) = refusal config channel_log event log ≡ Some refused

-- This is the result of an event that comes after this log.
abbrev pub Answers : Config → PlainEvent → List Act → Result Did Refused → Type 0
Answers config event log result = (channel_log : List ChannelAct) × HearsOf (device_acts log) channel_log
    × AnswersBy config channel_log event log result

-- the history after an event: the event is added to the history, unless the event was refused
abbrev pub history_after : PlainEvent → Result Did Refused → List PlainEvent → List PlainEvent
history_after event (Ok what) history = event ∷ history
history_after event (Err refused) history = history
