-- Which act an event adds first to a connection's log, and to the log of the interrupt channels.
-- These statements are for the crates that depend on this one.
use Rattle.std.specs.Prelude.{◌≡◌, ℕ, ◌+◌, filter, ◌<◌, ◌==◌, Bool, true, false, List, [], ◌∷◌, ◌++◌, length, Option, Some, None, Result, Ok, Err, ⊤, if◌then◌else◌}
use Rattle.sv_links.specs.declared.request.Peer.{Peer}
use Rattle.sv_links.specs.Channels.{ChannelAct, ChannelOpened, ChannelTaken, is_channel_open, bytes_taken, calls}
use Rattle.sv_history.specs.declared.event.Config.{Config}
use Rattle.sv_history.specs.declared.event.Did.{Did}
use Rattle.sv_history.specs.declared.event.Did.TheVariants.{Done}
use Rattle.sv_history.specs.declared.event.Port.TheVariants.{Conn, Intr}
use Rattle.sv_history.specs.declared.event.Refused.{Refused}
use Rattle.sv_history.specs.declared.event.Refused.TheVariants.{NoMemory}
use Rattle.sv_history.specs.Event.{PlainEvent, Open, Bytes, Turn, Refuse, Took, Close, Dialed, Tick}
use Rattle.sv_history.specs.Act.{Act, ConnAct, Opened, Piece, CallTaken, Faulted, Replied, BytesTaken, PortClosed, of, device_acts}
use Rattle.sv_history.specs.Connection.{open_role, pending_call}
use Rattle.sv_history.specs.CoreCall.{CoreCall}
use Rattle.sv_history.specs.Request.{core_call_in}
use Rattle.sv_history.proofs.Dialing.{peer_named_by}
use Rattle.sv_history.specs.Requests.{HearsOf}
use Rattle.sv_history.specs.History.{last_clock, history_after, IsLogOf, Answers}

-- The act that an event itself adds to connection `c` if it opens or closes the connection, brings
-- bytes, or takes bytes of replies. Other events add none.
abbrev pub brings : ℕ → PlainEvent → List ConnAct
brings c (Open d role) = if d == c then Opened role ∷ [] else []
brings c (Bytes d piece) = if d == c then Piece piece ∷ [] else []
brings c (Took (Conn d) count) = if d == c then BytesTaken count ∷ [] else []
brings c (Close (Conn d)) = if d == c then PortClosed ∷ [] else []
brings c _ = []

-- The acts are only those of calls: a call is taken, a record isn't a call, or a reply is sent.
abbrev pub AreCallActs : List ConnAct → Type 0
AreCallActs [] = ⊤
AreCallActs (CallTaken call ∷ acts) = AreCallActs acts
AreCallActs (Faulted ∷ acts) = AreCallActs acts
AreCallActs (Replied bytes ∷ acts) = AreCallActs acts
AreCallActs (_ ∷ acts) = ⊥

-- An event first adds its own act to each connection, and after it only acts of calls.
abbrev pub OnlyCalls : Type 0
OnlyCalls = (config : Config) (event : PlainEvent) (history : List PlainEvent) (before log : List Act) (c : ℕ)
    → IsLogOf config history before → IsLogOf config (event ∷ history) log
    → (calls : List ConnAct) × AreCallActs calls × (of c log ≡ calls ++ (brings c event ++ of c before))

-- The newest act closed the connection, or the connection has no act.
abbrev pub IsClear : List ConnAct → Type 0
IsClear [] = ⊤
IsClear (PortClosed ∷ acts) = ⊤
IsClear _ = ⊥

-- A connection that isn't open has no act since it was closed.
abbrev pub ShutIsClear : Type 0
ShutIsClear = (config : Config) (history : List PlainEvent) (log : List Act) (c : ℕ) → IsLogOf config history log
    → open_role (of c log) ≡ None → IsClear (of c log)

-- The act by which the channel of connection `c` opens to this peer; none without a peer.
abbrev pub opened_to : ℕ → Option Peer → List ChannelAct
opened_to c (Some peer) = ChannelOpened c peer ∷ []
opened_to c None = []

abbrev pub peer_in : Option CoreCall → Option Peer
peer_in (Some call) = peer_named_by call.arguments
peer_in None = None

abbrev pub tells : PlainEvent → List Act → List ChannelAct
tells (Took (Intr c) count) log = ChannelTaken c count ∷ []
tells (Dialed c true) log = opened_to c (peer_in (core_call_in (pending_call (of c log))))
tells _ log = []

-- If the channel of connection `c` is open after, it was open before. Its peer took no more bytes
-- in between, and calls were only appended.
abbrev pub OnlyAdds : ℕ → List ChannelAct → List ChannelAct → Type 0
OnlyAdds c before after = is_channel_open c after ≡ true → (is_channel_open c before ≡ true) × (bytes_taken c after ≡ bytes_taken c before)
    × (more : List (List ℕ)) × (calls c after ≡ calls c before ++ more)

-- An event first adds its own act to the log of the interrupt channels. After that, calls may be
-- appended to a channel, or the channel is closed.
abbrev pub OnlyRequests : Type 0
OnlyRequests = (config : Config) (event : PlainEvent) (history : List PlainEvent) (before log : List Act)
    (channel_log later : List ChannelAct) (c : ℕ) → IsLogOf config history before → HearsOf (device_acts before) channel_log
    → IsLogOf config (event ∷ history) log → HearsOf (device_acts log) later → OnlyAdds c (tells event before ++ channel_log) later

-- If a Turn runs out of memory, a Refuse of the same call succeeds.
abbrev pub CanBeRefused : Type 0
CanBeRefused = (config : Config) (history : List PlainEvent) (c : ℕ) (log : List Act) (result : Result Did Refused)
    → IsLogOf config history log → Answers config (Turn c) log (Err NoMemory) → Answers config (Refuse c) log result → result ≡ Ok Done

abbrev pub is_tick : PlainEvent → Bool
is_tick Tick = true
is_tick _ = false

-- A Tick succeeds while the clock is below its last value, and is refused at the last value. The
-- clock is `config.clock` plus the number of Ticks in the history.
abbrev pub TicksTaken : Type 0
TicksTaken = (config : Config) (history : List PlainEvent) (log : List Act) (result : Result Did Refused) → IsLogOf config history log
    → Answers config Tick log result → (config.clock + length (filter is_tick history) < last_clock → result ≡ Ok Done)
    × (config.clock + length (filter is_tick history) ≡ last_clock → history_after Tick result history ≡ history)
