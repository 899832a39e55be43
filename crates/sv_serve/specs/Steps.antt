-- The steps of a driver. In each of the smallest steps at most one method of the wire is called, or
-- one event is given to the server. The server can refuse only three kinds of these events: a Turn,
-- a Tick, and the event of a scenario's entry.
use Rattle.std.specs.Prelude.{◌≡◌, ◌⊎◌, ℕ, ◌<◌, min, ◌==◌, ◌&&◌, ◌||◌, Bool, true, false, List, [], length, Option, Some, None, Result, Ok, Err, ⊤, slice_set, slice_index_or}
use Rattle.sv_history.specs.declared.event.Config.{Config}
use Rattle.sv_history.specs.declared.event.Dial.{Dial}
use Rattle.sv_history.specs.declared.event.Did.{Did}
use Rattle.sv_history.specs.declared.event.Did.TheVariants.{Done}
use Rattle.sv_history.specs.declared.event.Port.{Port}
use Rattle.sv_history.specs.declared.event.Port.TheVariants.{Conn, Intr}
use Rattle.sv_history.specs.declared.event.Refused.{Refused}
use Rattle.sv_history.specs.declared.event.Role.{Role}
use Rattle.sv_history.specs.Act.{Act}
use Rattle.sv_history.specs.Event.{PlainEvent, Open, Bytes, Turn, Refuse, Took, Close, Dialed}
use Rattle.sv_history.specs.History.{IsLogOf, Answers, history_after}
use Rattle.sv_history.specs.Print.{is_no_memory}
use Rattle.sv_serve.specs.declared.wire.Answer.{Answer}
use Rattle.sv_serve.specs.declared.wire.Answer.TheVariants.{Got, Pending, Failed}
use Rattle.sv_serve.specs.Heard.{Heard, WasAccepted, WasRead, WasProbed, WasWritten, WasDialed, PeerAnswered, WasClosed, IsWithin, IsPiece}
use Rattle.sv_serve.specs.DriverView.{DriverView, Unchanged, ◌then◌}
use Rattle.sv_serve.specs.Asked.{IsOpen, HasRoom, IsReady, IsOverlong, IsFaulted, Wants, Waits, IsLowest}

-- A method of the wire is called, and returns this answer.
abbrev pub Hears : {W : Type 0} → (W → Heard → W → Type 0) → Heard → Config → DriverView W → DriverView W → Type 0
Hears hears heard config before after = (wire : _) × hears before.wire heard wire × (after ≡ record before { wire = wire })

-- The server is given an event, and returns this result.
abbrev pub Given : {W : Type 0} → PlainEvent → Result Did Refused → Config → DriverView W → DriverView W → Type 0
Given event result config before after = (log : List Act) × IsLogOf config before.history log × Answers config event log result
    × (after ≡ record before { history = history_after event result before.history })

-- The server applies an event.
abbrev pub IsApplied : {W : Type 0} → PlainEvent → Config → DriverView W → DriverView W → Type 0
IsApplied event = Given event (Ok Done)

-- the peer that the driver dialed for the interrupt channel of a connection; `None` if no peer is
-- dialed
abbrev pub dialed_of : {W : Type 0} → ℕ → DriverView W → Option Dial
dialed_of c at = slice_index_or at.dials c None

-- The driver records which peer it dialed for the interrupt channel of a connection, or (`None`)
-- that no peer is dialed.
abbrev pub Remembers : {W : Type 0} → ℕ → Option Dial → Config → DriverView W → DriverView W → Type 0
Remembers c dial config before after = after ≡ record before { dials = slice_set before.dials c dial }

-- If the wire accepted a connection under a number, the connection opens at the server under this
-- number.
abbrev pub Opens : {W : Type 0} → Role → Option ℕ → Answer ⊤ → Config → DriverView W → DriverView W → Type 0
Opens role (Some c) (Got all) = IsApplied (Open c role)
Opens role number answer = Unchanged

-- If a peer connects, its connection is accepted under the lowest free number. If no number is
-- free, the connection is dropped.
abbrev pub Accepts : {W : Type 0} → (W → Heard → W → Type 0) → Role → Config → DriverView W → DriverView W → Type 0
Accepts hears role config before after = (number : Option ℕ) × (answer : Answer ⊤) × IsLowest number config before
    × (Hears hears (WasAccepted role number answer) then Opens role number answer) config before after

-- If the argument is `Some` peer that was dialed for an interrupt channel, the channel's socket is
-- closed. If it is `None`, nothing changes.
abbrev pub ClosesChannelOn : {W : Type 0} → (W → Heard → W → Type 0) → ℕ → Option Dial → Config → DriverView W → DriverView W → Type 0
ClosesChannelOn hears c None = Unchanged
ClosesChannelOn hears c (Some dial) = Hears hears (WasClosed (Intr c)) then Remembers c None

-- The socket of a connection's interrupt channel is closed, if the driver dialed a peer for the
-- channel.
abbrev pub ClosesChannel : {W : Type 0} → (W → Heard → W → Type 0) → ℕ → Config → DriverView W → DriverView W → Type 0
ClosesChannel hears c config before after = ClosesChannelOn hears c (dialed_of c before) config before after

-- A connection is closed, and with it its interrupt channel.
abbrev pub Closes : {W : Type 0} → (W → Heard → W → Type 0) → ℕ → Config → DriverView W → DriverView W → Type 0
Closes hears c = Hears hears (WasClosed (Conn c)) then ClosesChannel hears c then IsApplied (Close (Conn c))

-- If the flag is true, a connection is closed, and with it its interrupt channel.
abbrev pub ClosesIf : {W : Type 0} → (W → Heard → W → Type 0) → ℕ → Bool → Config → DriverView W → DriverView W → Type 0
ClosesIf hears c true = Closes hears c
ClosesIf hears c false = Unchanged

-- The bytes that were read on a connection are given to the server; if reading failed, the
-- connection is closed.
abbrev pub Comes : {W : Type 0} → (W → Heard → W → Type 0) → ℕ → Answer (List ℕ) → Config → DriverView W → DriverView W → Type 0
Comes hears c (Got bytes) = IsApplied (Bytes c bytes)
Comes hears c Pending = Unchanged
Comes hears c Failed = Closes hears c

-- how many bytes one read returns at most
abbrev pub longest_piece : ℕ
longest_piece = 16384

-- A connection is closed if the wire answered that the connection's peer is gone.
abbrev pub Drops : {W : Type 0} → (W → Heard → W → Type 0) → ℕ → Answer ⊤ → Config → DriverView W → DriverView W → Type 0
Drops hears c Failed = Closes hears c
Drops hears c answer = Unchanged

-- If the flag says that the connection is open: the driver asks the wire whether the connection's
-- peer is gone, and closes the connection if the peer is gone.
abbrev pub ProbesIf : {W : Type 0} → (W → Heard → W → Type 0) → ℕ → Bool → Config → DriverView W → DriverView W → Type 0
ProbesIf hears c false config before after = after ≡ before
ProbesIf hears c true config before after = (drops : Bool) × (answer : Answer ⊤) × IsOverlong c config before drops
    × (Hears hears (WasProbed c drops answer) then Drops hears c answer) config before after

-- An open connection without room isn't read. Instead the driver asks the wire whether the peer is
-- gone, and closes the connection if the peer is gone. Bytes that come after a record that is too
-- long are discarded.
abbrev pub Probes : {W : Type 0} → (W → Heard → W → Type 0) → ℕ → Config → DriverView W → DriverView W → Type 0
Probes hears c config before after = (opened : Bool) × IsOpen (Conn c) config before opened × ProbesIf hears c opened config before after

-- If a connection has room for at least one byte, it is read: at most `room` bytes, and at most
-- 16,384 bytes. If `room` is 0, the connection isn't read; if it is open, the driver asks the wire
-- whether its peer is gone (`Probes`).
abbrev pub ReadsUpTo : {W : Type 0} → (W → Heard → W → Type 0) → ℕ → ℕ → Config → DriverView W → DriverView W → Type 0
ReadsUpTo hears room c config before after = ((room ≡ 0) × Probes hears c config before after)
    ⊎ ((0 < room) × (answer : Answer (List ℕ)) × IsPiece answer (min room longest_piece)
    × (Hears hears (WasRead c (min room longest_piece) answer) then Comes hears c answer) config before after)

-- A connection is read: at most as many bytes as it has room for.
abbrev pub ReadsFrom : {W : Type 0} → (W → Heard → W → Type 0) → ℕ → Config → DriverView W → DriverView W → Type 0
ReadsFrom hears c config before after = (room : ℕ) × HasRoom c config before room × ReadsUpTo hears room c config before after

-- If the flag is true, the next call of a connection is refused with error 9.
abbrev pub RefusesIf : {W : Type 0} → ℕ → Bool → Config → DriverView W → DriverView W → Type 0
RefusesIf c true = IsApplied (Refuse c)
RefusesIf c false = Unchanged

-- If memory is refused for the call of a Turn, the call is answered with error 9, and its
-- connection stays open.
abbrev pub EndsTurn : {W : Type 0} → ℕ → Result Did Refused → Config → DriverView W → DriverView W → Type 0
EndsTurn c (Ok did) = Unchanged
EndsTurn c (Err refused) = RefusesIf c (is_no_memory refused)

-- If the flag says that there is a call to take, the server is given a Turn.
abbrev pub TurnsIf : {W : Type 0} → ℕ → Bool → Config → DriverView W → DriverView W → Type 0
TurnsIf c false config before after = after ≡ before
TurnsIf c true config before after = (result : Result Did Refused) × (Given (Turn c) result then EndsTurn c result) config before after

-- If there is a call to take on a connection, the server is given a Turn of this connection.
abbrev pub Turns : {W : Type 0} → ℕ → Config → DriverView W → DriverView W → Type 0
Turns c config before after = (ready : Bool) × IsReady c config before ready × TurnsIf c ready config before after

-- whether the peer that was dialed is the one to which the channel has to be connected
abbrev pub is_wanted : Dial → Option Dial → Bool
is_wanted dialed (Some wanted) = (dialed.addr == wanted.addr) && (dialed.port == wanted.port)
is_wanted dialed None = false

-- If the flag is true, the driver keeps the socket of the peer that it dialed; if the flag is
-- false, the socket is closed.
abbrev pub KeepsDial : {W : Type 0} → (W → Heard → W → Type 0) → ℕ → Bool → Config → DriverView W → DriverView W → Type 0
KeepsDial hears c true = Unchanged
KeepsDial hears c false = ClosesChannel hears c

-- The socket of a dialed peer is closed, unless the interrupt channel is open or still has to be
-- connected to this peer.
abbrev pub CancelsUnwanted : {W : Type 0} → (W → Heard → W → Type 0) → ℕ → Option Dial → Config → DriverView W → DriverView W → Type 0
CancelsUnwanted hears c None config before after = after ≡ before
CancelsUnwanted hears c (Some dialed) config before after = (channel : Bool) × (wanted : Option Dial) × IsOpen
    (Intr c) config before channel
    × Wants c config before wanted × KeepsDial hears c (channel || is_wanted dialed wanted) config before after

-- The socket of the peer that was dialed for a connection's interrupt channel is closed, unless the
-- channel is open or still has to be connected to this peer.
abbrev pub LetsGo : {W : Type 0} → (W → Heard → W → Type 0) → ℕ → Config → DriverView W → DriverView W → Type 0
LetsGo hears c config before after = CancelsUnwanted hears c (dialed_of c before) config before after

-- What follows the wire's answer to dialing a peer. If the peer is connected, the driver records
-- that it dialed this peer, and tells the server that the peer is connected. If the peer hasn't
-- answered yet, the driver only records that it dialed this peer. If the peer can't be reached, the
-- driver tells the server that connecting failed.
abbrev pub ConnectResult : {W : Type 0} → ℕ → Dial → Answer ⊤ → Config → DriverView W → DriverView W → Type 0
ConnectResult c dial (Got all) = Remembers c (Some dial) then IsApplied (Dialed c true)
ConnectResult c dial Pending = Remembers c (Some dial)
ConnectResult c dial Failed = IsApplied (Dialed c false)

-- What follows the wire's answer about a peer that was dialed before. If the peer is connected, the
-- server is told so. If the peer still hasn't answered, nothing changes. If the peer can't be
-- reached, its socket is closed, and the server is told that connecting failed.
abbrev pub PollResult : {W : Type 0} → (W → Heard → W → Type 0) → ℕ → Answer ⊤ → Config → DriverView W → DriverView W → Type 0
PollResult hears c (Got all) = IsApplied (Dialed c true)
PollResult hears c Pending = Unchanged
PollResult hears c Failed = ClosesChannel hears c then IsApplied (Dialed c false)

-- If a channel has to be connected: its peer is dialed; or, if a peer was dialed already, the
-- driver asks the wire whether that peer has answered.
abbrev pub DialsFor : {W : Type 0} → (W → Heard → W → Type 0) → ℕ → Option Dial → Option Dial → Config → DriverView W → DriverView W
    → Type 0
DialsFor hears c None dialed config before after = after ≡ before
DialsFor hears c (Some dial) None config before after =
    (answer : Answer ⊤) × (Hears hears (WasDialed c dial answer) then ConnectResult c dial answer) config before after
DialsFor hears c (Some dial) (Some dialed) config before after =
    (answer : Answer ⊤) × (Hears hears (PeerAnswered c answer) then PollResult hears c answer) config before after

-- If a connection's interrupt channel has to be connected: its peer is dialed; or, if a peer was
-- dialed already, the driver asks the wire whether that peer has answered.
abbrev pub Connects : {W : Type 0} → (W → Heard → W → Type 0) → ℕ → Config → DriverView W → DriverView W → Type 0
Connects hears c config before after =
    (wanted : Option Dial) × Wants c config before wanted × DialsFor hears c wanted (dialed_of c before) config before after

-- If a peer was dialed, its socket is closed, unless the interrupt channel is open or still has to
-- be connected to this peer. Then, if the channel has to be connected: its peer is dialed; or, if
-- it was dialed already, the driver asks the wire whether this peer has answered.
abbrev pub Dials : {W : Type 0} → (W → Heard → W → Type 0) → ℕ → Config → DriverView W → DriverView W → Type 0
Dials hears c = LetsGo hears c then Connects hears c

-- A port is closed: a connection with its interrupt channel, or an interrupt channel alone.
abbrev pub BreaksOff : {W : Type 0} → (W → Heard → W → Type 0) → Port → Config → DriverView W → DriverView W → Type 0
BreaksOff hears (Conn c) = Closes hears c
BreaksOff hears (Intr c) = ClosesChannel hears c then IsApplied (Close (Intr c))

-- The server is told how many bytes the wire took, and removes these bytes from its output. If the
-- write failed, the port is closed.
abbrev pub EndsWrite : {W : Type 0} → (W → Heard → W → Type 0) → Port → Answer ℕ → Config → DriverView W → DriverView W → Type 0
EndsWrite hears port (Got n) = IsApplied (Took port n)
EndsWrite hears port Pending = Unchanged
EndsWrite hears port Failed = BreaksOff hears port

-- If there are any bytes, they are passed to the wire in one write.
abbrev pub WritesAll : {W : Type 0} → (W → Heard → W → Type 0) → Port → List ℕ → Config → DriverView W → DriverView W → Type 0
WritesAll hears port bytes config before after = ((bytes ≡ []) × (after ≡ before))
    ⊎ ((0 < length bytes) × (answer : Answer ℕ) × IsWithin answer (length bytes)
    × (Hears hears (WasWritten port bytes answer) then EndsWrite hears port answer) config before after)

-- All bytes that wait on a port are passed to the wire in one write.
abbrev pub WritesTo : {W : Type 0} → (W → Heard → W → Type 0) → Port → Config → DriverView W → DriverView W → Type 0
WritesTo hears port config before after =
    (bytes : List ℕ) × Waits port config before bytes × WritesAll hears port bytes config before after

-- The connection is closed if both hold: the flag says that the connection is at fault; and no
-- bytes wait to be sent on it.
abbrev pub EndsIf : {W : Type 0} → (W → Heard → W → Type 0) → ℕ → Bool → Config → DriverView W → DriverView W → Type 0
EndsIf hears c false config before after = after ≡ before
EndsIf hears c true config before after =
    (bytes : List ℕ) × Waits (Conn c) config before bytes × ClosesIf hears c (length bytes == 0) config before after

-- A connection is closed if both hold: the server says that the connection is at fault; and no
-- bytes wait to be sent on it.
abbrev pub Ends : {W : Type 0} → (W → Heard → W → Type 0) → ℕ → Config → DriverView W → DriverView W → Type 0
Ends hears c config before after =
    (faulted : Bool) × IsFaulted c config before faulted × EndsIf hears c faulted config before after
