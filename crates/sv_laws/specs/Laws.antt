-- Laws of the whole specification: a history has one log; which events are never refused; how calls
-- are answered; and what time changes.
use Rattle.std.specs.Prelude.{◌≡◌, ◌⊎◌, ℕ, ◌+◌, ◌<◌, ◌≤◌, Bool, true, false, List, ◌∷◌, ◌++◌, length, take, drop, filter, replicate, Some, None, is_some, Result, Ok, Err, ⊤}
use Rattle.sv_rpc.specs.declared.call.CallFault.TheVariants.{BadHeader}
use Rattle.sv_rpc.specs.Call.{call_at}
use Rattle.sv_links.specs.declared.waiting.Wait.{Wait}
use Rattle.sv_links.specs.Channels.{ChannelAct}
use Rattle.sv_links.specs.Waiting.{waits, IsExpired}
use Rattle.sv_history.specs.declared.event.Config.{Config}
use Rattle.sv_history.specs.declared.event.Dial.{Dial}
use Rattle.sv_history.specs.declared.event.Did.{Did}
use Rattle.sv_history.specs.declared.event.Did.TheVariants.{Done}
use Rattle.sv_history.specs.declared.event.Refused.{Refused}
use Rattle.sv_history.specs.Event.{PlainEvent, Open, Bytes, Turn, Took, Close, Dialed, Tick, Input, External, port_number}
use Rattle.sv_history.specs.Act.{Act, ConnAct, CallTaken, Faulted, Replied, Ticked, OnDevice, of, device_acts, wait_acts, ticks}
use Rattle.sv_history.specs.Connection.{is_open, acts_since_opening, next_call, room, waiting_on, records_ended, pending_call}
use Rattle.sv_history.specs.Interrupts.{dial_of}
use Rattle.sv_history.specs.Requests.{HearsOf}
use Rattle.sv_history.specs.Settling.{CanResume}
use Rattle.sv_history.specs.Still.{IsStill}
use Rattle.sv_history.specs.History.{is_port_shut, input_refusal, last_clock, IsLogOf, Answers}

-- A history has at most one log.
abbrev pub OneLog : Type 0
OneLog = (config : Config) (history : List PlainEvent) (a b : List Act) → IsLogOf config history a → IsLogOf config history b → a ≡ b

-- If nothing becomes due within `most` milliseconds, that many ticks change only the clock: the log
-- gains only the acts of the ticks. A premise is that after these ticks the clock isn't past its
-- last value.
abbrev pub TimeOnlyCounts : Type 0
TimeOnlyCounts = (config : Config) (history : List PlainEvent) (log : List Act) (most : ℕ) → IsLogOf config history log
    → IsStill most config (device_acts log) → config.clock + ticks (device_acts log) + most ≤ last_clock
    → IsLogOf config (replicate most Tick ++ history) (replicate most (OnDevice Ticked) ++ log)

-- Between two events no suspended call is past its deadline, and no suspended call can resume
-- (VXI-11 revision 1.0, section B.4.4).
abbrev pub NoneLate : Type 0
NoneLate = (config : Config) (history : List PlainEvent) (log : List Act) (c : ℕ) → IsLogOf config history log
    → (IsExpired (config.clock + ticks (device_acts log)) (wait_acts (device_acts log)) c → ⊥) × (CanResume (device_acts log) c → ⊥)

-- The server's queries (its methods `is_open`, `room`, `waiting` and `dial`) allow this event by
-- their answers: an Open of a free number; Bytes that fit the room of a connection, if the room
-- isn't 0; a Took of at most as many bytes as wait, if any bytes wait; a Close of an open port; or
-- a Dialed while a create_intr_chan waits for its peer. Or the event is an Input that isn't
-- refused, or the external trigger.
abbrev pub Suits : PlainEvent → List ChannelAct → List Act → Type 0
Suits (Open c role) channel_log log = (c < 16) × (is_open (of c log) ≡ false)
Suits (Bytes c piece) channel_log log = (c < 16) × (0 < room (of c log)) × (length piece ≤ room (of c log))
Suits (Took port n) channel_log log = (port_number port < 16) × (0 < length (waiting_on channel_log port log))
    × (n ≤ length (waiting_on channel_log port log))
Suits (Close port) channel_log log = is_port_shut port log ≡ false
Suits (Dialed c ok) channel_log log = (c < 16) × (dial : Dial) × (dial_of c log ≡ Some dial)
Suits (Input channel microvolts) channel_log log = input_refusal channel microvolts ≡ None
Suits External channel_log log = ⊤
Suits _ channel_log log = ⊥

-- An event that the answers of the server's queries allow (`Suits`) is never refused.
abbrev pub NothingLost : Type 0
NothingLost = (config : Config) (history : List PlainEvent) (event : PlainEvent) (channel_log : List ChannelAct) (log : List Act)
    (result : Result Did Refused) → IsLogOf config history log → HearsOf (device_acts log) channel_log → Suits event channel_log log
    → Answers config event log result → result ≡ Ok Done

-- how many calls were taken on a connection since it opened
abbrev pub calls_taken : List ConnAct → ℕ
calls_taken acts = length (filter (elim [ CallTaken call ↦ true | _ ↦ false ]) (acts_since_opening acts))

-- 1 for true, 0 for false
abbrev pub one_if : Bool → ℕ
one_if true = 1
one_if false = 0

-- Two numbers are equal, both counted since the connection opened. One counts the records that were
-- taken on the connection. The other counts the records that were answered or turned out not to be
-- calls, plus one if a call of the connection is suspended.
abbrev pub IsPaid : ℕ → List Act → Type 0
IsPaid c log = calls_taken (of c log) ≡ records_ended (of c log) + one_if (is_some (waits c (wait_acts (device_acts log))))

-- Since a connection opened, each call that was taken on it was either answered exactly once, or is
-- suspended. This is a count; which reply answers which call is said by `RepliesMatch`.
abbrev pub EachAnswered : Type 0
EachAnswered = (config : Config) (history : List PlainEvent) (log : List Act) (c : ℕ) → IsLogOf config history log → IsPaid c log

-- The reply has the call's xid: the four bytes after the reply's record mark are the first four
-- bytes of the call (RFC 5531, sections 9 and 11).
abbrev pub HasXidOf : List ℕ → List ℕ → Type 0
HasXidOf call reply = (4 ≤ length call) × (take 4 (drop 4 reply) ≡ take 4 call)

-- Each reply answers the call that was unanswered until then, and has that call's xid.
abbrev pub RepliesMatch : Type 0
RepliesMatch = (config : Config) (history : List PlainEvent) (log : List Act) (c : ℕ) (newer older : List ConnAct) (reply : List ℕ)
    → IsLogOf config history log → of c log ≡ newer ++ Replied reply ∷ older
    → (call : List ℕ) × (pending_call older ≡ Some call) × HasXidOf call reply

-- A Turn takes a record. If the record isn't a call, the connection is at fault and nothing is
-- replied. If the record is a call, it is answered, or it is suspended and can't resume yet (VXI-11
-- revision 1.0, section B.4.4).
abbrev pub TurnAnswered : Type 0
TurnAnswered = (config : Config) (history : List PlainEvent) (before log : List Act) (c : ℕ) (call : List ℕ) → IsLogOf config history before
    → IsLogOf config (Turn c ∷ history) log → next_call (of c before) ≡ Some call
    → ((call_at call ≡ Err BadHeader) × (of c log ≡ Faulted ∷ CallTaken call ∷ of c before))
    ⊎ ((call_at call ≡ Err BadHeader → ⊥) × (((reply : List ℕ) × (of c log ≡ Replied reply ∷ CallTaken call ∷ of c before))
    ⊎ ((of c log ≡ CallTaken call ∷ of c before) × (wait : Wait) × (waits c (wait_acts (device_acts log)) ≡ Some wait)
    × (CanResume (device_acts log) c → ⊥))))
