-- One query at a time: write it, read its response to the end, and the answer is right (IEEE 488.2,
-- 6.1 and 6.3; VXI-11 revision 1.0, section B.6, device_write and device_read).
use Rattle.std.specs.Prelude.{◌≡◌, ◌≢◌, ◌↔◌, ◌==◌, ⊤, ℕ, ◌+◌, ◌<◌, ◌≤◌, pos, Bool, true, false, filter, List, [], ◌∷◌, ◌++◌, length, drop, map, replicate, Option, Some, None, is_some, Ok, codes}
use Rattle.std.specs.Int.{bit_at}
use Rattle.std.specs.List.{AllByRecursion}
use Rattle.sv_errors.specs.declared.code.Code.{Code}
use Rattle.sv_errors.specs.declared.code.Code.TheVariants.{QueryInterrupted, QueryUnterminated, QueryDeadlocked}
use Rattle.sv_vxi.specs.declared.error_code.ErrorCode.TheVariants.{NoError}
use Rattle.sv_vxi.specs.Arguments.{LinkCall, DeviceWrite, DeviceRead, OnLink}
use Rattle.sv_vxi.specs.Results.{Size, Read}
use Rattle.sv_links.specs.Links.{owner, holder, is_locked_out}
use Rattle.sv_header.specs.declared.command.Question.{Question}
use Rattle.sv_header.specs.declared.command.Question.TheVariants as question
use Rattle.sv_exchange.specs.Exchange.{ExchangeAct, Byte, End, text, messages, messages_finished, response, units}
use Rattle.sv_exchange.specs.Limits.{max_message, max_read}
use Rattle.sv_layers.specs.Act.{Act as InstrumentAct, Reported, Scanned, queue_acts}
use Rattle.sv_layers.specs.declared.change.Awaited.{Awaited}
use Rattle.sv_layers.specs.declared.change.Awaited.TheVariants.{Nothing, One, Readings}
use Rattle.sv_layers.specs.Condition.{effective_acts, is_idle}
use Rattle.sv_layers.specs.Standard.{Stands}
use Rattle.sv_scan.specs.Counted.{read_fault}
use Rattle.sv_scan.specs.declared.acts.ScanAct.TheVariants.{Init}
use Rattle.sv_scan.specs.Scan.{readings}
use Rattle.sv_header.specs.declared.command.Action.TheVariants as action
use Rattle.sv_instrument.specs.declared.command.order.Order.{Order}
use Rattle.sv_instrument.specs.declared.command.order.Order.TheVariants as order
use Rattle.sv_instrument.specs.Command.Unit.{IsReadAs}
use Rattle.sv_instrument.specs.HeldUnit.{held_unit}
use Rattle.sv_instrument.specs.QueryResponse.{Says, readings_text}
use Rattle.sv_instrument.specs.CommandEffect.{question_fault}
use Rattle.sv_history.specs.declared.event.Port.TheVariants.{Conn}
use Rattle.sv_history.specs.declared.event.Config.{Config}
use Rattle.sv_history.specs.Event.{PlainEvent, Open, Turn, Refuse, Close, Dialed}
use Rattle.sv_history.specs.Act.{Act, ConnAct, CallTaken, Replied, of, device_acts, link_acts, instrument_acts, exchange_acts, ticks}
use Rattle.sv_history.specs.Connection.{next_call}
use Rattle.sv_history.specs.Request.{CoreRequest, next_request}
use Rattle.sv_history.specs.Effect.{result_reply}
use Rattle.sv_history.specs.CoreChannel.{term_of}
use Rattle.sv_history.specs.History.{IsLogOf}
use Rattle.sv_laws.specs.Adding.{all_replies}
use Rattle.sv_laws.specs.Isolation.{own_events, IsLocked}

-- Message exchange is at rest: all text was executed, so that the current message is empty and
-- hasn't ended; and there is no response to read. (Then no unit is held.)
pub record IsAtRest (acts : List ExchangeAct) : Type 0 where
  pub text_left : drop (messages_finished acts) (messages (text acts)) ≡ [] ∷ []
  pub none_left : response acts ≡ []

-- The data of a write with END is one message, whose only unit is this query; new lines may follow
-- the message. The unit is read as the query, without an error.
pub record IsQuery (query : Order) (sent : List ℕ) : Type 0 where
  pub message : List ℕ
  pub lines : ℕ
  pub unit : List ℕ
  pub path : List (List ℕ)
  pub cut : messages (map Byte sent ++ End ∷ []) ≡ message ∷ [] ∷ replicate lines []
  pub one : units message ≡ unit ∷ []
  pub reads : IsReadAs [] unit (Ok query) path

-- The next call of a connection is this call on this link.
pub record NextIs (lid : ℕ) (call : LinkCall) (acts : List ConnAct) : Type 0 where
  pub xid : ℕ
  pub bytes : List ℕ
  pub next : next_call acts ≡ Some bytes
  pub asks : next_request acts ≡ Some (CoreRequest (record { xid = xid; arguments = OnLink (pos lid) call }))

-- The event is no Turn, no Refuse, no Dialed, no Close of a connection, and no Open of this
-- connection. So bytes may come and be taken, inputs be set, triggers come, and time pass.
abbrev pub IsQuiet : ℕ → PlainEvent → Type 0
IsQuiet c (Open d role) = d ≢ c
IsQuiet c (Turn d) = ⊥
IsQuiet c (Refuse d) = ⊥
IsQuiet c (Dialed d ok) = ⊥
IsQuiet c (Close (Conn d)) = ⊥
IsQuiet c _ = ⊤

-- The termination character of a read isn't in the answer: there is none, or it is the new line,
-- and the answer has no new line.
abbrev pub EndsAt : Option ℕ → List ℕ → Type 0
EndsAt None answer = ⊤
EndsAt (Some term) answer = (term ≡ 10) × AllByRecursion (λ b. b ≢ 10) answer

-- One read with this termination character, for at most `most` bytes, can return the answer and a
-- new line.
abbrev pub OneRead : Option ℕ → ℕ → List ℕ → Type 0
OneRead term most answer = (length answer < most) × (length answer < max_read) × EndsAt term answer

-- After the history `past`, the connection owns the link, and no other link holds the lock. The
-- next call is a write with END of this query.
pub record Writes (c lid : ℕ) (query : Order) (sent : List ℕ) (config : Config) (past : List PlainEvent) (start : List Act) : Type 0 where
  pub io_timeout : ℕ
  pub lock_timeout : ℕ
  pub flags : ℕ
  pub was : IsLogOf config past start
  pub owns : owner lid (link_acts (device_acts start)) ≡ Some c
  pub unlocked : is_locked_out (holder (link_acts (device_acts start))) (Some lid) ≡ false
  pub call : NextIs lid (DeviceWrite io_timeout lock_timeout flags sent) (of c start)
  pub ends : bit_at flags 3 ≡ 1
  pub short : length sent ≤ max_message
  pub query_sent : IsQuery query sent

-- After the Turn that takes the write, and quiet events, the next call is a read of at most `most`
-- bytes.
pub record Reads (c lid most : ℕ) (config : Config) (past between : List PlainEvent) (before : List Act) : Type 0 where
  pub timeout : ℕ
  pub lock_timeout : ℕ
  pub flags : ℕ
  pub term_char : ℕ
  pub quiet : AllByRecursion (IsQuiet c) between
  pub went_on : IsLogOf config (between ++ Turn c ∷ past) before
  pub call : NextIs lid (DeviceRead most timeout lock_timeout flags term_char) (of c before)

-- The connection writes a query, which can be answered, with this answer, and then reads. One read
-- can return the answer and a new line.
pub record AsksAlone (c lid : ℕ) (asked : Question) (sent answer : List ℕ) (most : ℕ) (config : Config) (past between : List PlainEvent)
    (start before : List Act) : Type 0 where
  pub writes : Writes c lid (order.Ask asked) sent config past start
  pub reads : Reads c lid most config past between before
  pub can : question_fault asked (instrument_acts (device_acts start)) ≡ None
  pub says : Says asked (instrument_acts (device_acts start)) answer
  pub fits : OneRead (term_of reads.flags reads.term_char) most answer

-- the errors that were reported, the newest first
abbrev pub reported : List InstrumentAct → List Code
reported [] = []
reported (Reported code ∷ log) = code ∷ reported log
reported (_ ∷ log) = reported log

-- No error was reported from one log of the instrument to the next, and no standard event occurred.
-- Only the queries `SYSTem:ERRor?` and `*ESR?` change the error queue and the standard events.
pub record NoneReported (asked : Question) (log new : List InstrumentAct) : Type 0 where
  pub none : reported new ≡ reported log
  pub errors : asked ≢ question.Error → queue_acts new ≡ queue_acts log
  pub standard : asked ≢ question.StandardEvents → (k : ℕ) → Stands k new ↔ Stands k log

-- the reply to the write: no error, and the size of all that was sent
abbrev pub write_reply : ℕ → List ℕ → List ℕ
write_reply xid sent = result_reply xid (Size NoError (length sent))

-- The reply to the read: no error, and exactly the answer and a new line, with the reason END. (The
-- count and the termination character are reasons too, if they apply.)
abbrev pub read_reply : ℕ → List ℕ → ℕ → Option ℕ → List ℕ
read_reply xid answer most term = result_reply xid (Read NoError (record {
  request_count = length answer + 1 == most;
  character = is_some term;
  end = true;
}) (answer ++ 10 ∷ []))

-- The write and the read are answered so. After the read message exchange is at rest again. Neither
-- Turn reports an error.
pub record IsAnswered (c lid : ℕ) (asked : Question) (sent answer : List ℕ) (most : ℕ) (config : Config) (past between : List PlainEvent)
    (start before log : List Act) (asks : AsksAlone c lid asked sent answer most config past between start before) : Type 0 where
  pub written : List Act
  pub is_log : IsLogOf config (Turn c ∷ past) written
  pub write_told : of c written ≡ Replied (write_reply asks.writes.call.xid sent) ∷ CallTaken asks.writes.call.bytes ∷ of c start
  pub read_told : of c log ≡ Replied (read_reply asks.reads.call.xid answer most (term_of asks.reads.flags asks.reads.term_char))
      ∷ CallTaken asks.reads.call.bytes ∷ of c before
  pub rest : IsAtRest (exchange_acts (device_acts log))
  pub write_reports : NoneReported asked (instrument_acts (device_acts start)) (instrument_acts (device_acts written))
  pub read_reports : NoneReported asked (instrument_acts (device_acts before)) (instrument_acts (device_acts log))

-- If message exchange is at rest, a connection asks a query alone (`AsksAlone`), and neither Turn
-- is refused, the query is answered.
abbrev pub QueryAlone : Type 0
QueryAlone = (c lid : ℕ) (asked : Question) (sent answer : List ℕ) (most : ℕ) (config : Config) (past between : List PlainEvent)
    (start before log : List Act) → IsAtRest (exchange_acts (device_acts start))
    → (asks : AsksAlone c lid asked sent answer most config past between start before)
    → IsLogOf config (Turn c ∷ (between ++ Turn c ∷ past)) log
    → IsAnswered c lid asked sent answer most config past between start before log asks

-- The write and the read were answered, the read with exactly this answer and a new line, and
-- nothing else was sent on the connection. Message exchange is at rest again, and no error was
-- reported.
pub record IsTold (c : ℕ) (sent answer : List ℕ) (most : ℕ) (term : Option ℕ) (write_xid read_xid : ℕ) (start log : List Act) : Type 0 where
  pub told : all_replies (of c log) ≡ all_replies (of c start) ++ (write_reply write_xid sent ++ read_reply read_xid answer most term)
  pub rest : IsAtRest (exchange_acts (device_acts log))
  pub none : reported (instrument_acts (device_acts log)) ≡ reported (instrument_acts (device_acts start))

-- While the connection's link holds the lock (`IsLocked`), other connections may do anything. If
-- the connection's own events are those of a query that is asked alone, the query is answered, and
-- after all events together this holds (`IsTold`).
abbrev pub QueryLocked : Type 0
QueryLocked = (c lid : ℕ) (asked : Question) (sent answer : List ℕ) (most : ℕ) (config : Config) (past between events : List PlainEvent)
    (start before log : List Act) → IsAtRest (exchange_acts (device_acts start))
    → (asks : AsksAlone c lid asked sent answer most config past between start before) → IsLocked c lid config past events
    → own_events c events ≡ Turn c ∷ (between ++ Turn c ∷ []) → IsLogOf config (events ++ past) log
    → IsTold c sent answer most (term_of asks.reads.flags asks.reads.term_char) asks.writes.call.xid asks.reads.call.xid start log

-- ---- queries that wait for the end of the measurement

-- what a query answers when the measurement ends; `None` if the order isn't one of `READ?`,
-- `MEASure?` and `*OPC?`
abbrev pub holds : Order → Option Awaited
holds (order.Do action.Read) = Some Readings
holds (order.Do action.WaitAndTell) = Some One
holds (order.Measure list) = Some Readings
holds _ = None

-- why the query is refused: -214 if `READ?` comes while the trigger source is the bus
abbrev pub hold_fault : Order → List InstrumentAct → Option Code
hold_fault (order.Do action.Read) log = read_fault (effective_acts log)
hold_fault _ log = None

-- the answer, given the log at the end of the measurement
abbrev pub held_answer : Awaited → List InstrumentAct → List ℕ
held_answer Nothing log = []
held_answer One log = codes "1"
held_answer Readings log = readings_text (readings (effective_acts log))

-- The connection writes a query that waits for the end of the measurement, and then reads. Quiet
-- events `later` follow the Turn that takes the read, and the read's timeout hasn't come.
pub record AsksHeld (c lid : ℕ) (query : Order) (what : Awaited) (sent : List ℕ) (most : ℕ) (config : Config)
    (past between later : List PlainEvent) (start before log : List Act) : Type 0 where
  pub writes : Writes c lid query sent config past start
  pub reads : Reads c lid most config past between before
  pub waits : holds query ≡ Some what
  pub can : hold_fault query (instrument_acts (device_acts start)) ≡ None
  pub still_quiet : AllByRecursion (IsQuiet c) later
  pub is_log : IsLogOf config (later ++ Turn c ∷ (between ++ Turn c ∷ past)) log
  pub in_time : ticks (device_acts log) < ticks (device_acts before) + reads.timeout

-- A moment after `start`, the instrument's log before the write, at which the unit is held and no
-- measurement is under way: there the unit ends. If it answers with readings, a measurement was
-- initiated since `start`.
pub record UnitEnd (what : Awaited) (start log : List InstrumentAct) : Type 0 where
  pub done : List InstrumentAct
  pub newer : List InstrumentAct
  pub more : List InstrumentAct
  pub within : log ≡ more ++ done
  pub since : done ≡ newer ++ start
  pub began : what ≡ Readings → (later earlier : List InstrumentAct) × (newer ≡ later ++ Scanned Init ∷ earlier)
  pub held : held_unit done ≡ Some what
  pub idle : is_idle done ≡ true

-- The query's unit ended. If one read can return the answer that this moment gives, the query was
-- answered with it.
pub record IsHeldAnswered (c : ℕ) (what : Awaited) (sent : List ℕ) (most : ℕ) (term : Option ℕ) (write_xid read_xid : ℕ)
    (start log : List Act) : Type 0 where
  pub end : UnitEnd what (instrument_acts (device_acts start)) (instrument_acts (device_acts log))
  pub told : OneRead term most (held_answer what end.done) → IsTold c sent (held_answer what end.done) most term write_xid read_xid start
      log

-- A query that waits for the end of the measurement is answered as soon as no measurement is under
-- way, if the read doesn't time out before.
abbrev pub HeldAlone : Type 0
HeldAlone = (c lid : ℕ) (query : Order) (what : Awaited) (sent : List ℕ) (most : ℕ) (config : Config) (past between later : List PlainEvent)
    (start before log : List Act) → IsAtRest (exchange_acts (device_acts start))
    → (asks : AsksHeld c lid query what sent most config past between later start before log)
    → is_idle (instrument_acts (device_acts log)) ≡ true
    → IsHeldAnswered c what sent most (term_of asks.reads.flags asks.reads.term_char) asks.writes.call.xid asks.reads.call.xid start log

-- The same while the connection's link holds the lock, and other connections do anything: if the
-- connection's own events are those of such a query, it is answered so after all events together.
abbrev pub HeldLocked : Type 0
HeldLocked = (c lid : ℕ) (query : Order) (what : Awaited) (sent : List ℕ) (most : ℕ) (config : Config)
    (past between later events : List PlainEvent) (start before own log : List Act) → IsAtRest (exchange_acts (device_acts start))
    → (asks : AsksHeld c lid query what sent most config past between later start before own)
    → is_idle (instrument_acts (device_acts own)) ≡ true → IsLocked c lid config past events
    → own_events c events ≡ later ++ Turn c ∷ (between ++ Turn c ∷ []) → IsLogOf config (events ++ past) log
    → IsHeldAnswered c what sent most (term_of asks.reads.flags asks.reads.term_char) asks.writes.call.xid asks.reads.call.xid start log

-- ---- one message after the other

-- whether an order is a command that doesn't wait for the end of the measurement
abbrev pub is_command : Order → Bool
is_command (order.Ask asked) = false
is_command (order.Measure list) = false
is_command (order.Do action.Wait) = false
is_command (order.Do action.WaitAndTell) = false
is_command (order.Do action.Read) = false
is_command _ = true

-- The history is `past` and then rounds: a connection sends commands, and queries whose response it
-- reads, one after the other. Between them only quiet events come. For a query that waits, the
-- measurement ended in time, and one read can return the answer.
pub data Rounds (c lid : ℕ) (config : Config) (past : List PlainEvent) : List PlainEvent → Type 0 where
  Start : Rounds c lid config past past
  Quiet : {history : List PlainEvent} (event : PlainEvent) → IsQuiet c event → Rounds c lid config past history
      → Rounds c lid config past (event ∷ history)
  Command : {history : List PlainEvent} (command : Order) (sent : List ℕ) (start : List Act) → is_command command ≡ true
      → Writes c lid command sent config history start → Rounds c lid config past history → Rounds c lid config past (Turn c ∷ history)
  Asked : {history : List PlainEvent} (asked : Question) (sent answer : List ℕ) (most : ℕ) (between : List PlainEvent)
      (start before : List Act) → AsksAlone c lid asked sent answer most config history between start before
      → Rounds c lid config past history → Rounds c lid config past (Turn c ∷ (between ++ Turn c ∷ history))
  Held : {history : List PlainEvent} (query : Order) (what : Awaited) (sent : List ℕ) (most : ℕ) (between later : List PlainEvent)
      (start before log : List Act) → (asks : AsksHeld c lid query what sent most config history between later start before log)
      → is_idle (instrument_acts (device_acts log)) ≡ true
      → ((end : UnitEnd what (instrument_acts (device_acts start)) (instrument_acts (device_acts log)))
      → OneRead (term_of asks.reads.flags asks.reads.term_char) most (held_answer what end.done))
      → Rounds c lid config past history → Rounds c lid config past (later ++ Turn c ∷ (between ++ Turn c ∷ history))

-- whether an error is a query error: -410 (Query INTERRUPTED), -420 (Query UNTERMINATED) or -430
-- (Query DEADLOCKED)
abbrev pub is_query_error : Code → Bool
is_query_error QueryInterrupted = true
is_query_error QueryUnterminated = true
is_query_error QueryDeadlocked = true
is_query_error _ = false

-- the query errors that were reported
abbrev pub query_errors : List InstrumentAct → List Code
query_errors log = filter is_query_error (reported log)

-- Message exchange is at rest, and no query error was reported since `start`.
abbrev pub NoneSince : List Act → List Act → Type 0
NoneSince start log = IsAtRest (exchange_acts (device_acts log))
    × (query_errors (instrument_acts (device_acts log)) ≡ query_errors (instrument_acts (device_acts start)))

-- A controller that reads each response to its end before it writes again never gets a query error.
-- Message exchange is at rest before the rounds, and so it is after them.
abbrev pub NoQueryError : Type 0
NoQueryError = (c lid : ℕ) (config : Config) (past history : List PlainEvent) (start log : List Act) → IsLogOf config past start
    → IsAtRest (exchange_acts (device_acts start)) → Rounds c lid config past history → IsLogOf config history log → NoneSince start log

-- The same while the connection's link holds the lock, and other connections do anything: the
-- connection's own events are such rounds.
abbrev pub NoQueryErrorLocked : Type 0
NoQueryErrorLocked = (c lid : ℕ) (config : Config) (past events : List PlainEvent) (start log : List Act) → IsLogOf config past start
    → IsAtRest (exchange_acts (device_acts start)) → IsLocked c lid config past events
    → Rounds c lid config past (own_events c events ++ past) → IsLogOf config (events ++ past) log → NoneSince start log
