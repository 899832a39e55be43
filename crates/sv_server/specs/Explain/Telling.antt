-- What is told of an event: the call that it takes, and the steps that follow, each with its line
-- and the lines of what it changed.
use Rattle.std.specs.Prelude.{◌≡◌, ◌⊎◌, ◌+◌, ℕ, zero, suc, true, false, List, [], ◌∷◌, ◌++◌, Option, Some, None, Result, Ok, Err, ⊤}
use Rattle.std.specs.Option.{option_map_or}
use Rattle.sv_print.specs.TakenByWriter.{IsFront}
use Rattle.sv_links.specs.Waiting.{IsExpired, IsOldest}
use Rattle.sv_instrument.specs.Looking.{IsDue, IsNoneDue, is_fire_due}
use Rattle.sv_history.specs.declared.event.Config.{Config}
use Rattle.sv_history.specs.declared.event.Did.{Did}
use Rattle.sv_history.specs.declared.event.Refused.{Refused}
use Rattle.sv_history.specs.Event.{PlainEvent, Bytes, Turn, Refuse, Tick}
use Rattle.sv_history.specs.Act.{Act, On, Piece, of, device_acts, wait_acts, instrument_acts, ticks}
use Rattle.sv_history.specs.Connection.{next_call}
use Rattle.sv_history.specs.PolledStatus.{IsPolled}
use Rattle.sv_history.specs.Settling.{CanResume, IsNext, IsSettled}
use Rattle.sv_history.specs.Still.{IsStill}
use Rattle.sv_history.specs.History.{own_acts}
use Rattle.sv_explain.specs.declared.shown.Shown.{Shown}
use Rattle.sv_explain.specs.declared.shown.ConnShown.{ConnShown}
use Rattle.sv_explain.specs.declared.step.Due.{Due}
use Rattle.sv_explain.specs.declared.step.Due.TheVariants.{Nothing, Fire, Resume, Exchange, TimeOut}
use Rattle.sv_explain.specs.Shown.{IsConn, IsShown}
use Rattle.sv_explain.specs.Changes.{changes, conn_lines}
use Rattle.sv_explain.specs.Steps.{head_line, call_line, step_line}
use Rattle.sv_server.specs.declared.replay.ReplayFault.{ReplayFault}
use Rattle.sv_server.specs.declared.replay.ReplayFault.TheVariants.{Write}
use Rattle.sv_server.specs.Replay.Replays.{Replays}

-- Of the suspended calls that can resume, the oldest is this connection's; `None` if no call can
-- resume.
abbrev pub NextToResume : List Act → Option ℕ → Type 0
NextToResume log c = IsOldest (wait_acts (device_acts log)) (CanResume (device_acts log)) c

-- the clock after a log, in milliseconds
abbrev pub clock_at : Config → List Act → ℕ
clock_at config log = config.clock + ticks (device_acts log)

-- the clock after an event that is applied: only a Tick moves it
abbrev pub clock_after : Config → PlainEvent → List Act → ℕ
clock_after config Tick log = clock_at config log + 1
clock_after config _ log = clock_at config log

-- Of the suspended calls whose deadline has come, the oldest is this connection's; `None` if no
-- deadline has come.
abbrev pub NextToExpire : Config → List Act → Option ℕ → Type 0
NextToExpire config log c =
    IsOldest (wait_acts (device_acts log)) (IsExpired (clock_at config log) (wait_acts (device_acts log))) c

-- The step that is due after this log has this name. Triggers come first, then calls that resume,
-- then message exchange, then time-outs.
abbrev pub Names : Due → Config → List Act → Type 0
Names Fire config log = is_fire_due (instrument_acts (device_acts log)) ≡ true
Names (Resume c) config log = (is_fire_due (instrument_acts (device_acts log)) ≡ false) × NextToResume log (Some c)
Names (Exchange step) config log = (is_fire_due (instrument_acts (device_acts log)) ≡ false) × NextToResume log None
    × IsDue step (instrument_acts (device_acts log))
Names (TimeOut c) config log = (is_fire_due (instrument_acts (device_acts log)) ≡ false) × NextToResume log None
    × IsNoneDue (instrument_acts (device_acts log)) × NextToExpire config log (Some c)
Names Nothing config log = (is_fire_due (instrument_acts (device_acts log)) ≡ false) × NextToResume log None
    × IsNoneDue (instrument_acts (device_acts log)) × NextToExpire config log None

-- `n` steps lead from `log` to `new`, after which no step is due; `text` has for each step its line
-- and the lines of what it changed. `shown` is what is told of the log.
abbrev pub TellsIn : ℕ → Config → List Act → Shown → List ℕ → List Act → Type 0
TellsIn zero config log shown text new = IsSettled config log × Names Nothing config log × (new ≡ log) × (text ≡ [])
TellsIn (suc n) config log shown text new = (middle : List Act) × (name : Due) × (next : Shown) × (rest : List ℕ)
    × IsNext config log middle × Names name config log × IsShown next middle
    × (text ≡ step_line name ++ (changes shown next ++ rest)) × TellsIn n config middle next rest new

-- the line of the call that an event takes: a Turn or a Refuse takes the connection's next call, if
-- there is one
abbrev pub taken_line : PlainEvent → List Act → List ℕ
taken_line (Turn c) log = option_map_or (call_line c) (next_call (of c log)) []
taken_line (Refuse c) log = option_map_or (call_line c) (next_call (of c log)) []
taken_line _ log = []

-- What is told of an event that is applied or refused after `log`: its line, its call, what the
-- event itself changed, and the steps that follow. A refused event changes nothing.
abbrev pub ToldOf : ℕ → Config → PlainEvent → List Act → Result Did Refused → List ℕ → Type 0
ToldOf line config event log (Err refused) told = told ≡ head_line line (clock_at config log) ++ taken_line event log
ToldOf line config event log (Ok did) told = (polled : ℕ) × (before after : Shown) × (n : ℕ) × (steps : List ℕ) × (end : List Act)
    × IsPolled polled (device_acts log) × IsShown before log × IsShown after (own_acts config polled event log ++ log)
    × TellsIn n config (own_acts config polled event log ++ log) after steps end
    × (told ≡ head_line line (clock_after config event log) ++ (taken_line event log ++ (changes before after ++ steps)))

-- What is told of bytes that came: the line of the event, and what changed of their connection.
-- They are an act of this connection alone.
abbrev pub BytesTold : ℕ → Config → PlainEvent → List Act → Result Did Refused → List ℕ → Type 0
BytesTold line config (Bytes c piece) log (Ok did) told = (before after : ConnShown) × IsConn c before log
    × IsConn c after (On c (Piece piece) ∷ log) × (told ≡ head_line line (clock_at config log) ++ conn_lines c before after)
BytesTold line config _ log _ told = ⊥

-- what is told of an event that isn't a millisecond in which nothing is due
abbrev pub Tells : ℕ → Config → PlainEvent → List Act → Result Did Refused → List ℕ → Type 0
Tells line config event log did told = ToldOf line config event log did told ⊎ BytesTold line config event log did told

-- The event is a millisecond in which nothing is due.
abbrev pub IsStillTick : Config → PlainEvent → List Act → Type 0
IsStillTick config event log = (event ≡ Tick) × IsStill 1 config (device_acts log)

-- A millisecond in which nothing is due tells nothing. Of every other event something is told.
abbrev pub Told : ℕ → Config → PlainEvent → List Act → Result Did Refused → List ℕ → Type 0
Told line config event log did told = (IsStillTick config event log × (told ≡ []))
    ⊎ ((IsStillTick config event log → ⊥) × Tells line config event log did told)

-- What `explain` writes for an event of this line of a script, and the history after it: what a
-- replay writes, and before that what is told of the event. If the writer fails in this, it took a
-- prefix of it, and no byte of the replay's text.
pub record Explains (config : Config) (line : ℕ) (history : List PlainEvent) (event : PlainEvent) (result : Result ⊤ ReplayFault)
    (text : List ℕ) (after : List PlainEvent) : Type 0 where
  pub told : List ℕ
  pub part : List ℕ
  pub printed : List ℕ
  pub replays : Replays config history event result printed after
  pub tells : Told line config event replays.before replays.did told
  pub front : IsFront part told
  pub whole : (part ≡ told) ⊎ ((result ≡ Err Write) × (printed ≡ []))
  pub text_is : text ≡ part ++ printed
