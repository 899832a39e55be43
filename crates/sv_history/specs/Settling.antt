-- The steps that follow an event's own acts: one after the next, until no step is due.
use Rattle.std.specs.Prelude.{◌≡◌, ◌⊎◌, not, ℕ, ◌+◌, zero, suc, Some, List, ◌++◌, map}
use Rattle.sv_links.specs.declared.waiting.Wait.{Wait}
use Rattle.sv_links.specs.Links.{holder}
use Rattle.sv_links.specs.Waiting.{waits, IsAble, IsExpired, IsOldest}
use Rattle.sv_exchange.specs.Exchange.{has_ended}
use Rattle.sv_layers.specs.Act.{Act as InstrumentAct}
use Rattle.sv_instrument.specs.Stimulus.{IsFired}
use Rattle.sv_instrument.specs.Step.{IsStep, is_answerable}
use Rattle.sv_history.specs.declared.event.Config.{Config}
use Rattle.sv_history.specs.Act.{Act, DeviceAct, Applied, OnDevice, of, device_acts, link_acts, wait_acts, instrument_acts, exchange_acts, ticks}
use Rattle.sv_history.specs.Connection.{pending_call}
use Rattle.sv_history.specs.PolledStatus.{IsPolled}
use Rattle.sv_history.specs.Request.{core_call_in}
use Rattle.sv_history.specs.Effect.{acts_of}
use Rattle.sv_history.specs.Resuming.{resume_effect, failure_effect, late}

-- The instrument takes a step: `IsSuch` holds of the log that the instrument has before the step
-- and the log that it has after the step. The step adds acts to the instrument's log.
abbrev pub InstrumentDoes : (List InstrumentAct → List InstrumentAct → Type 0) → List Act → List Act → Type 0
InstrumentDoes IsSuch log new = (adds : List InstrumentAct)
    × IsSuch (instrument_acts (device_acts log)) (adds ++ instrument_acts (device_acts log))
    × (new ≡ map OnDevice (map Applied adds) ++ log)

-- The suspended call of this connection can resume.
abbrev pub CanResume : List DeviceAct → ℕ → Type 0
CanResume acts = IsAble (holder (link_acts acts)) (not (has_ended (exchange_acts acts))) (is_answerable (instrument_acts acts))
    (wait_acts acts)

-- Of the suspended calls that can resume, the oldest resumes.
abbrev pub Resumes : Config → List Act → List Act → Type 0
Resumes config log new = (c : ℕ) × (wait : Wait) × (polled : ℕ)
    × IsOldest (wait_acts (device_acts log)) (CanResume (device_acts log)) (Some c)
    × (waits c (wait_acts (device_acts log)) ≡ Some wait) × IsPolled polled (device_acts log)
    × (new ≡ acts_of c (resume_effect config polled c wait (core_call_in (pending_call (of c log))) (device_acts log)) ++ log)

-- Of the suspended calls whose deadline has come, the oldest times out.
abbrev pub TimesOut : Config → List Act → List Act → Type 0
TimesOut config log new = (c : ℕ) × (wait : Wait)
    × IsOldest (wait_acts (device_acts log)) (IsExpired (config.clock + ticks (device_acts log)) (wait_acts (device_acts log))) (Some c)
    × (waits c (wait_acts (device_acts log)) ≡ Some wait)
    × (new ≡ acts_of c (failure_effect (late wait) c (core_call_in (pending_call (of c log)))) ++ log)

-- If the first of two steps is possible, this step is taken; else the second step is taken.
abbrev pub First : (List Act → Type 0) → (List Act → Type 0) → List Act → Type 0
First IsOne IsOther new = IsOne new ⊎ (((one : List Act) → IsOne one → ⊥) × IsOther new)

-- The step that is due leads to the new log. It is the first of these that is possible: an
-- immediate trigger; a suspended call resumes; a step of message exchange; a suspended call times
-- out.
abbrev pub IsNext : Config → List Act → List Act → Type 0
IsNext config log =
    First (InstrumentDoes IsFired log) (First (Resumes config log) (First (InstrumentDoes IsStep log) (TimesOut config log)))

-- After this log no step is due.
abbrev pub IsSettled : Config → List Act → Type 0
IsSettled config log = (new : List Act) → IsNext config log new → ⊥

-- After `n` steps, each of which was due, `log` has become `new`, and no further step is due.
abbrev pub SettlesIn : ℕ → Config → List Act → List Act → Type 0
SettlesIn zero config log new = IsSettled config log × (new ≡ log)
SettlesIn (suc n) config log new = (middle : List Act) × IsNext config log middle × SettlesIn n config middle new

-- After some number of steps, each of which was due, `log` has become `new`, and no further step is
-- due.
abbrev pub Settles : Config → List Act → List Act → Type 0
Settles config log new = (n : ℕ) × SettlesIn n config log new
