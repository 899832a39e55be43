-- A write is accepted when no step is due, and it ends no message. Then the only step that can
-- become due is to report a message that has become too long.
use Rattle.std.proofs.Common.{◌≡◌, ◌≢◌, ℕ, zero, suc, ◌+◌, ◌≤◌, Bool, true, false, List, [], ◌∷◌, ◌++◌, Option, Some, None, refl, sym, ap, subst, ◌∙◌, inl, inr, ◌⊎◌, append_assoc}
use Rattle.std.specs.Prelude.{map, not, ◌&&◌}
use Rattle.std.specs.List.{AllByRecursion}
use Rattle.std.proofs.lemmas.Bool.{cases_Bool}
use Rattle.std.proofs.lemmas.List.{append_cancel_right}
use Rattle.sv_errors.specs.declared.code.Code.TheVariants.{InputBufferOverrun, QueryDeadlocked}
use Rattle.sv_errors.specs.declared.source.Source.TheVariants.{Immediate}
use Rattle.sv_links.specs.declared.waiting.Wait.{Wait}
use Rattle.sv_links.specs.declared.waiting.Wait.TheVariants.{Input as ForInput, Response as ForResponse}
use Rattle.sv_links.specs.Links.{holder}
use Rattle.sv_links.specs.Waiting.{WaitAct, waits, link, arrival, is_there, IsExpired, IsOldest}
use Rattle.sv_scan.specs.declared.acts.ScanAct.{ScanAct}
use Rattle.sv_scan.specs.declared.acts.ScanAct.TheVariants.{Trigger}
use Rattle.sv_scan.specs.Counted.{effective, trigger_fault}
use Rattle.sv_exchange.specs.Exchange.{ExchangeAct, Accepted, Overran, Answered, AnswersDropped, UnitDone, answers, fits_response, has_ended, is_long, has_overrun, current, due, Due, NothingDue, OverrunDue}
use Rattle.sv_layers.specs.declared.change.Awaited.{Awaited}
use Rattle.sv_layers.specs.declared.change.Awaited.TheVariants as awaited
use Rattle.sv_layers.specs.Act.{Act as InstrumentAct, Exchanged, Scanned, Reported, scan_acts, exchange_acts as exchanged}
use Rattle.sv_layers.specs.Condition.{is_idle}
use Rattle.sv_instrument.specs.HeldUnit.{held_unit}
use Rattle.sv_instrument.specs.CommandEffect.{after_answering}
use Rattle.sv_instrument.specs.Stimulus.{IsFired}
use Rattle.sv_instrument.specs.Step.{after_release, StepOf, IsStep, is_answerable}
use Rattle.sv_history.specs.declared.event.Config.{Config}
use Rattle.sv_history.specs.Act.{Act, DeviceAct, Applied, OnDevice, device_acts, link_acts, wait_acts, instrument_acts, exchange_acts, ticks}
use Rattle.sv_history.specs.PolledStatus.{IsPolled}
use Rattle.sv_history.specs.Settling.{InstrumentDoes, Resumes, TimesOut, IsNext, SettlesIn}
use Rattle.sv_laws.specs.Cuts.{NoneWaits}
use Rattle.sv_history.proofs.OneStep.{log_after_resume, log_after_timeout}
use Rattle.sv_laws.proofs.Cuts.LongerText.{no_line_ends_no_message, long_part_makes_whole_long}
use Rattle.sv_laws.proofs.EveryLog.Steps.{Rested}
use Rattle.sv_laws.proofs.Cuts.Written.{log_with_write}
use Rattle.sv_logs.proofs.Since.{both_true}

-- ---- logs that differ only in message exchange, the error queue and the status

pub record Calm (acts base : List DeviceAct) : Type 0 where
  pub links : link_acts acts ≡ link_acts base
  pub calls : wait_acts acts ≡ wait_acts base
  pub clock : ticks acts ≡ ticks base
  pub scans : scan_acts (instrument_acts acts) ≡ scan_acts (instrument_acts base)

-- No step is due, no read or write waits for the device, and a poll of the status byte would return
-- `polled`.
pub record Resting (config : Config) (log : List Act) : Type 0 where
  pub rests : Rested config log
  pub none : NoneWaits (wait_acts (device_acts log))
  pub polled : ℕ
  pub said : IsPolled polled (device_acts log)

pub is_there_same_unless_device : (holds named : Option ℕ) (wait : Option Wait) (writes reads also likewise : Bool) → wait ≢ Some ForInput
    → wait ≢ Some ForResponse → is_there holds writes reads named wait ≡ is_there holds also likewise named wait
is_there_same_unless_device holds named (Some ForInput) writes reads also likewise input response = absurd (input refl)
is_there_same_unless_device holds named (Some ForResponse) writes reads also likewise input response = absurd (response refl)
is_there_same_unless_device holds named _ writes reads also likewise input response = refl

abbrev may_resume : List DeviceAct → ℕ → Bool
may_resume acts c = is_there (holder (link_acts acts)) (not (has_ended (exchange_acts acts))) (is_answerable (instrument_acts acts))
    (link c (wait_acts acts)) (waits c (wait_acts acts))

able_same : (acts base : List DeviceAct) (c : ℕ) → NoneWaits (wait_acts base) → Calm acts base → may_resume acts c ≡ may_resume base c
able_same acts base c rest v =
    rw (v.links, v.calls) (is_there_same_unless_device (holder (link_acts base)) (link c (wait_acts base)) (waits c (wait_acts base))
    (not (has_ended (exchange_acts acts))) (is_answerable (instrument_acts acts)) (not (has_ended (exchange_acts base)))
    (is_answerable (instrument_acts base)) (rest c).0 (rest c).1)

calm_fires_nothing : (config : Config) (log base new : List Act) → Rested config base → Calm (device_acts log) (device_acts base)
    → InstrumentDoes IsFired log new → ⊥
calm_fires_nothing config log base new rest v (adds, fired, is) =
    rest.fires (map OnDevice (map Applied (Scanned (Trigger Immediate) ∷ [])) ++ base) (
      Scanned (Trigger Immediate) ∷ [],
      (ap (λ (l : List ScanAct). trigger_fault (effective l) Immediate) (sym v.scans) ∙ fired.0, refl),
      refl,
    )

calm_resumes_nothing : (config : Config) (log base new : List Act) → Resting config base → Calm (device_acts log) (device_acts base)
    → Resumes config log new → ⊥
calm_resumes_nothing config log base new rest v (c, wait, polled, oldest, for, said, is) =
    let acts = device_acts log in
    let was = device_acts base in
    rest.rests.resumes (log_after_resume config base rest.polled c wait) (
      c,
      wait,
      rest.polled,
      (
        sym (able_same acts was c rest.none v) ∙ oldest.0,
        (λ d able. subst (λ (l : List WaitAct). arrival c l ≤ arrival d l) v.calls (oldest.1 d (able_same acts was d rest.none v ∙ able))),
      ),
      subst (λ (l : List WaitAct). waits c l ≡ Some wait) v.calls for,
      rest.said,
      refl,
    )

calm_times_nothing_out : (config : Config) (log base new : List Act) → Rested config base → Calm (device_acts log) (device_acts base)
    → TimesOut config log new → ⊥
calm_times_nothing_out config log base new rest v (c, wait, oldest, for, is) = rest.times (log_after_timeout base c wait) (
  c,
  wait,
  subst (λ (n : ℕ). IsOldest (wait_acts (device_acts base)) (IsExpired (config.clock + n) (wait_acts (device_acts base))) (Some c)) v.clock
      (subst (λ (l : List WaitAct). IsOldest l (IsExpired (config.clock + ticks (device_acts log)) l) (Some c)) v.calls oldest),
  subst (λ (l : List WaitAct). waits c l ≡ Some wait) v.calls for,
  refl,
)

-- If a step is due, it is a step of message exchange.
pub calm_step_is_of_instrument : (config : Config) (log base new : List Act) → Resting config base
    → Calm (device_acts log) (device_acts base) → IsNext config log new → InstrumentDoes IsStep log new
calm_step_is_of_instrument config log base new rest v (inl fires) = absurd (calm_fires_nothing config log base new rest.rests v fires)
calm_step_is_of_instrument config log base new rest v (inr (none, inl resumes)) =
    absurd (calm_resumes_nothing config log base new rest v resumes)
calm_step_is_of_instrument config log base new rest v (inr (none, inr (still, inl step))) = step
calm_step_is_of_instrument config log base new rest v (inr (none, inr (still, inr (idle, times)))) =
    absurd (calm_times_nothing_out config log base new rest.rests v times)

pub instrument_step_is_next : (config : Config) (log base new : List Act) → Resting config base → Calm (device_acts log) (device_acts base)
    → InstrumentDoes IsStep log new → IsNext config log new
instrument_step_is_next config log base new rest v step =
    inr (
      (λ one fires. calm_fires_nothing config log base one rest.rests v fires),
      inr ((λ one resumes. calm_resumes_nothing config log base one rest v resumes), inl step),
    )

-- ---- a unit that is held

answered_adds : (bytes : List ℕ) (log : List InstrumentAct) → (adds : List InstrumentAct) × (after_answering bytes log ≡ adds ++ log)
answered_adds bytes log = elim (cases_Bool (fits_response (answers (exchanged log)) bytes)) [
  | inl e ↦ (Exchanged (Answered bytes) ∷ [], rw e refl)
  | inr e ↦ (Reported QueryDeadlocked ∷ Exchanged AnswersDropped ∷ [], rw e refl)
]

answered_more : (act : InstrumentAct) (bytes : List ℕ) (log : List InstrumentAct)
    → (adds : List InstrumentAct) × (after_answering bytes (act ∷ log) ≡ adds ++ log)
answered_more act bytes log = let so = answered_adds bytes (act ∷ log) in (so.0 ++ act ∷ [], so.1 ∙ (simp append_assoc))

released_adds : (what : Awaited) (log : List InstrumentAct) → (adds : List InstrumentAct) × (after_release what log ≡ adds ++ log)
released_adds awaited.Nothing log = (Exchanged UnitDone ∷ [], refl)
released_adds awaited.One log = answered_more (Exchanged UnitDone) _ log
released_adds awaited.Readings log = answered_more (Exchanged UnitDone) _ log

-- If no step is due while a unit is held, a measurement is under way.
pub held_unit_means_measuring : (config : Config) (base : List Act) (what : Awaited) → Rested config base
    → held_unit (instrument_acts (device_acts base)) ≡ Some what → is_idle (instrument_acts (device_acts base)) ≡ true → ⊥
held_unit_means_measuring config base what rest holds idle =
    let log = instrument_acts (device_acts base) in
    let so = released_adds what log in
    rest.steps (map OnDevice (map Applied so.0) ++ base) (
      so.0,
      subst (λ (o : Option Awaited). StepOf o (due (exchanged log)) log (so.0 ++ log)) (sym holds) (idle, sym so.1),
      refl,
    )

-- ---- no message has ended, and no unit is held

-- The current message is too long, and this wasn't reported yet.
abbrev pub is_overlong : List ExchangeAct → Bool
is_overlong acts = is_long acts && not (has_overrun (current acts))

nothing_due_if_unended : (acts : List ExchangeAct) → has_ended acts ≡ false → is_overlong acts ≡ false → due acts ≡ NothingDue
nothing_due_if_unended acts unended short = rw (short, unended) refl

overrun_due_if_long : (acts : List ExchangeAct) → is_overlong acts ≡ true → due acts ≡ OverrunDue
overrun_due_if_long acts long = rw long refl

step_long : (log new : List InstrumentAct) → has_ended (exchanged log) ≡ false → held_unit log ≡ None → IsStep log new
    → (is_overlong (exchanged log) ≡ true) × (new ≡ Reported InputBufferOverrun ∷ Exchanged Overran ∷ log)
step_long log new unended none step =
    let free : StepOf None (due (exchanged log)) log new =
    subst (λ (o : Option Awaited). StepOf o (due (exchanged log)) log new) none step in
    elim (cases_Bool (is_overlong (exchanged log))) [
      | inl long ↦ (long, subst (λ (d : Due). StepOf None d log new) (overrun_due_if_long (exchanged log) long) free)
      | inr short ↦ absurd (subst (λ (d : Due). StepOf None d log new) (nothing_due_if_unended (exchanged log) unended short) free)
    ]

-- ---- after a write

-- The log after it was reported that the message is too long.
abbrev pub reported : List Act → List Act
reported log = OnDevice (Applied (Reported InputBufferOverrun)) ∷ OnDevice (Applied (Exchanged Overran)) ∷ log

-- No unit is held, and these bytes make the message too long.
abbrev pub BecomesLong : List ℕ → List DeviceAct → Type 0
BecomesLong bytes acts = (held_unit (instrument_acts acts) ≡ None) × (is_overlong (Accepted bytes false ∷ exchange_acts acts) ≡ true)

and_false_is_never : (b : Bool) → (b && false) ≡ true → ⊥
and_false_is_never true e = cc
and_false_is_never false e = cc

-- The report is made only once: after it no step is due.
reported_once : (config : Config) (c : ℕ) (call reply bytes : List ℕ) (base log : List Act) (steps : ℕ) → Resting config base
    → AllByRecursion (λ b. b ≢ 10) bytes → has_ended (exchange_acts (device_acts base)) ≡ false
    → held_unit (instrument_acts (device_acts base)) ≡ None
    → SettlesIn steps config (reported (log_with_write c call reply bytes false base)) log
    → log ≡ reported (log_with_write c call reply bytes false base)
reported_once config c call reply bytes base log zero rest line unended none settles = settles.1
reported_once config c call reply bytes base log (suc steps) rest line unended none (mid, next, more) =
    let now = reported (log_with_write c call reply bytes false base) in
    let step = calm_step_is_of_instrument config now base mid rest (record { links = refl; calls = refl; clock = refl; scans = refl }) next
    in
    let acts = instrument_acts (device_acts now) in
    let long = step_long acts (step.0 ++ acts) (no_line_ends_no_message bytes (exchange_acts (device_acts base)) line ∙ unended) none step.1
    in
    absurd (and_false_is_never (is_long (exchanged acts)) long.0)

-- The log after the first part of a write: nothing was due; or the part made the message too long,
-- and this was reported.
abbrev pub FirstPart : ℕ → List ℕ → List ℕ → List ℕ → List Act → List Act → Type 0
FirstPart c call reply bytes base log = (log ≡ log_with_write c call reply bytes false base)
    ⊎ ((log ≡ reported (log_with_write c call reply bytes false base)) × BecomesLong bytes (device_acts base))

first_step : (config : Config) (c : ℕ) (call reply bytes : List ℕ) (base mid log : List Act) (steps : ℕ) (holds : Option Awaited)
    → Resting config base → AllByRecursion (λ b. b ≢ 10) bytes → has_ended (exchange_acts (device_acts base)) ≡ false
    → held_unit (instrument_acts (device_acts base)) ≡ holds → InstrumentDoes IsStep (log_with_write c call reply bytes false base) mid
    → SettlesIn steps config mid log → FirstPart c call reply bytes base log
first_step config c call reply bytes base mid log steps (Some what) rest line unended holds (adds, step, is) more =
    let acts = instrument_acts (device_acts (log_with_write c call reply bytes false base)) in
    let release = subst (λ (o : Option Awaited). StepOf o (due (exchanged acts)) acts (adds ++ acts)) holds step in
    absurd (held_unit_means_measuring config base what rest.rests holds release.0)
first_step config c call reply bytes base mid log steps None rest line unended holds (adds, step, is) more =
    let now = log_with_write c call reply bytes false base in
    let acts = instrument_acts (device_acts now) in
    let long = step_long acts (adds ++ acts) (no_line_ends_no_message bytes (exchange_acts (device_acts base)) line ∙ unended) holds step in
    let same : adds ≡ Reported InputBufferOverrun ∷ Exchanged Overran ∷ [] =
    append_cancel_right adds (Reported InputBufferOverrun ∷ Exchanged Overran ∷ []) acts long.1 in
    let there : mid ≡ reported now = is ∙ ap (λ (l : List InstrumentAct). map OnDevice (map Applied l) ++ now) same in
    inr (
      reported_once config c call reply bytes base log steps rest line unended holds
          (subst (λ (l : List Act). SettlesIn steps config l log) there more),
      (holds, long.0),
    )

pub first_part : (config : Config) (c : ℕ) (call reply bytes : List ℕ) (base log : List Act) (steps : ℕ) → Resting config base
    → AllByRecursion (λ b. b ≢ 10) bytes → has_ended (exchange_acts (device_acts base)) ≡ false
    → SettlesIn steps config (log_with_write c call reply bytes false base) log → FirstPart c call reply bytes base log
first_part config c call reply bytes base log zero rest line unended settles = inl settles.1
first_part config c call reply bytes base log (suc steps) rest line unended (mid, next, more) =
    first_step config c call reply bytes base mid log steps (held_unit (instrument_acts (device_acts base))) rest line unended refl
    (calm_step_is_of_instrument config (log_with_write c call reply bytes false base) base mid rest
    (record { links = refl; calls = refl; clock = refl; scans = refl }) next) more

-- ---- the first part and the whole write

long_both : (x y : List ℕ) (ended : Bool) (acts : List ExchangeAct) → is_overlong (Accepted x false ∷ acts) ≡ true
    → is_overlong (Accepted (x ++ y) ended ∷ acts) ≡ true
long_both x y ended acts long =
    let parts = (both_true (is_long (Accepted x false ∷ acts)) (not (has_overrun (current acts)))).0 long in
    rw (long_part_makes_whole_long x y ended acts parts.0) parts.1

-- If the first part makes the message too long, the first step after the whole write reports it.
pub whole_write_reports_overrun : (config : Config) (c : ℕ) (call reply x y : List ℕ) (ended : Bool) (base : List Act) → Resting config base
    → BecomesLong x (device_acts base)
    → IsNext config (log_with_write c call reply (x ++ y) ended base) (reported (log_with_write c call reply (x ++ y) ended base))
whole_write_reports_overrun config c call reply x y ended base rest (none, long) =
    let now = log_with_write c call reply (x ++ y) ended base in
    let acts = instrument_acts (device_acts now) in
    let new = Reported InputBufferOverrun ∷ Exchanged Overran ∷ acts in
    instrument_step_is_next config now base (reported now) rest (record { links = refl; calls = refl; clock = refl; scans = refl }) (
      Reported InputBufferOverrun ∷ Exchanged Overran ∷ [],
      subst (λ (o : Option Awaited). StepOf o (due (exchanged acts)) acts new) (sym none)
          (subst (λ (d : Due). StepOf None d acts new)
          (sym (overrun_due_if_long (exchanged acts) (long_both x y ended (exchange_acts (device_acts base)) long))) refl),
      refl,
    )
