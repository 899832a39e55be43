-- While nothing becomes due, milliseconds that pass only advance the clock.
use Rattle.std.proofs.Common.{◌≡◌, ◌≢◌, ℕ, zero, suc, ◌+◌, ◌≤◌, false, List, [], ◌∷◌, ◌++◌, None, refl, sym, subst, arith}
use Rattle.std.specs.Prelude.{map, replicate}
use Rattle.std.proofs.lemmas.Bool.{ne_eqb}
use Rattle.sv_links.specs.Waiting.{IsExpired}
use Rattle.sv_scan.specs.declared.setting.State.{State}
use Rattle.sv_scan.specs.declared.setting.State.TheVariants.{Idle, Waiting, Scanning}
use Rattle.sv_scan.specs.Counted.{is_scanning}
use Rattle.sv_scan.specs.Scan.{state}
use Rattle.sv_layers.specs.Act.{Act as InstrumentAct}
use Rattle.sv_layers.specs.Condition.{effective_acts}
use Rattle.sv_instrument.specs.Stimulus.{IsFired, where_scanning, tick_acts}
use Rattle.sv_instrument.specs.Step.{IsStep}
use Rattle.sv_history.specs.declared.event.Config.{Config}
use Rattle.sv_history.specs.Event.{PlainEvent, Tick}
use Rattle.sv_history.specs.Act.{Act, DeviceAct, Applied, Ticked, OnDevice, device_acts, wait_acts, instrument_acts, ticks}
use Rattle.sv_history.specs.Settling.{InstrumentDoes, Resumes, TimesOut, IsSettled, Settles}
use Rattle.sv_history.specs.History.{IsLogOf, last_clock, refusal}
use Rattle.sv_history.specs.Still.{IsUnhurried, IsStill}
use Rattle.sv_laws.specs.Laws.{TimeOnlyCounts}
use Rattle.sv_history.proofs.OneStep.{log_after_resume}
use Rattle.sv_history.proofs.StillSettled.{first_back}
use Rattle.sv_laws.proofs.EveryLog.Steps.{log_settled}
use Rattle.sv_history.proofs.AlwaysTold.{polled_byte_exists, channel_log_exists}

-- ---- a millisecond makes no step due but a timeout

tick_happens : (IsSuch : List InstrumentAct → List InstrumentAct → Type 0) (log new : List Act)
    → InstrumentDoes IsSuch (OnDevice Ticked ∷ log) new → (there : List Act) × InstrumentDoes IsSuch log there
tick_happens IsSuch log new (adds, such, is) = (map OnDevice (map Applied adds) ++ log, (adds, such, refl))

happens_tick : (IsSuch : List InstrumentAct → List InstrumentAct → Type 0) (log new : List Act)
    → InstrumentDoes IsSuch log new → (there : List Act) × InstrumentDoes IsSuch (OnDevice Ticked ∷ log) there
happens_tick IsSuch log new (adds, such, is) = (map OnDevice (map Applied adds) ++ OnDevice Ticked ∷ log, (adds, such, refl))

resumes_before_tick : (config : Config) (log new : List Act) → Resumes config (OnDevice Ticked ∷ log) new
    → (there : List Act) × Resumes config log there
resumes_before_tick config log new (c, wait, polled, oldest, for, said, is) =
    (log_after_resume config log polled c wait, (c, wait, polled, oldest, for, said, refl))

resumes_after_tick : (config : Config) (log new : List Act) → Resumes config log new
    → (there : List Act) × Resumes config (OnDevice Ticked ∷ log) there
resumes_after_tick config log new (c, wait, polled, oldest, for, said, is) =
    (log_after_resume config (OnDevice Ticked ∷ log) polled c wait, (c, wait, polled, oldest, for, said, refl))

-- If no deadline comes within m + 1 milliseconds, then after one of them none comes within m.
unhurried_after_tick : (config : Config) (acts : List DeviceAct) (m : ℕ) → IsUnhurried (suc m) config acts
    → IsUnhurried m config (Ticked ∷ acts)
unhurried_after_tick config acts m still c expired =
    let same : config.clock + (ticks acts + 1) + m ≡ config.clock + ticks acts + suc m = omega arith in
    still c (subst (λ (clock : ℕ). IsExpired clock (wait_acts acts) c) same expired)

-- So this millisecond makes no call time out.
times_out_before_tick : (m : ℕ) (config : Config) (log new : List Act) → IsUnhurried m config (Ticked ∷ device_acts log)
    → TimesOut config (OnDevice Ticked ∷ log) new → (there : List Act) × TimesOut config log there
times_out_before_tick m config log new still (c, wait, oldest, for, is) =
    let h = oldest.0 in
    let past = h.4 in absurd (still c (h.0, h.1, h.2, h.3, omega (arith, past)))

tick_settled : (m : ℕ) (config : Config) (log : List Act) → IsUnhurried m config (Ticked ∷ device_acts log) → IsSettled config log
    → IsSettled config (OnDevice Ticked ∷ log)
tick_settled m config log still none = λ new next.
    let there = first_back _ _ _ _ (λ new. tick_happens IsFired log new) (λ new. happens_tick IsFired log new)
    (first_back _ _ _ _ (λ new. resumes_before_tick config log new) (λ new. resumes_after_tick config log new)
    (first_back _ _ _ _ (λ new. tick_happens IsStep log new) (λ new. happens_tick IsStep log new)
    (λ new. times_out_before_tick m config log new still))) new next in none there.0 there.1

-- ---- one millisecond

not_scanning_reads_nothing : (at : State) → is_scanning at ≡ false → where_scanning at ≡ []
not_scanning_reads_nothing Idle e = refl
not_scanning_reads_nothing Waiting e = refl
not_scanning_reads_nothing Scanning e = absurd cc

one_tick : (m : ℕ) (config : Config) (history : List PlainEvent) (log : List Act) → IsLogOf config history log
    → IsStill (suc m) config (device_acts log) → config.clock + ticks (device_acts log) + suc m ≤ last_clock
    → IsLogOf config (Tick ∷ history) (OnDevice Ticked ∷ log)
one_tick m config history log was (idle, still) before =
    let polled = polled_byte_exists (device_acts log) in
    let told = channel_log_exists (device_acts log) in
    let none : tick_acts (instrument_acts (device_acts log)) ≡ [] =
    not_scanning_reads_nothing (state (effective_acts (instrument_acts (device_acts log)))) idle in
    let other : config.clock + ticks (device_acts log) ≢ last_clock = λ e. absurd (omega (arith, before, e)) in
    let free : refusal config told.0 Tick log ≡ None = rw (ne_eqb _ _ other) refl in
    let done = tick_settled m config log (unhurried_after_tick config (device_acts log) m still) (log_settled config history log was) in (
      log,
      polled.0,
      told.0,
      tt,
      was,
      told.1,
      free,
      polled.1,
      subst (λ (adds : List InstrumentAct).
          Settles config ((map OnDevice (map Applied adds) ++ OnDevice Ticked ∷ []) ++ log) (OnDevice Ticked ∷ log)) (sym none)
          (zero, (done, refl)),
    )

-- ---- several milliseconds

-- After n of n + m milliseconds in which nothing becomes due, nothing becomes due in the other m.
still_left : (n m : ℕ) (config : Config) (log : List Act) → IsStill (n + m) config (device_acts log)
    → IsStill m config (device_acts (replicate n (OnDevice Ticked) ++ log))
still_left zero m config log still =
    subst (λ (most : ℕ). IsStill most config (device_acts log)) (let e : 0 + m ≡ m = omega arith in e) still
still_left (suc n) m config log still =
    let same : suc n + m ≡ n + suc m = omega arith in
    let before = still_left n (suc m) config log (subst (λ (most : ℕ). IsStill most config (device_acts log)) same still) in
    (before.0, unhurried_after_tick config (device_acts (replicate n (OnDevice Ticked) ++ log)) m before.1)

ticks_more : (n : ℕ) (log : List Act) → ticks (device_acts (replicate n (OnDevice Ticked) ++ log)) ≡ ticks (device_acts log) + n
ticks_more zero log = omega arith
ticks_more (suc n) log = let before = ticks_more n log in omega (arith, before)

-- The first n of n + m milliseconds in which nothing becomes due only advance the clock.
first_ticks_only_count : (n m : ℕ) (config : Config) (history : List PlainEvent) (log : List Act) → IsLogOf config history log
    → IsStill (n + m) config (device_acts log) → config.clock + ticks (device_acts log) + (n + m) ≤ last_clock
    → IsLogOf config (replicate n Tick ++ history) (replicate n (OnDevice Ticked) ++ log)
first_ticks_only_count zero m config history log was still before = was
first_ticks_only_count (suc n) m config history log was still before =
    let same : suc n + m ≡ n + suc m = omega arith in
    let longer = subst (λ (most : ℕ). IsStill most config (device_acts log)) same still in
    let there = first_ticks_only_count n (suc m) config history log was longer (omega (arith, before)) in
    let now = ticks_more n log in
    one_tick m config (replicate n Tick ++ history) (replicate n (OnDevice Ticked) ++ log) there
    (still_left n (suc m) config log longer) (omega (arith, before, now))

pub time_only_counts : TimeOnlyCounts
time_only_counts config history log most was still before =
    let same : most ≡ most + 0 = omega arith in
    first_ticks_only_count most 0 config history log was (subst (λ (n : ℕ). IsStill n config (device_acts log)) same still)
    (omega (arith, before))
