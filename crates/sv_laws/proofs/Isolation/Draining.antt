-- If only timeouts are due, the calls of other connections whose deadline has come, and that are
-- older than the connection's own call, time out first.
use Rattle.std.proofs.Common.{◌≡◌, ◌≢◌, ℕ, zero, suc, ◌+◌, ◌<◌, ◌≤◌, List, ◌∷◌, ◌++◌, Option, Some, None, refl, sym, ap, subst, ◌∙◌, inl, inr, ◌⊎◌, arith}
use Rattle.std.specs.Prelude.{map, ◌↔◌}
use Rattle.std.specs.Int.{bit_at}
use Rattle.std.proofs.lemmas.Bool.{cases_eq}
use Rattle.sv_logs.proofs.Each.{Each}
use Rattle.sv_vxi.specs.declared.error_code.ErrorCode.{ErrorCode}
use Rattle.sv_links.specs.declared.waiting.Wait.{Wait}
use Rattle.sv_links.specs.Waiting.{Left, waits, arrival, IsOldest, IsExpired}
use Rattle.sv_layers.specs.Act.{Act as InstrumentAct}
use Rattle.sv_layers.specs.StatusByte.{PolledBit}
use Rattle.sv_instrument.specs.Stimulus.{IsFired}
use Rattle.sv_instrument.specs.Step.{IsStep}
use Rattle.sv_history.specs.declared.event.Config.{Config}
use Rattle.sv_history.specs.Act.{Act, DeviceAct, Waited, Applied, OnDevice, of, device_acts, wait_acts, instrument_acts, ticks}
use Rattle.sv_history.specs.Connection.{pending_call}
use Rattle.sv_history.specs.CoreCall.{CoreCall}
use Rattle.sv_history.specs.Request.{core_call_in}
use Rattle.sv_history.specs.Effect.{acts_of}
use Rattle.sv_history.specs.PolledStatus.{IsPolled}
use Rattle.sv_history.specs.Resuming.{resume_effect, failure_effect, late}
use Rattle.sv_history.specs.Settling.{InstrumentDoes, CanResume, Resumes, IsNext}
use Rattle.sv_history.proofs.Projections.{device_effect}
use Rattle.sv_laws.proofs.EveryLog.Fit.{Fit}
use Rattle.sv_laws.proofs.EveryLog.EachEvent.{fit_step}
use Rattle.sv_laws.proofs.EveryLog.Known.{suspended_below_16, others_blocked_by_lock}
use Rattle.sv_laws.proofs.Isolation.Alike.{View, Pair, IsLeaving, leaving_acts_keep_pair, owner_in_other_log}
use Rattle.sv_laws.proofs.EveryLog.Due.{suspended_below, leaving_lowers_count, oldest_expired_exists}
use Rattle.sv_laws.proofs.EveryLog.Steps.{Reaches, reaches_none, reaches_next, reaches_then}

-- ---- which steps are possible in both logs

-- The instrument takes no step, and no suspended call can resume.
abbrev pub NothingElse : Config → List Act → Type 0
NothingElse config log = ((new : List Act) → InstrumentDoes IsFired log new → ⊥) × ((new : List Act) → Resumes config log new → ⊥)
    × ((new : List Act) → InstrumentDoes IsStep log new → ⊥)

pub same_instrument_same_step : (IsSuch : List InstrumentAct → List InstrumentAct → Type 0) (log other new : List Act)
    → instrument_acts (device_acts log) ≡ instrument_acts (device_acts other) → InstrumentDoes IsSuch log new
    → (there : List Act) × InstrumentDoes IsSuch other there
same_instrument_same_step IsSuch log other new same (adds, such, is) = (
  map OnDevice (map Applied adds) ++ other,
  (adds, subst (λ (l : List InstrumentAct). IsSuch l (adds ++ l)) same such, refl),
)

pub own_call_can_resume_too : (c lid : ℕ) (acts other : List DeviceAct) → View c lid acts other → CanResume acts c → CanResume other c
own_call_can_resume_too c lid acts other view able =
    rw (view.also, ← view.instrument, ← view.call.named, ← view.call.wait) (rw view.held at able)

pub able_back : (c lid : ℕ) (acts other : List DeviceAct) → View c lid acts other → CanResume other c → CanResume acts c
able_back c lid acts other view able =
    rw (view.held, view.instrument, view.call.named, view.call.wait) (rw view.also at able)

pub same_instrument_same_poll : (polled : ℕ) (acts other : List DeviceAct) → instrument_acts acts ≡ instrument_acts other
    → IsPolled polled acts → IsPolled polled other
same_instrument_same_poll polled acts other same said =
    subst (λ (l : List InstrumentAct). (k : ℕ) → (bit_at polled k ≡ 1) ↔ PolledBit k l) same said

-- If no call of another connection can resume, the connection's own call is the oldest that can.
pub own_call_is_oldest : (c : ℕ) (acts : List DeviceAct) → ((d : ℕ) → d ≢ c → CanResume acts d → ⊥) → CanResume acts c
    → IsOldest (wait_acts acts) (CanResume acts) (Some c)
own_call_is_oldest c acts none able = (
  able,
  (λ d such. elim (cases_eq d c) [
    | inl same ↦ subst (λ (n : ℕ). arrival c (wait_acts acts) ≤ arrival n (wait_acts acts)) (sym same) (omega arith)
    | inr ne ↦ absurd (none d ne such)
  ]),
)

resumes_as : (config : Config) (c : ℕ) (log other new : List Act) → ((d : ℕ) → d ≢ c → CanResume (device_acts log) d → ⊥)
    → ((d : ℕ) → d ≢ c → CanResume (device_acts other) d → ⊥) → (CanResume (device_acts log) c → CanResume (device_acts other) c)
    → waits c (wait_acts (device_acts other)) ≡ waits c (wait_acts (device_acts log))
    → instrument_acts (device_acts log) ≡ instrument_acts (device_acts other)
    → Resumes config log new → (there : List Act) × Resumes config other there
resumes_as config c log other new none also able wait instrument (d, for, polled, oldest, waits_for, said, is) = elim (cases_eq d c) [
  | inl e ↦ (
    acts_of c (resume_effect config polled c for (core_call_in (pending_call (of c other))) (device_acts other)) ++ other,
    (
      c,
      for,
      polled,
      own_call_is_oldest c (device_acts other) also (able (subst (λ (n : ℕ). CanResume (device_acts log) n) e oldest.0)),
      wait ∙ ap (λ (n : ℕ). waits n (wait_acts (device_acts log))) (sym e) ∙ waits_for,
      same_instrument_same_poll polled (device_acts log) (device_acts other) instrument said,
      refl,
    ),
  )
  | inr ne ↦ absurd (none d ne oldest.0)
]

pub others_cannot_resume : (c lid : ℕ) (log other : List Act) → Fit log → Pair c lid log other → (d : ℕ) → d ≢ c
    → CanResume (device_acts log) d → ⊥
others_cannot_resume c lid log other fit pair =
    others_blocked_by_lock c lid (device_acts log) fit.suits pair.view.held pair.view.mine pair.view.rests

pub others_cannot_resume_either : (c lid : ℕ) (log other : List Act) → Fit other → Pair c lid log other
    → (d : ℕ) → d ≢ c → CanResume (device_acts other) d → ⊥
others_cannot_resume_either c lid log other fit pair = others_blocked_by_lock c lid (device_acts other) fit.suits pair.view.also
    (owner_in_other_log c lid (device_acts log) (device_acts other) pair.view) pair.view.rest

pub no_fire : (c lid : ℕ) (log other : List Act) → Pair c lid log other → ((new : List Act) → InstrumentDoes IsFired log new → ⊥)
    → (new : List Act) → InstrumentDoes IsFired other new → ⊥
no_fire c lid log other pair none new does =
    let there = same_instrument_same_step IsFired other log new (sym pair.view.instrument) does in none there.0 there.1

pub no_resume : (config : Config) (c lid : ℕ) (log other : List Act) → Fit log → Fit other → Pair c lid log other
    → ((new : List Act) → Resumes config log new → ⊥) → (new : List Act) → Resumes config other new → ⊥
no_resume config c lid log other fit also pair none new resumes =
    let there = resumes_as config c other log new (others_cannot_resume_either c lid log other also pair)
    (others_cannot_resume c lid log other fit pair)
    (able_back c lid (device_acts log) (device_acts other) pair.view) pair.view.call.wait (sym pair.view.instrument) resumes in
    none there.0 there.1

pub nothing_else_in_other : (config : Config) (c lid : ℕ) (log other : List Act) → Fit log → Fit other → Pair c lid log other
    → NothingElse config log → NothingElse config other
nothing_else_in_other config c lid log other fit also pair (fire, resume, step) = (
  no_fire c lid log other pair fire,
  no_resume config c lid log other fit also pair resume,
  (λ new does. let there = same_instrument_same_step IsStep other log new (sym pair.view.instrument) does in step there.0 there.1),
)

-- ---- the calls of other connections that time out first

abbrev pub IsOldestExpired : Config → List Act → Option ℕ → Type 0
IsOldestExpired config log found = IsOldest (wait_acts (device_acts log))
    (IsExpired (config.clock + ticks (device_acts log)) (wait_acts (device_acts log))) found

-- Steps lead from `other` to the log `last`, which is still alike. There, of the calls whose
-- deadline has come, the oldest is that of connection `c`, or there is none.
pub record Drained (config : Config) (c lid : ℕ) (log other : List Act) : Type 0 where
  pub last : List Act
  pub reaches : Reaches config other last
  pub pair : Pair c lid log last
  pub fit : Fit last
  pub found : Option ℕ
  pub due : IsOldestExpired config last found
  pub is_own : (found ≡ None) ⊎ (found ≡ Some c)

abbrev log_with_failed_call : ErrorCode → ℕ → List Act → List Act
log_with_failed_call error d log = acts_of d (failure_effect error d (core_call_in (pending_call (of d log)))) ++ log

failed_device : (error : ErrorCode) (d : ℕ) (call : Option CoreCall) (log : List Act)
    → device_acts (acts_of d (failure_effect error d call) ++ log) ≡ Waited (Left d) ∷ device_acts log
failed_device error d (Some call) log = device_effect d (failure_effect error d (Some call)) log
failed_device error d None log = device_effect d (failure_effect error d None) log

leaving_failed : (c d : ℕ) (error : ErrorCode) (call : Option CoreCall) (log : List Act) → d ≢ c
    → Each (IsLeaving c) (acts_of d (failure_effect error d call)) log
leaving_failed c d error (Some call) log ne = (ne, (ne, tt))
leaving_failed c d error None log ne = (ne, tt)

gives_next : (config : Config) (d : ℕ) (log : List Act) → NothingElse config log → (due : IsOldestExpired config log (Some d))
    → IsNext config log (log_with_failed_call (late due.0.0) d log)
gives_next config d log (fire, resume, step) due = inr (fire, inr (resume, inr (step, (d, due.0.0, due, due.0.2, refl))))

fewer_wait : (d : ℕ) (log : List Act) (wait : Wait) (error : ErrorCode) → Fit log → waits d (wait_acts (device_acts log)) ≡ Some wait
    → d < 16
    → suspended_below (wait_acts (device_acts (log_with_failed_call error d log))) 16 < suspended_below (wait_acts (device_acts log)) 16
fewer_wait d log wait error fit for lt =
    subst (λ (acts : List DeviceAct). suspended_below (wait_acts acts) 16 < suspended_below (wait_acts (device_acts log)) 16)
    (sym (failed_device error d (core_call_in (pending_call (of d log))) log))
    (leaving_lowers_count d 16 (wait_acts (device_acts log)) wait lt for)

-- The logs stay alike when a call of another connection ends with an error.
failing_keeps_pair : (c lid d : ℕ) (log other : List Act) (error : ErrorCode) → d ≢ c → Pair c lid log other
    → Pair c lid log (log_with_failed_call error d other)
failing_keeps_pair c lid d log other error ne pair =
    leaving_acts_keep_pair c lid (acts_of d (failure_effect error d (core_call_in (pending_call (of d other))))) log other
    (leaving_failed c d error (core_call_in (pending_call (of d other))) other ne) pair

-- The case that no call of another connection is left to time out.
nothing_to_drain : (config : Config) (c lid : ℕ) (log other : List Act) (found : Option ℕ) → Fit other → Pair c lid log other
    → IsOldestExpired config other found → (found ≡ None) ⊎ (found ≡ Some c) → Drained config c lid log other
nothing_to_drain config c lid log other found also pair due own = record {
  last = other;
  reaches = reaches_none config other;
  pair = pair;
  fit = also;
  found = found;
  due = due;
  is_own = own;
}

drain_by : (k : ℕ) (config : Config) (c lid : ℕ) (log other : List Act) (found : Option ℕ)
    → suspended_below (wait_acts (device_acts other)) 16 ≤ k → NothingElse config log → Fit log → Fit other → Pair c lid log other
    → IsOldestExpired config other found → Drained config c lid log other
drain_by k config c lid log other None le none fit also pair due = nothing_to_drain config c lid log other None also pair due (inl refl)
drain_by zero config c lid log other (Some d) le none fit also pair due = elim (cases_eq d c) [
  | inl same ↦ nothing_to_drain config c lid log other (Some d) also pair due (inr (ap (λ (n : ℕ). Some n) same))
  | inr ne ↦
      let within = suspended_below_16 (device_acts other) also.suits d due.0.0 due.0.2 in
      absurd (omega (arith, le, fewer_wait d other due.0.0 (late due.0.0) also due.0.2 within))
]
drain_by (suc k) config c lid log other (Some d) le none fit also pair due = elim (cases_eq d c) [
  | inl same ↦ nothing_to_drain config c lid log other (Some d) also pair due (inr (ap (λ (n : ℕ). Some n) same))
  | inr ne ↦
      let within = suspended_below_16 (device_acts other) also.suits d due.0.0 due.0.2 in
      let fewer = fewer_wait d other due.0.0 (late due.0.0) also due.0.2 within in
      let after = log_with_failed_call (late due.0.0) d other in
      let next = gives_next config d other (nothing_else_in_other config c lid log other fit also pair none) due in
      let then_fit = fit_step config other after also next in
      let first = oldest_expired_exists (config.clock + ticks (device_acts after)) (device_acts after) then_fit.suits in
      let more = drain_by k config c lid log after first.0 (omega (arith, le, fewer)) none fit then_fit
      (failing_keeps_pair c lid d log other (late due.0.0) ne pair) first.1 in
      record {
        last = more.last;
        reaches = reaches_then config other after more.last (reaches_next config other after next) more.reaches;
        pair = more.pair;
        fit = more.fit;
        found = more.found;
        due = more.due;
        is_own = more.is_own;
      }
]

pub drain : (config : Config) (c lid : ℕ) (log other : List Act) → NothingElse config log → Fit log → Fit other → Pair c lid log other
    → Drained config c lid log other
drain config c lid log other none fit also pair =
    let first = oldest_expired_exists (config.clock + ticks (device_acts other)) (device_acts other) also.suits in
    drain_by (suspended_below (wait_acts (device_acts other)) 16) config c lid log other first.0 (omega arith) none fit also pair first.1
