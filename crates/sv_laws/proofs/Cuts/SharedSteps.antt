-- A step that is due adds the same acts to two logs that are the same but for how program text was
-- accepted.
use Rattle.std.proofs.Common.{◌≡◌, ℕ, ◌+◌, List, [], ◌∷◌, ◌++◌, Option, Some, None, refl, sym, ap, subst, ◌∙◌, inl, inr}
use Rattle.std.specs.Prelude.{map, pos, negsuc}
use Rattle.std.proofs.lemmas.List.{append_cancel_right}
use Rattle.sv_errors.specs.declared.source.Source.TheVariants.{Immediate}
use Rattle.sv_links.specs.declared.waiting.Wait.{Wait}
use Rattle.sv_links.specs.Links.{LinkAct, owner}
use Rattle.sv_links.specs.Waiting.{WaitAct, waits, IsExpired, IsOldest}
use Rattle.sv_scan.specs.declared.acts.ScanAct.{ScanAct}
use Rattle.sv_scan.specs.declared.acts.ScanAct.TheVariants.{Trigger}
use Rattle.sv_scan.specs.Counted.{effective, trigger_fault}
use Rattle.sv_layers.specs.Act.{Act as InstrumentAct, Scanned}
use Rattle.sv_instrument.specs.Stimulus.{IsFired}
use Rattle.sv_instrument.specs.Step.{IsStep}
use Rattle.sv_history.specs.declared.event.Config.{Config}
use Rattle.sv_history.specs.Act.{Act, DeviceAct, Applied, OnDevice, of, device_acts, wait_acts, instrument_acts, ticks}
use Rattle.sv_history.specs.Connection.{pending_call}
use Rattle.sv_history.specs.CoreCall.{CoreCall}
use Rattle.sv_history.specs.Request.{Request, CoreRequest, AbortRequest, core_call_in}
use Rattle.sv_history.specs.Effect.{Effect, acts_of, call_effect}
use Rattle.sv_history.specs.AbortChannel.{owner_of, if_waiting}
use Rattle.sv_history.specs.Execution.{request_effect, aborts}
use Rattle.sv_history.specs.Resuming.{resume_effect, failure_effect, late}
use Rattle.sv_history.specs.Settling.{First, InstrumentDoes, CanResume, Resumes, TimesOut, IsNext}
use Rattle.sv_laws.proofs.Cuts.SameInstrument.{SameInstrument, same_instrument_same_step}
use Rattle.sv_laws.proofs.Cuts.SameDevice.{SameDevice, same_device_sym, has_ended_same, answerable_alike, is_polled_same, same_device_same_ground}
use Rattle.sv_laws.proofs.SameOutcomes.{admitted_same, resumed_same}

-- ---- calls

pub same_device_same_effect : (config : Config) (polled c : ℕ) (request : Request) (acts other : List DeviceAct) → SameDevice acts other
    → request_effect config polled c request acts ≡ request_effect config polled c request other
same_device_same_effect config polled c (CoreRequest call) acts other v = ap (call_effect call.xid)
    (admitted_same config polled c call.arguments acts other (inr (v.links, v.waits)) (same_device_same_ground c acts other v))
same_device_same_effect config polled c (AbortRequest xid (pos n)) acts other v = rw v.links refl
same_device_same_effect config polled c _ acts other v = refl

where_alike : (found : Option ℕ) (n : ℕ) (acts other : List DeviceAct) → SameDevice acts other
    → if_waiting found (Some n) acts ≡ if_waiting found (Some n) other
where_alike None n acts other v = refl
where_alike (Some d) n acts other v = rw v.waits refl

pub aborts_alike : (request : Request) (acts other : List DeviceAct) → SameDevice acts other → aborts request acts ≡ aborts request other
aborts_alike (AbortRequest xid (pos n)) acts other v =
    where_alike (owner_of (Some n) acts) n acts other v
    ∙ ap (λ (l : List LinkAct). if_waiting (owner n l) (Some n) other) v.links
aborts_alike (AbortRequest xid (negsuc n)) acts other v = refl
aborts_alike _ acts other v = refl

pub resumed_alike : (config : Config) (polled c : ℕ) (wait : Wait) (call : Option CoreCall) (acts other : List DeviceAct)
    → SameDevice acts other → resume_effect config polled c wait call acts ≡ resume_effect config polled c wait call other
resumed_alike config polled c wait None acts other v = refl
resumed_alike config polled c wait (Some call) acts other v =
    resumed_same config polled c wait call acts other (inr (v.links, v.waits)) (same_device_same_ground c acts other v)

-- ---- one step

-- The state of the device is the same in both logs, and so is each connection's pending call.
pub record SameCalls (log other : List Act) : Type 0 where
  pub device : SameDevice (device_acts log) (device_acts other)
  pub calls : (d : ℕ) → pending_call (of d log) ≡ pending_call (of d other)

pub same_calls_sym : (log other : List Act) → SameCalls log other → SameCalls other log
same_calls_sym log other v =
    record { device = same_device_sym (device_acts log) (device_acts other) v.device; calls = λ d. sym (v.calls d) }

-- The acts that lead from `log` to a log of which `Here` holds lead from `other` to one of which
-- `There` holds.
abbrev pub LeadsAlike : List Act → List Act → (List Act → Type 0) → (List Act → Type 0) → Type 0
LeadsAlike log other Here There = (new : List Act) → Here new → (adds : List Act) × (new ≡ adds ++ log) × There (adds ++ other)

first_shared : (log other : List Act) (A B C D : List Act → Type 0) → LeadsAlike log other A C → LeadsAlike other log C A
    → LeadsAlike log other B D → LeadsAlike log other (First A B) (First C D)
first_shared log other A B C D to from on new (inl a) = let so = to new a in (so.0, so.1, inl so.2)
first_shared log other A B C D to from on new (inr b) =
    let so = on new b.1 in (so.0, so.1, inr ((λ one c. let back = from one c in b.0 (back.0 ++ log) back.2), so.2))

does_shared : (IsSuch : List InstrumentAct → List InstrumentAct → Type 0) (log other : List Act)
    → ((new : List InstrumentAct) → IsSuch (instrument_acts (device_acts log)) new → (adds : List InstrumentAct)
    × (new ≡ adds ++ instrument_acts (device_acts log))
    × IsSuch (instrument_acts (device_acts other)) (adds ++ instrument_acts (device_acts other)))
    → LeadsAlike log other (InstrumentDoes IsSuch log) (InstrumentDoes IsSuch other)
does_shared IsSuch log other moves new (adds, such, is) =
    let there = instrument_acts (device_acts other) in
    let so = moves (adds ++ instrument_acts (device_acts log)) such in
    let same : adds ≡ so.0 = append_cancel_right adds so.0 (instrument_acts (device_acts log)) so.1 in (
      map OnDevice (map Applied adds),
      is,
      (adds, subst (λ (l : List InstrumentAct). IsSuch there (l ++ there)) (sym same) so.2, refl),
    )

fires_shared : (log other : List InstrumentAct) → SameInstrument log other → (new : List InstrumentAct) → IsFired log new
    → (adds : List InstrumentAct) × (new ≡ adds ++ log) × IsFired other (adds ++ other)
fires_shared log other v new (none, is) = (
  Scanned (Trigger Immediate) ∷ [],
  is,
  (ap (λ (l : List ScanAct). trigger_fault (effective l) Immediate) (sym v.status.scanned) ∙ none, refl),
)

able_alike : (acts other : List DeviceAct) (found : Option ℕ) → SameDevice acts other → IsOldest (wait_acts acts) (CanResume acts) found
    → IsOldest (wait_acts other) (CanResume other) found
able_alike acts other found v h = rw (answerable_alike acts other v, has_ended_same acts other v, v.links, v.waits) at h

resumes_shared : (config : Config) (log other : List Act) → SameCalls log other
    → LeadsAlike log other (Resumes config log) (Resumes config other)
resumes_shared config log other v new (c, wait, polled, oldest, for, said, is) =
    let call = core_call_in (pending_call (of c log)) in
    let effect = resume_effect config polled c wait call (device_acts log) in
    let same : effect ≡ resume_effect config polled c wait (core_call_in (pending_call (of c other))) (device_acts other) =
    resumed_alike config polled c wait call (device_acts log) (device_acts other) v.device
    ∙ ap (λ (o : Option (List ℕ)). resume_effect config polled c wait (core_call_in o) (device_acts other)) (v.calls c) in (
      acts_of c effect,
      is,
      (
        c,
        wait,
        polled,
        able_alike (device_acts log) (device_acts other) (Some c) v.device oldest,
        subst (λ (l : List WaitAct). waits c l ≡ Some wait) v.device.waits for,
        is_polled_same polled (device_acts log) (device_acts other) v.device said,
        ap (λ (e : Effect). acts_of c e ++ other) same,
      ),
    )

times_shared : (config : Config) (log other : List Act) → SameCalls log other
    → LeadsAlike log other (TimesOut config log) (TimesOut config other)
times_shared config log other v new (c, wait, oldest, for, is) =
    let acts = acts_of c (failure_effect (late wait) c (core_call_in (pending_call (of c log)))) in (
      acts,
      is,
      (
        c,
        wait,
        subst (λ (n : ℕ). IsOldest (wait_acts (device_acts other)) (IsExpired (config.clock + n) (wait_acts (device_acts other)))
            (Some c)) v.device.clock
            (subst (λ (l : List WaitAct). IsOldest l (IsExpired (config.clock + ticks (device_acts log)) l) (Some c)) v.device.waits
            oldest),
        subst (λ (l : List WaitAct). waits c l ≡ Some wait) v.device.waits for,
        ap (λ (o : Option (List ℕ)). acts_of c (failure_effect (late wait) c (core_call_in o)) ++ other) (v.calls c),
      ),
    )

pub same_calls_same_step : (config : Config) (log other : List Act) → SameCalls log other
    → LeadsAlike log other (IsNext config log) (IsNext config other)
same_calls_same_step config log other v =
    let back = same_calls_sym log other v in
    let here = instrument_acts (device_acts log) in
    let there = instrument_acts (device_acts other) in
    let times = TimesOut config other in
    let steps = First (InstrumentDoes IsStep other) times in
    let resumes = First (Resumes config other) steps in
    first_shared log other _ _ _ resumes (does_shared IsFired log other (fires_shared here there v.device.instrument))
    (does_shared IsFired other log (fires_shared there here back.device.instrument))
    (first_shared log other _ _ _ steps (resumes_shared config log other v) (resumes_shared config other log back)
    (first_shared log other _ _ _ times
    (does_shared IsStep log other (λ new step. same_instrument_same_step here there new v.device.instrument step))
    (does_shared IsStep other log (λ new step. same_instrument_same_step there here new back.device.instrument step))
    (times_shared config log other v)))
