-- An act in the log of a connection or of an interrupt channel makes no step due. No step is due
-- after the last one, or in the empty log.
use Rattle.std.proofs.Common.{◌≡◌, ℕ, ◌+◌, List, ◌∷◌, ◌++◌, Some, refl, sym, subst, inl, inr, zero, suc, [], None}
use Rattle.std.specs.Prelude.{map}
use Rattle.sv_links.specs.Waiting.{waits, IsOldest, IsExpired}
use Rattle.sv_links.specs.Channels.{ChannelAct}
use Rattle.sv_layers.specs.Act.{Act as InstrumentAct}
use Rattle.sv_instrument.specs.Stimulus.{IsFired}
use Rattle.sv_instrument.specs.Step.{IsStep}
use Rattle.sv_history.specs.declared.event.Config.{Config}
use Rattle.sv_history.specs.Act.{Act, ConnAct, DeviceAct, Channel, Applied, On, OnDevice, device_acts, wait_acts, instrument_acts, ticks}
use Rattle.sv_history.specs.PolledStatus.{IsPolled}
use Rattle.sv_history.specs.Settling.{First, InstrumentDoes, CanResume, Resumes, TimesOut, IsNext, IsSettled, SettlesIn}
use Rattle.sv_history.proofs.OneStep.{log_after_resume, log_after_timeout}

instrument_step_back : (IsSuch : List InstrumentAct → List InstrumentAct → Type 0) (log other new : List Act)
    → device_acts other ≡ device_acts log → InstrumentDoes IsSuch other new → (there : List Act) × InstrumentDoes IsSuch log there
instrument_step_back IsSuch log other new same (adds, such, is) = (
  map OnDevice (map Applied adds) ++ log,
  (adds, subst (λ (acts : List DeviceAct). IsSuch (instrument_acts acts) (adds ++ instrument_acts acts)) same such, refl),
)

resumes_back : (config : Config) (log other new : List Act) → device_acts other ≡ device_acts log → Resumes config other new
    → (there : List Act) × Resumes config log there
resumes_back config log other new same (c, wait, polled, oldest, for, said, is) = (
  log_after_resume config log polled c wait,
  (
    c,
    wait,
    polled,
    subst (λ (acts : List DeviceAct). IsOldest (wait_acts acts) (CanResume acts) (Some c)) same oldest,
    subst (λ (acts : List DeviceAct). waits c (wait_acts acts) ≡ Some wait) same for,
    subst (λ (acts : List DeviceAct). IsPolled polled acts) same said,
    refl,
  ),
)

times_out_back : (config : Config) (log other new : List Act) → device_acts other ≡ device_acts log → TimesOut config other new
    → (there : List Act) × TimesOut config log there
times_out_back config log other new same (c, wait, oldest, for, is) = (
  log_after_timeout log c wait,
  (
    c,
    wait,
    subst (λ (acts : List DeviceAct). IsOldest (wait_acts acts) (IsExpired (config.clock + ticks acts) (wait_acts acts)) (Some c))
        same oldest,
    subst (λ (acts : List DeviceAct). waits c (wait_acts acts) ≡ Some wait) same for,
    refl,
  ),
)

-- If a step of the first kind is possible, so is one of the second kind.
abbrev pub PossibleIfOther : (List Act → Type 0) → (List Act → Type 0) → Type 0
PossibleIfOther Here There = (new : List Act) → Here new → (there : List Act) × There there

pub first_back : (A B C D : List Act → Type 0) → PossibleIfOther A C → PossibleIfOther C A → PossibleIfOther B D
    → PossibleIfOther (First A B) (First C D)
first_back A B C D to from on new (inl a) = ((to new a).0, inl (to new a).1)
first_back A B C D to from on new (inr b) =
    ((on new b.1).0, inr ((λ one c. b.0 (from one c).0 (from one c).1), (on new b.1).1))

next_back : (config : Config) (log other : List Act) → device_acts other ≡ device_acts log
    → PossibleIfOther (IsNext config other) (IsNext config log)
next_back config log other same = first_back _ _ _ _ (λ new. instrument_step_back IsFired log other new same)
    (λ new. instrument_step_back IsFired other log new (sym same))
    (first_back _ _ _ _ (λ new. resumes_back config log other new same) (λ new. resumes_back config other log new (sym same))
    (first_back _ _ _ _ (λ new. instrument_step_back IsStep log other new same)
    (λ new. instrument_step_back IsStep other log new (sym same))
    (λ new. times_out_back config log other new same)))

pub still_settled : (c : ℕ) (act : ConnAct) (config : Config) (log : List Act) → IsSettled config log → IsSettled config (On c act ∷ log)
still_settled c act config log none = λ new next.
    let there = next_back config log (On c act ∷ log) refl new next in none there.0 there.1

-- The same for an act of an interrupt channel.
channel_happens : (act : ChannelAct) (IsSuch : List InstrumentAct → List InstrumentAct → Type 0) (log new : List Act)
    → InstrumentDoes IsSuch (OnDevice (Channel act) ∷ log) new → (there : List Act) × InstrumentDoes IsSuch log there
channel_happens act IsSuch log new (adds, such, is) = (map OnDevice (map Applied adds) ++ log, (adds, such, refl))

happens_channel : (act : ChannelAct) (IsSuch : List InstrumentAct → List InstrumentAct → Type 0) (log new : List Act)
    → InstrumentDoes IsSuch log new → (there : List Act) × InstrumentDoes IsSuch (OnDevice (Channel act) ∷ log) there
happens_channel act IsSuch log new (adds, such, is) = (map OnDevice (map Applied adds) ++ OnDevice (Channel act) ∷ log, (adds, such, refl))

resumes_without_channel_act : (act : ChannelAct) (config : Config) (log new : List Act) → Resumes config (OnDevice (Channel act) ∷ log) new
    → (there : List Act) × Resumes config log there
resumes_without_channel_act act config log new (c, wait, polled, oldest, for, said, is) =
    (log_after_resume config log polled c wait, (c, wait, polled, oldest, for, said, refl))

resumes_with_channel_act : (act : ChannelAct) (config : Config) (log new : List Act) → Resumes config log new
    → (there : List Act) × Resumes config (OnDevice (Channel act) ∷ log) there
resumes_with_channel_act act config log new (c, wait, polled, oldest, for, said, is) =
    (log_after_resume config (OnDevice (Channel act) ∷ log) polled c wait, (c, wait, polled, oldest, for, said, refl))

channel_gives : (act : ChannelAct) (config : Config) (log new : List Act) → TimesOut config (OnDevice (Channel act) ∷ log) new
    → (there : List Act) × TimesOut config log there
channel_gives act config log new (c, wait, oldest, for, is) = (log_after_timeout log c wait, (c, wait, oldest, for, refl))

pub channel_settled : (act : ChannelAct) (config : Config) (log : List Act) → IsSettled config log
    → IsSettled config (OnDevice (Channel act) ∷ log)
channel_settled act config log none = λ new next.
    let there = first_back _ _ _ _ (λ new. channel_happens act IsFired log new) (λ new. happens_channel act IsFired log new)
    (first_back _ _ _ _ (λ new. resumes_without_channel_act act config log new) (λ new. resumes_with_channel_act act config log new)
    (first_back _ _ _ _ (λ new. channel_happens act IsStep log new) (λ new. happens_channel act IsStep log new)
    (λ new. channel_gives act config log new))) new next in none there.0 there.1

-- ---- after the last step, and before any event, none is due

pub settling_ends_settled : (n : ℕ) (config : Config) (log new : List Act) → SettlesIn n config log new → IsSettled config new
settling_ends_settled zero config log new (none, same) = subst (λ (end : List Act). IsSettled config end) (sym same) none
settling_ends_settled (suc n) config log new (middle, next, more) = settling_ends_settled n config middle new more

pub empty_log_is_settled : (config : Config) → IsSettled config []
empty_log_is_settled config new (inl fires) = absurd (let none = fires.1.0 in cc)
empty_log_is_settled config new (inr (none, inl goes)) = absurd (let z : None ≡ Some goes.1 = goes.4 in cc)
empty_log_is_settled config new (inr (none, inr (still, inl step))) = step.1
empty_log_is_settled config new (inr (none, inr (still, inr (idle, gives)))) = absurd (let z : None ≡ Some gives.1 = gives.3 in cc)
