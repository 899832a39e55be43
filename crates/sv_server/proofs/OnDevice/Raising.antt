-- The requests for service that the instrument raises are sent on the interrupt channels.
use Rattle.std.proofs.Common.{◌≡◌, ℕ, false, List, ◌++◌, Option, Some, None, refl, ap, subst, sym, ◌∙◌}
use Rattle.std.specs.Prelude.{map, is_some, IfNone}
use Rattle.std.proofs.lemmas.List.{append_cancel_right}
use Rattle.sv_links.specs.Channels.{ChannelAct}
use Rattle.sv_links.specs.ChannelRepresentation.{Channels, AreChannels, IsReady}
use Rattle.sv_layers.specs.Act.{Act as InstrumentAct}
use Rattle.sv_instrument.specs.Representation.{Kept, StandsFor, Ran, Takes}
use Rattle.sv_instrument.specs.RequestCount.{Raise}
use Rattle.sv_history.specs.declared.event.Config.{Config}
use Rattle.sv_history.specs.Act.{DeviceAct, Applied, instrument_acts}
use Rattle.sv_server.specs.Device.Representation.{Device, IsDevice, HasDone}
use Rattle.sv_history.proofs.Projections.{link_acts_applied, instrument_acts_applied, ticks_applied, wait_acts_applied}
use Rattle.sv_server.proofs.OnDevice.Effects.{device_done}
use Rattle.sv_server.specs.Device.Inside.Outcome.{InstrumentSteps}
use Rattle.sv_history.proofs.Telling.{requests, channel_log_after_requests}

-- The channels have the state after `n` more requests for service.
abbrev pub Tolls : Channels → Channels → ℕ → Type 0
Tolls old new n = (channel_log : List ChannelAct) → AreChannels old channel_log → AreChannels new (requests n channel_log)

-- The channels got as many requests as the instrument raised, so the device stands for its acts.
pub device_raised : (kept : Device) (intr : Channels) (config : Config) (acts : List DeviceAct) (adds : List InstrumentAct) (n : ℕ)
    → HasDone adds kept config acts → Raise adds (instrument_acts acts) n → Tolls kept.intr intr n → intr.enabled ≡ kept.intr.enabled
    → ((c : ℕ) → IsReady kept.intr c → IsReady intr c) → IsDevice (record kept { intr = intr }) config (map Applied adds ++ acts)
device_raised kept intr config acts adds n (links, instrument, set_up, clock, waiting, reserved, was, ready) raise tolls same still = (
  rw (link_acts_applied adds acts) links,
  rw (instrument_acts_applied adds acts) instrument,
  set_up,
  rw (ticks_applied adds acts) clock,
  rw (wait_acts_applied adds acts) waiting,
  (rw (link_acts_applied adds acts) reserved.0, reserved.1),
  (
    requests n was.0,
    channel_log_after_requests adds acts was.0 n raise was.1,
    tolls was.0 was.2,
    rw (link_acts_applied adds acts, same)
        was.3,
  ),
  rw (wait_acts_applied adds acts) (λ c dials. still c (ready c dials)),
)

-- How many requests a run of the instrument raised depends only on the logs before and after it.
raise_of : (log adds acts : List InstrumentAct) (n : ℕ) → adds ++ log ≡ acts ++ log → Raise acts log n → Raise adds log n
raise_of log adds acts n same raise =
    subst (λ (xs : List InstrumentAct). Raise xs log n) (sym (append_cancel_right adds acts log same)) raise

pub ran_raised : (kept : Kept) (n : ℕ) (log adds : List InstrumentAct) → Ran kept n log (adds ++ log) → Raise adds log n
ran_raised kept n log adds ran = raise_of log adds ran.raises.acts n ran.raises.new_is ran.raises.count_is

-- If the instrument raised `n` requests in `old`, the device stands for its acts in `new`.
abbrev pub RaisesInto : Device → Device → ℕ → Type 0
RaisesInto old new n = (config : Config) (acts : List DeviceAct) (adds : List InstrumentAct)
    → HasDone adds old config acts → Raise adds (instrument_acts acts) n → IsDevice new config (map Applied adds ++ acts)

pub device_ran : (kept : Device) (instrument : Kept) (new : Device) (config : Config) (acts : List DeviceAct) (adds : List InstrumentAct)
    (n : ℕ) → IsDevice kept config acts → Ran instrument n (instrument_acts acts) (adds ++ instrument_acts acts)
    → RaisesInto (record kept { instrument = instrument }) new n → IsDevice new config (map Applied adds ++ acts)
device_ran kept instrument new config acts adds n is ran raises = raises config acts adds
    (device_done kept instrument config acts adds is ran.stands) (ran_raised instrument n (instrument_acts acts) adds ran)

-- The same for a step that the instrument takes only if one is due.
pub instrument_steps : (IsSuch : List InstrumentAct → List InstrumentAct → Type 0) (kept new : Device) (instrument : Kept)
    (config : Config) (acts : List DeviceAct) (raised : Option ℕ)
    → IsDevice kept config acts → Takes IsSuch instrument raised (instrument_acts acts) → IfNone raised (instrument ≡ kept.instrument)
    → ((count : ℕ) → raised ≡ Some count → RaisesInto (record kept { instrument = instrument }) new count)
    → (raised ≡ None → new ≡ record kept { instrument = instrument }) → InstrumentSteps IsSuch (is_some raised) config acts kept new
instrument_steps IsSuch kept new instrument config acts None is none same raises stays =
    (none, stays refl ∙ ap (λ (k : Kept). record kept { instrument = k }) same)
instrument_steps IsSuch kept new instrument config acts (Some count) is (after, such, ran) same raises stays =
    let adds = ran.raises.acts in (
      adds,
      subst (λ (l : List InstrumentAct). IsSuch (instrument_acts acts) l) ran.raises.new_is such,
      raises count refl config acts adds
          (device_done kept instrument config acts adds is
          (subst (λ (l : List InstrumentAct). StandsFor instrument l) ran.raises.new_is ran.stands)) ran.raises.count_is,
    )

pub idle_as : (kept new : Device) (instrument : Kept) (raised : Option ℕ) → IfNone raised (instrument ≡ kept.instrument)
    → (raised ≡ None → new ≡ record kept { instrument = instrument }) → is_some raised ≡ false → new ≡ kept
idle_as kept new instrument None same stays e = stays refl ∙ ap (λ (k : Kept). record kept { instrument = k }) same
idle_as kept new instrument (Some count) same stays e = absurd cc

pub none_named : {A : Type 0} (taken : Option A) (IsSo : Type 0) → is_some taken ≡ false → IfNone taken IsSo → IsSo
none_named None IsSo e so = so
none_named (Some a) IsSo e so = absurd cc
