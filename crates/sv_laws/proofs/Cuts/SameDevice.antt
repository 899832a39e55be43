-- Two logs in which the state of the device is the same, though program text was accepted in other
-- writes: the same call has the same effect after both.
use Rattle.std.proofs.Common.{◌≡◌, ℕ, ◌+◌, Bool, true, false, List, [], ◌∷◌, ◌++◌, refl, sym, ap, subst, ◌∙◌}
use Rattle.std.specs.Prelude.{◌↔◌}
use Rattle.sv_links.specs.Links.{LinkAct}
use Rattle.sv_links.specs.Waiting.{WaitAct}
use Rattle.sv_links.specs.Channels.{ChannelAct, peer}
use Rattle.sv_exchange.specs.Exchange.{Accepted, has_ended, response}
use Rattle.sv_layers.specs.Act.{Act as InstrumentAct, Exchanged, exchange_acts}
use Rattle.sv_layers.specs.StatusByte.{IsRaised}
use Rattle.sv_instrument.specs.Step.{is_answerable}
use Rattle.sv_history.specs.Act.{DeviceAct, Linked, Waited, Channel, Applied, Ticked, link_acts, wait_acts, channel_acts, instrument_acts, ticks}
use Rattle.sv_history.specs.PolledStatus.{IsPolled}
use Rattle.sv_history.specs.Requests.{HearsOf, request_told}
use Rattle.sv_history.proofs.Telling.{peer_after_act}
use Rattle.sv_laws.proofs.SameOutcomes.{SameGround}
use Rattle.sv_laws.proofs.Cuts.SameExchange.{ended_same, response_same}
use Rattle.sv_laws.proofs.Cuts.SameStatus.{SameStatus, same_act_raises_same, text_raises_no_request, polled_same}
use Rattle.sv_laws.proofs.Cuts.SameInstrument.{SameInstrument, same_instrument_refl, act_keeps_same_instrument, same_instrument_sym}

pub record SameDevice (acts other : List DeviceAct) : Type 0 where
  pub links : link_acts acts ≡ link_acts other
  pub waits : wait_acts acts ≡ wait_acts other
  pub channels : (c : ℕ) → peer c (channel_acts acts) ≡ peer c (channel_acts other)
  pub instrument : SameInstrument (instrument_acts acts) (instrument_acts other)
  pub clock : ticks acts ≡ ticks other

pub same_device_refl : (acts : List DeviceAct) → SameDevice acts acts
same_device_refl acts = record {
  links = refl;
  waits = refl;
  channels = λ c. refl;
  instrument = same_instrument_refl (instrument_acts acts);
  clock = refl;
}

pub act_keeps_same_device : (act : DeviceAct) (acts other : List DeviceAct) → SameDevice acts other → SameDevice (act ∷ acts) (act ∷ other)
act_keeps_same_device (Linked act) acts other v = assumption (ap (λ (l : List LinkAct). act ∷ l) v.links)
act_keeps_same_device (Waited act) acts other v = assumption (ap (λ (l : List WaitAct). act ∷ l) v.waits)
act_keeps_same_device (Channel act) acts other v = record {
  links = v.links;
  waits = v.waits;
  channels = λ c. peer_after_act c act (channel_acts acts) (channel_acts other) (v.channels c);
  instrument = v.instrument;
  clock = v.clock;
}
act_keeps_same_device (Applied act) acts other v =
    assumption (act_keeps_same_instrument act (instrument_acts acts) (instrument_acts other) v.instrument)
act_keeps_same_device Ticked acts other v = assumption (ap (λ (n : ℕ). n + 1) v.clock)

-- ---- the log of the interrupt channels

-- Each log of the interrupt channels that the acts of the one lead to is one for the other too.
abbrev pub Tells : List DeviceAct → List DeviceAct → Type 0
Tells acts other = (channel_log : List ChannelAct) → HearsOf acts channel_log → HearsOf other channel_log

pub tells_happened : (act : InstrumentAct) (acts other : List DeviceAct) → SameStatus (instrument_acts acts) (instrument_acts other)
    → Tells acts other → Tells (Applied act ∷ acts) (Applied act ∷ other)
tells_happened act acts other v tells channel_log (before, raised, hears, so, is) =
    let same = same_act_raises_same act (instrument_acts acts) (instrument_acts other) v in
    (before, raised, tells before hears, ((λ e. same.0 (so.0 e)), (λ r. so.1 (same.1 r))), is)

pub tells_act : (act : DeviceAct) (acts other : List DeviceAct) → SameDevice acts other → Tells acts other
    → Tells (act ∷ acts) (act ∷ other)
tells_act (Linked act) acts other v tells channel_log (before, hears, is) = (before, tells before hears, is)
tells_act (Waited act) acts other v tells channel_log hears = tells channel_log hears
tells_act (Channel act) acts other v tells channel_log (before, hears, is) = (before, tells before hears, is)
tells_act (Applied act) acts other v tells channel_log hears =
    tells_happened act acts other v.instrument.status tells channel_log hears
tells_act Ticked acts other v tells channel_log hears = tells channel_log hears

-- The act that accepts the bytes of a write. It leaves the log of the interrupt channels as it is.
abbrev pub accepts : List ℕ → Bool → DeviceAct
accepts bytes ended = Applied (Exchanged (Accepted bytes ended))

raised_not : (raised : Bool) (P : Type 0) → (P → ⊥) → ((raised ≡ true) ↔ P) → raised ≡ false
raised_not true P none so = absurd (none (so.0 refl))
raised_not false P none so = refl

pub tells_accepted : (bytes : List ℕ) (ended : Bool) (acts : List DeviceAct) → Tells (accepts bytes ended ∷ acts) acts
tells_accepted bytes ended acts channel_log (before, raised, hears, so, is) =
    let quiet = raised_not raised (IsRaised (Exchanged (Accepted bytes ended) ∷ instrument_acts acts))
    (text_raises_no_request bytes ended (instrument_acts acts)) so in
    subst (λ (l : List ChannelAct). HearsOf acts l) (sym (is ∙ ap (λ (b : Bool). request_told b before) quiet)) hears

pub tells_also : (bytes : List ℕ) (ended : Bool) (acts : List DeviceAct) → Tells acts (accepts bytes ended ∷ acts)
tells_also bytes ended acts channel_log hears = (
  channel_log,
  false,
  hears,
  ((λ e. absurd (let z : false ≡ true = e in cc)), (λ r. absurd (text_raises_no_request bytes ended (instrument_acts acts) r))),
  refl,
)

-- ---- calls

pub has_ended_same : (acts other : List DeviceAct) → SameDevice acts other
    → has_ended (exchange_acts (instrument_acts acts)) ≡ has_ended (exchange_acts (instrument_acts other))
has_ended_same acts other v = ended_same (exchange_acts (instrument_acts acts)) (exchange_acts (instrument_acts other))
    v.instrument.status.exchange v.instrument.texts

response_alike : (acts other : List DeviceAct) → SameDevice acts other
    → response (exchange_acts (instrument_acts acts)) ≡ response (exchange_acts (instrument_acts other))
response_alike acts other v = response_same (exchange_acts (instrument_acts acts)) (exchange_acts (instrument_acts other))
    v.instrument.status.exchange

pub answerable_alike : (acts other : List DeviceAct) → SameDevice acts other
    → is_answerable (instrument_acts acts) ≡ is_answerable (instrument_acts other)
answerable_alike acts other v = rw (response_alike acts other v, v.instrument.holds, has_ended_same acts other v) refl

pub is_polled_same : (polled : ℕ) (acts other : List DeviceAct) → SameDevice acts other → IsPolled polled acts → IsPolled polled other
is_polled_same polled acts other v said = λ k.
    let same = polled_same k (instrument_acts acts) (instrument_acts other) v.instrument.status in
    ((λ b. same.0 ((said k).0 b)), (λ p. (said k).1 (same.1 p)))

-- All that determines the effect of a call of connection `c` is the same.
pub same_device_same_ground : (c : ℕ) (acts other : List DeviceAct) → SameDevice acts other → SameGround c acts other
same_device_same_ground c acts other v = record {
  ended = has_ended_same acts other v;
  answerable = answerable_alike acts other v;
  responds = response_alike acts other v;
  scanned = v.instrument.status.scanned;
  owned = λ n. rw v.links refl;
  held = rw v.links refl;
  opened = v.channels c;
  clock = v.clock;
}

pub same_device_sym : (acts other : List DeviceAct) → SameDevice acts other → SameDevice other acts
same_device_sym acts other v = record {
  links = sym v.links;
  waits = sym v.waits;
  channels = λ c. sym (v.channels c);
  instrument = same_instrument_sym (instrument_acts acts) (instrument_acts other) v.instrument;
  clock = sym v.clock;
}
