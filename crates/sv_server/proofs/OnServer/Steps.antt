-- The steps that are due, taken one after the other, lead to a log after which none is due.
use Rattle.std.proofs.Common.{ℕ, suc, zero, List, refl, inl, inr}
use Rattle.sv_links.specs.Channels.{ChannelAct}
use Rattle.sv_layers.proofs.PolledByte.{polled_byte}
use Rattle.sv_history.specs.declared.event.Config.{Config}
use Rattle.sv_history.specs.Act.{Act, DeviceAct, instrument_acts}
use Rattle.sv_history.specs.Requests.{HearsOf}
use Rattle.sv_history.specs.PolledStatus.{IsPolled}
use Rattle.sv_history.specs.Settling.{First, IsNext, IsSettled, SettlesIn}
use Rattle.sv_server.specs.Server.Inside.Acting.{Reaches}
use Rattle.sv_server.specs.Device.Representation.{IsDevice, Device as KeptDevice}

-- There is a byte that a serial poll would return.
pub polled_now : (kept : KeptDevice) (config : Config) (acts : List DeviceAct) → IsDevice kept config acts
    → (polled : ℕ) × IsPolled polled acts
polled_now kept config acts is = polled_byte kept.instrument.layers (instrument_acts acts) is.1.layers.stands

-- There is a log of the interrupt channels.
pub channel_log_exists : (kept : KeptDevice) (config : Config) (acts : List DeviceAct) → IsDevice kept config acts
    → (channel_log : List ChannelAct) × HearsOf acts channel_log
channel_log_exists kept config acts is = (is.6.0, is.6.1)

-- No step is due if no step of any kind is possible.
first_none : (A B : List Act → Type 0) → ((x : List Act) → A x → ⊥) → ((x : List Act) → B x → ⊥) → (x : List Act) → First A B x → ⊥
first_none A B one other x (inl a) = one x a
first_none A B one other x (inr b) = other x b.1

pub no_step_if_none_possible : {A B C D : List Act → Type 0} → ((x : List Act) → A x → ⊥) → ((x : List Act) → B x → ⊥)
    → ((x : List Act) → C x → ⊥) → ((x : List Act) → D x → ⊥) → (x : List Act) → First A (First B (First C D)) x → ⊥
no_step_if_none_possible {A} {B} {C} {D} a b c d = first_none A (First B (First C D)) a (first_none B (First C D) b (first_none C D c d))

-- ---- sequences of steps

pub reaches_itself : (config : Config) (log : List Act) → Reaches config log log
reaches_itself config log = λ n new s. (n, s)

pub reaches_by_step : (config : Config) (log mid next : List Act) → Reaches config log mid → IsNext config mid next
    → Reaches config log next
reaches_by_step config log mid next goes one = λ n new s. goes (suc n) new (next, one, s)

pub reaches_trans : (config : Config) (log mid last : List Act) → Reaches config log mid → Reaches config mid last → Reaches config log last
reaches_trans config log mid last one other = λ n new s. let there = other n new s in one there.0 new there.1

pub settles_if_reached : (config : Config) (log mid : List Act) → Reaches config log mid → IsSettled config mid
    → (m : ℕ) × SettlesIn m config log mid
settles_if_reached config log mid goes none = goes zero mid (none, refl)
