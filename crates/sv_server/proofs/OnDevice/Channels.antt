-- Which interrupt channels are open, what waits on them, and when a Took of a channel is refused.
use Rattle.std.proofs.Common.{◌≡◌, ◌≢◌, ℕ, ◌<◌, ◌≤◌, not, Bool, true, false, cond, List, [], ◌∷◌, length, Option, Some, None, refl, sym, ap, subst, ◌∙◌, inl, inr, arith}
use Rattle.std.specs.Prelude.{is_some, nat_lt}
use Rattle.std.specs.List.{concat}
use Rattle.std.proofs.lemmas.Bool.{lt-ltb, le-ltb, ne_eqb, cases_lt, not-false, or_parts}
use Rattle.sv_links.specs.declared.request.Peer.{Peer}
use Rattle.sv_links.specs.Channels.{ChannelAct, ChannelTaken, is_channel_open, bytes_taken, calls, calls_left, waiting as channel_waiting}
use Rattle.sv_links.specs.ChannelRepresentation.{AreChannels}
use Rattle.sv_history.specs.declared.event.Config.{Config}
use Rattle.sv_history.specs.Act.{Act, DeviceAct, of, device_acts, wait_acts}
use Rattle.sv_history.specs.Requests.{HearsOf}
use Rattle.sv_history.specs.Interrupts.{has_channel, is_dial, is_dialing, dial_of, dial_in}
use Rattle.sv_history.specs.Connection.{pending_call}
use Rattle.sv_history.specs.CoreCall.{CoreCall}
use Rattle.sv_history.specs.Request.{core_call_in}
use Rattle.sv_history.specs.declared.event.Refused.TheVariants.{NotSent}
use Rattle.sv_links.specs.Waiting.{WaitAct, waits}
use Rattle.sv_server.specs.Device.Representation.{Device as KeptDevice, IsDevice}
use Rattle.sv_history.specs.History.{is_channel_shut, took_refusal}
use Rattle.sv_history.proofs.Telling.{channel_log_unique}

-- The channels have the state that their log determines.
channels_of : (kept : KeptDevice) (config : Config) (acts : List DeviceAct) (channel_log : List ChannelAct) → IsDevice kept config acts
    → HearsOf acts channel_log → AreChannels kept.intr channel_log
channels_of kept config acts channel_log is tells =
    subst (λ (l : List ChannelAct). AreChannels kept.intr l) (channel_log_unique acts is.6.0 channel_log is.6.1 tells) is.6.2

none_wait_if_shut : (open_now : Bool) (bytes : List ℕ) → open_now ≡ false → cond open_now bytes [] ≡ []
none_wait_if_shut open_now bytes shut = ap (λ (b : Bool). cond b bytes []) shut

-- No channel with a number above 15 is open.
beyond_shut : (kept : KeptDevice) (config : Config) (acts : List DeviceAct) (channel_log : List ChannelAct) (c : ℕ)
    → IsDevice kept config acts → HearsOf acts channel_log → 16 ≤ c → is_channel_open c channel_log ≡ false
beyond_shut kept config acts channel_log c is tells above =
    ap (λ (o : Option Peer). is_some o) ((channels_of kept config acts channel_log is tells).beyond c above)

pub none_wait_beyond : (kept : KeptDevice) (config : Config) (acts : List DeviceAct) (channel_log : List ChannelAct) (c : ℕ)
    → IsDevice kept config acts → HearsOf acts channel_log → 16 ≤ c → channel_waiting c channel_log ≡ []
none_wait_beyond kept config acts channel_log c is tells above =
    none_wait_if_shut (is_channel_open c channel_log) (concat (calls_left (bytes_taken c channel_log) (calls c channel_log)))
    (beyond_shut kept config acts channel_log c is tells above)

pub channel_within : (kept : KeptDevice) (config : Config) (acts : List DeviceAct) (channel_log : List ChannelAct) (c : ℕ)
    → IsDevice kept config acts → HearsOf acts channel_log → is_channel_open c channel_log ≡ true → c ≤ 15
channel_within kept config acts channel_log c is tells there = elim (cases_lt c 16) [
  | inl below_it ↦ omega arith
  | inr above ↦ absurd (let z : true ≡ false = sym there ∙ beyond_shut kept config acts channel_log c is tells above in cc)
]

-- A channel is shut exactly if its connection has none.
pub channel_shut_is : (c : ℕ) (log : List Act) (b : Bool) → c < 16 → has_channel c (device_acts log) ≡ b → is_channel_shut c log ≡ not b
channel_shut_is c log b lt e = rw (le-ltb 15 c (omega arith), e) refl

pub has_channel_if_open : (c : ℕ) (log : List Act) → is_channel_shut c log ≡ false → has_channel c (device_acts log) ≡ true
has_channel_if_open c log unshut =
    not-false (has_channel c (device_acts log)) (or_parts (nat_lt 15 c) (not (has_channel c (device_acts log))) unshut).1

-- A Took of one channel leaves the bytes that wait on another.
pub took_leaves_other_channel : (c d count : ℕ) (channel_log : List ChannelAct) → d ≢ c
    → channel_waiting c (ChannelTaken d count ∷ channel_log) ≡ channel_waiting c channel_log
took_leaves_other_channel c d count channel_log ne = rw (ne_eqb d c ne) refl

-- A Took is refused exactly if it counts more bytes than wait.
pub took_refused : (count : ℕ) (bytes found : List ℕ) → found ≡ bytes → length found < count → took_refusal count bytes ≡ Some NotSent
took_refused count bytes found same more = rw (← same, lt-ltb (length found) count more) refl

pub took_allowed : (count : ℕ) (bytes found : List ℕ) → found ≡ bytes → count ≤ length found → took_refusal count bytes ≡ None
took_allowed count bytes found same few = rw (← same, le-ltb (length found) count few) refl

-- A connection whose create_intr_chan waits for its peer has a suspended call.
pub dialing_call_is_suspended : (c : ℕ) (acts : List WaitAct) → is_dialing c acts ≡ true → waits c acts ≡ None → ⊥
dialing_call_is_suspended c acts e none = absurd (let z : false ≡ true = sym (ap is_dial none) ∙ e in cc)

-- The peer to connect to is the one that the suspended create_intr_chan names.
pub dial_is : (c : ℕ) (log : List Act) (call : Option CoreCall) → is_dialing c (wait_acts (device_acts log)) ≡ true
    → core_call_in (pending_call (of c log)) ≡ call → dial_of c log ≡ dial_in call
dial_is c log call dialing known = rw dialing (ap dial_in known)

pub no_dial : (c : ℕ) (log : List Act) → is_dialing c (wait_acts (device_acts log)) ≡ false → dial_of c log ≡ None
no_dial c log idle = rw idle refl
