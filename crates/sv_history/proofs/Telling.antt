-- The device's acts determine the acts of the interrupt channels, and which channels are open.
use Rattle.std.proofs.Common.{◌≡◌, ℕ, ◌+◌, zero, suc, Bool, true, false, List, [], ◌∷◌, ◌++◌, Option, Some, None, refl, sym, ap, subst, ◌∙◌, arith}
use Rattle.std.specs.Prelude.{map, ◌==◌, is_some, if◌then◌else◌}
use Rattle.sv_scan.specs.Condition.{bit}
use Rattle.sv_links.specs.declared.request.Peer.{Peer}
use Rattle.sv_links.specs.Links.{LinkAct, Destroyed}
use Rattle.sv_links.specs.Channels.{ChannelAct, ChannelOpened, ChannelClosed, Requested, peer, is_channel_open}
use Rattle.sv_layers.specs.Act.{Act as InstrumentAct}
use Rattle.sv_instrument.specs.RequestCount.{Raise}
use Rattle.sv_history.specs.Act.{DeviceAct, Linked, Waited, Channel, Applied, Ticked, channel_acts, instrument_acts}
use Rattle.sv_history.specs.Requests.{HearsOf, link_told, request_told}
use Rattle.sv_history.specs.Interrupts.{has_channel}
use Rattle.sv_history.proofs.Projections.{instrument_acts_applied}
use Rattle.sv_layers.proofs.Booleans.{same_bool}

-- The device's acts determine only one list of acts of the interrupt channels.
pub channel_log_unique : (acts : List DeviceAct) (a b : List ChannelAct) → HearsOf acts a → HearsOf acts b → a ≡ b
channel_log_unique [] a b x y = x ∙ sym y
channel_log_unique (Channel act ∷ acts) a b (s, channel_log, x) (t, other, y) =
    x ∙ ap (λ (l : List ChannelAct). act ∷ l) (channel_log_unique acts s t channel_log other) ∙ sym y
channel_log_unique (Linked act ∷ acts) a b (s, channel_log, x) (t, other, y) =
    x ∙ ap (link_told act) (channel_log_unique acts s t channel_log other) ∙ sym y
channel_log_unique (Applied act ∷ acts) a b (s, p, channel_log, so, x) (t, q, other, also, y) =
    x ∙ ap (request_told p) (channel_log_unique acts s t channel_log other)
    ∙ ap (λ (r : Bool). request_told r t) (same_bool p q so also) ∙ sym y
channel_log_unique (Waited act ∷ acts) a b x y = channel_log_unique acts a b x y
channel_log_unique (Ticked ∷ acts) a b x y = channel_log_unique acts a b x y

-- ---- which channels are open

pub peer_after_act : (c : ℕ) (act : ChannelAct) (a b : List ChannelAct) → peer c a ≡ peer c b → peer c (act ∷ a) ≡ peer c (act ∷ b)
peer_after_act c (ChannelOpened conn what) a b same = ap (λ (o : Option Peer). if conn == c then Some what else o) same
peer_after_act c (ChannelClosed conn) a b same = ap (λ (o : Option Peer). if conn == c then None else o) same
peer_after_act c _ a b same = same

peer_linked : (c : ℕ) (act : LinkAct) (channel_log : List ChannelAct) → peer c (link_told act channel_log) ≡ peer c channel_log
peer_linked c (Destroyed lid) channel_log = refl
peer_linked c _ channel_log = refl

peer_requested : (c : ℕ) (raised : Bool) (channel_log : List ChannelAct) → peer c (request_told raised channel_log) ≡ peer c channel_log
peer_requested c true channel_log = refl
peer_requested c false channel_log = refl

pub peer_by_channel_log : (c : ℕ) (acts : List DeviceAct) (channel_log : List ChannelAct) → HearsOf acts channel_log
    → peer c channel_log ≡ peer c (channel_acts acts)
peer_by_channel_log c [] channel_log x = ap (peer c) x
peer_by_channel_log c (Channel act ∷ acts) channel_log (before, is, x) =
    ap (peer c) x ∙ peer_after_act c act before (channel_acts acts) (peer_by_channel_log c acts before is)
peer_by_channel_log c (Linked act ∷ acts) channel_log (before, is, x) =
    ap (peer c) x ∙ peer_linked c act before ∙ peer_by_channel_log c acts before is
peer_by_channel_log c (Applied act ∷ acts) channel_log (before, raised, is, so, x) =
    ap (peer c) x ∙ peer_requested c raised before ∙ peer_by_channel_log c acts before is
peer_by_channel_log c (Waited act ∷ acts) channel_log x = peer_by_channel_log c acts channel_log x
peer_by_channel_log c (Ticked ∷ acts) channel_log x = peer_by_channel_log c acts channel_log x

pub channel_open_by_channel_log : (c : ℕ) (acts : List DeviceAct) (channel_log : List ChannelAct) → HearsOf acts channel_log
    → is_channel_open c channel_log ≡ has_channel c acts
channel_open_by_channel_log c acts channel_log x = ap (λ (o : Option Peer). is_some o) (peer_by_channel_log c acts channel_log x)

-- ---- service requests

-- The acts, followed by `n` service requests.
abbrev pub requests : ℕ → List ChannelAct → List ChannelAct
requests zero channel_log = channel_log
requests (suc n) channel_log = Requested ∷ requests n channel_log

pub requests_and_one_more : (n : ℕ) (raised : Bool) (channel_log : List ChannelAct)
    → requests (n + bit 0 raised) channel_log ≡ request_told raised (requests n channel_log)
requests_and_one_more n true channel_log = ap (λ (m : ℕ). requests m channel_log) (let e : n + 1 ≡ suc n = omega arith in e)
requests_and_one_more n false channel_log = ap (λ (m : ℕ). requests m channel_log) (let e : n + 0 ≡ n = omega arith in e)

pub channel_log_after_requests : (adds : List InstrumentAct) (acts : List DeviceAct) (channel_log : List ChannelAct) (n : ℕ)
    → Raise adds (instrument_acts acts) n → HearsOf acts channel_log → HearsOf (map Applied adds ++ acts) (requests n channel_log)
channel_log_after_requests [] acts channel_log n raise tells = subst (λ (m : ℕ). HearsOf acts (requests m channel_log)) (sym raise) tells
channel_log_after_requests (act ∷ adds) acts channel_log n (raised, before, so, rest, is) tells = (
  requests before channel_log,
  raised,
  channel_log_after_requests adds acts channel_log before rest tells,
  rw (instrument_acts_applied adds acts) so,
  ap (λ (m : ℕ). requests m channel_log) is ∙ requests_and_one_more before raised channel_log,
)
