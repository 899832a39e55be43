-- After an act of an interrupt channel, the device has the state that its acts determine.
use Rattle.std.proofs.Common.{◌≡◌, ℕ, Bool, true, List, [], ◌∷◌, ◌++◌, Option, Some, None, refl, sym, ap, subst, ◌∙◌, inl, inr, arith}
use Rattle.std.specs.Prelude.{map, filter, not, ◌==◌}
use Rattle.std.proofs.lemmas.Bool.{cases_Bool, cases_eq, eqb-true, ne_eqb}
use Rattle.sv_links.specs.declared.enabled.Enabled.{Enabled}
use Rattle.sv_links.specs.declared.waiting.Entry.{Entry}
use Rattle.sv_links.specs.declared.waiting.Wait.TheVariants.{Dial}
use Rattle.sv_links.specs.Links.{LinkAct, owner, is_of}
use Rattle.sv_links.specs.Waiting.{WaitAct, Entered, Left}
use Rattle.sv_links.specs.Queue.{IsQueue}
use Rattle.sv_links.specs.Channels.{ChannelAct, SrqEnabled, SrqDisabled}
use Rattle.sv_links.specs.ChannelRepresentation.{Channels, AreChannels, IsReady, HasRoomFor}
use Rattle.sv_links.proofs.Rising.{with_link, links_after_enable, links_after_disable, enabled_sorted}
use Rattle.sv_history.specs.declared.event.Config.{Config}
use Rattle.sv_history.specs.Act.{DeviceAct, Linked, Waited, Channel, link_acts, wait_acts}
use Rattle.sv_history.specs.Requests.{HearsOf}
use Rattle.sv_server.specs.Device.Representation.{Device, IsDevice, IsReserved, AreOwned, AreReady}
use Rattle.sv_history.proofs.Projections.{wait_acts_links}
use Rattle.sv_server.proofs.OnDevice.Parts.{dials_left}
use Rattle.sv_server.proofs.OnDevice.Owned.{room_to_enable_srq, owned_enabled}

-- A channel acts, and the rest of the device stays.
pub device_channel : (kept : Device) (intr : Channels) (config : Config) (acts : List DeviceAct) (act : ChannelAct)
    → IsDevice kept config acts → ((channel_log : List ChannelAct) → HearsOf acts channel_log → AreChannels kept.intr channel_log
    → AreChannels intr (act ∷ channel_log)) → AreOwned intr.enabled (link_acts acts) → AreReady intr (wait_acts acts)
    → IsDevice (record kept { intr = intr }) config (Channel act ∷ acts)
device_channel kept intr config acts act (links, instrument, set_up, clock, waiting, reserved, was, before) stands owned ready =
    let (channel_log, tells, are, had) = was in (
      links,
      instrument,
      set_up,
      clock,
      waiting,
      reserved,
      (act ∷ channel_log, (channel_log, tells, refl), stands channel_log tells are, owned),
      ready,
    )

-- Only the memory of a channel changes, so the same acts determine the device's state.
pub device_same : (kept : Device) (intr : Channels) (config : Config) (acts : List DeviceAct) → IsDevice kept config acts
    → ((channel_log : List ChannelAct) → AreChannels kept.intr channel_log → AreChannels intr channel_log)
    → intr.enabled ≡ kept.intr.enabled → AreReady intr (wait_acts acts) → IsDevice (record kept { intr = intr }) config acts
device_same kept intr config acts (links, instrument, set_up, clock, waiting, reserved, was, before) stands same ready =
    let (channel_log, tells, are, owned) = was in
    (links, instrument, set_up, clock, waiting, reserved, (channel_log, tells, stands channel_log are, rw same owned), ready)

-- After a connection's call leaves the queue, only the other connections' channels have to stay
-- prepared.
ready_left : (old new : Channels) (c : ℕ) (acts : List WaitAct) → AreReady old (Left c ∷ acts)
    → ((d : ℕ) → (d ≡ c → ⊥) → IsReady old d → IsReady new d) → AreReady new (Left c ∷ acts)
ready_left old new c acts ready others = λ d dials. others d (dials_left c d acts dials).1 (ready d dials)

pub device_left_same : (kept : Device) (intr : Channels) (config : Config) (acts : List DeviceAct) (c : ℕ)
    → IsDevice kept config (Waited (Left c) ∷ acts)
    → ((channel_log : List ChannelAct) → AreChannels kept.intr channel_log → AreChannels intr channel_log)
    → intr.enabled ≡ kept.intr.enabled → ((d : ℕ) → (d ≡ c → ⊥) → IsReady kept.intr d → IsReady intr d)
    → IsDevice (record kept { intr = intr }) config (Waited (Left c) ∷ acts)
device_left_same kept intr config acts c is stands same others =
    device_same kept intr config (Waited (Left c) ∷ acts) is stands same (ready_left kept.intr intr c (wait_acts acts) is.7 others)

pub device_cancelled : (kept : Device) (intr : Channels) (config : Config) (acts : List DeviceAct) (links : List LinkAct) (c : ℕ)
    → IsDevice kept config (map Linked links ++ Waited (Left c) ∷ acts)
    → ((channel_log : List ChannelAct) → AreChannels kept.intr channel_log → AreChannels intr channel_log)
    → intr.enabled ≡ kept.intr.enabled → ((d : ℕ) → (d ≡ c → ⊥) → IsReady kept.intr d → IsReady intr d)
    → IsDevice (record kept { intr = intr }) config (map Linked links ++ Waited (Left c) ∷ acts)
device_cancelled kept intr config acts links c is stands same others =
    let waits = wait_acts_links links (Waited (Left c) ∷ acts) in
    device_same kept intr config (map Linked links ++ Waited (Left c) ∷ acts) is stands same
    (subst (λ (w : List WaitAct). AreReady intr w) (sym waits)
    (ready_left kept.intr intr c (wait_acts acts) (subst (λ (w : List WaitAct). AreReady kept.intr w) waits is.7) others))

-- The channel of a call that left the queue opens.
pub device_opened : (kept : Device) (intr : Channels) (config : Config) (acts : List DeviceAct) (c : ℕ) (act : ChannelAct)
    → IsDevice kept config (Waited (Left c) ∷ acts)
    → ((channel_log : List ChannelAct) → AreChannels kept.intr channel_log → AreChannels intr (act ∷ channel_log))
    → intr.enabled ≡ kept.intr.enabled → ((d : ℕ) → (d ≡ c → ⊥) → IsReady kept.intr d → IsReady intr d)
    → IsDevice (record kept { intr = intr }) config (Channel act ∷ Waited (Left c) ∷ acts)
device_opened kept intr config acts c act is stands same others =
    device_channel kept intr config (Waited (Left c) ∷ acts) act is (λ channel_log tells are. stands channel_log are)
    (rw same is.6.3) (ready_left kept.intr intr c (wait_acts acts) is.7 others)

-- A call is suspended until its peer is connected. Its channel is prepared.
dials_ready : (intr : Channels) (c : ℕ) (named deadline : Option ℕ) (acts : List WaitAct) → AreReady intr acts → IsReady intr c
    → AreReady intr (Entered c named Dial deadline ∷ acts)
dials_ready intr c named deadline acts ready this = λ d dials. elim (cases_eq c d) [
  | inl e ↦ subst (λ (k : ℕ). IsReady intr k) e this
  | inr ne ↦ ready d (rw (ne_eqb c d ne) at dials)
]

pub device_dialing : (kept : Device) (waiting : List Entry) (config : Config) (acts : List DeviceAct) (c : ℕ) (named deadline : Option ℕ)
    → IsDevice kept config acts → IsQueue waiting (Entered c named Dial deadline ∷ wait_acts acts)
    → IsReserved (record kept { waiting = waiting }) acts → IsReady kept.intr c
    → IsDevice (record kept { waiting = waiting }) config (Waited (Entered c named Dial deadline) ∷ acts)
device_dialing kept waiting config acts c named deadline
    (links, instrument, set_up, clock, before, was, channel_log, ready) queue reserved this =
    (links, instrument, set_up, clock, queue, reserved, channel_log, dials_ready kept.intr c named deadline (wait_acts acts) ready this)

-- A link enables service requests. There is room for it.
pub room_there : (kept : Device) (config : Config) (acts : List DeviceAct) (lid conn : ℕ) → IsDevice kept config acts
    → owner lid (link_acts acts) ≡ Some conn → HasRoomFor lid kept.intr
room_there kept config acts lid conn is owns =
    let (channel_log, tells, are, owned) = is.6 in
    room_to_enable_srq kept.intr.enabled (link_acts acts) lid conn (rw are.enabled (enabled_sorted channel_log)) owned owns
    (omega (arith, is.5.0))

pub device_enabled : (kept : Device) (intr : Channels) (config : Config) (acts : List DeviceAct) (lid conn : ℕ) (handle : List ℕ)
    → IsDevice kept config acts → owner lid (link_acts acts) ≡ Some conn
    → (HasRoomFor lid kept.intr → (channel_log : List ChannelAct) → AreChannels kept.intr channel_log
    → AreChannels intr (SrqEnabled lid conn handle ∷ channel_log)) → ((c : ℕ) → IsReady kept.intr c → IsReady intr c)
    → IsDevice (record kept { intr = intr }) config (Channel (SrqEnabled lid conn handle) ∷ acts)
device_enabled kept intr config acts lid conn handle is owns stands still =
    let (channel_log, tells, are, owned) = is.6 in
    let room = room_there kept config acts lid conn is owns in
    let now = stands room channel_log are in
    let link : Enabled = record { lid = lid; conn = conn; handle = handle } in
    let more : intr.enabled ≡ with_link link kept.intr.enabled =
    now.enabled ∙ links_after_enable link channel_log ∙ ap (with_link link) (sym are.enabled) in
    device_channel kept intr config acts (SrqEnabled lid conn handle) is (λ t tells are. stands room t are)
    (rw more (owned_enabled kept.intr.enabled (link_acts acts) lid conn handle owned owns)) (λ c dials. still c (is.7 c dials))

-- A link disables service requests.
owned_less : (keeps : Enabled → Bool) (links : List Enabled) (acts : List LinkAct) → AreOwned links acts
    → AreOwned (filter keeps links) acts
owned_less keeps [] acts owned = tt
owned_less keeps (link ∷ links) acts owned = elim (cases_Bool (keeps link)) [
  | inl e ↦ rw e (owned.0, owned_less keeps links acts owned.1)
  | inr e ↦ rw e (owned_less keeps links acts owned.1)
]

pub device_disabled : (kept : Device) (intr : Channels) (config : Config) (acts : List DeviceAct) (lid : ℕ) → IsDevice kept config acts
    → ((channel_log : List ChannelAct) → AreChannels kept.intr channel_log → AreChannels intr (SrqDisabled lid ∷ channel_log))
    → ((c : ℕ) → IsReady kept.intr c → IsReady intr c) → IsDevice (record kept { intr = intr }) config (Channel (SrqDisabled lid) ∷ acts)
device_disabled kept intr config acts lid is stands still =
    let (channel_log, tells, are, owned) = is.6 in
    let now = stands channel_log are in
    let less : intr.enabled ≡ filter (λ other. not (other.lid == lid)) kept.intr.enabled =
    now.enabled ∙ links_after_disable lid channel_log ∙ ap (λ (links : List Enabled). filter (λ other. not (other.lid == lid)) links)
    (sym are.enabled) in
    device_channel kept intr config acts (SrqDisabled lid) is (λ t tells are. stands t are)
    (rw less (owned_less (λ other. not (other.lid == lid)) kept.intr.enabled (link_acts acts) owned)) (λ c dials. still c (is.7 c dials))

pub owner_is : (c : ℕ) (found : Option ℕ) → is_of c found ≡ true → found ≡ Some c
owner_is c (Some other) e = ap (λ (n : ℕ). Some n) (eqb-true other c e)
owner_is c None e = absurd cc
