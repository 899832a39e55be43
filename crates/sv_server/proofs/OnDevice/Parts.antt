-- The device keeps the state that its acts determine over each act of links and of suspended calls.
use Rattle.std.proofs.Common.{◌≡◌, ◌≢◌, ℕ, ◌+◌, ◌≤◌, Bool, true, false, List, [], ◌∷◌, ◌++◌, length, Option, Some, None, refl, sym, ap, subst, ◌∙◌, inl, inr, arith, eq-eqb}
use Rattle.std.specs.Prelude.{map, filter, reverse, not, ◌==◌, ◌&&◌, pos, nat_lt, option_map, slice_index_or, if◌then◌else◌, Result, Ok, Err}
use Rattle.std.proofs.lemmas.Bool.{cases_Bool, cases_eq, ne_eqb}
use Rattle.std.proofs.lemmas.List.{length-append}
use Rattle.sv_links.specs.declared.waiting.Entry.{Entry}
use Rattle.sv_links.specs.declared.waiting.Wait.{Wait}
use Rattle.sv_vxi.specs.declared.error_code.ErrorCode.TheVariants.{NoError, NoLock, Locked as DeviceLocked}
use Rattle.sv_vxi.specs.Results.{Outcome, Link, Plain}
use Rattle.sv_links.specs.Links.{LinkAct, Made, Destroyed, Locked, Unlocked, live, links_of, closing, links_made, lids_left, may_make, holder, is_locked_out, is_this}
use Rattle.sv_links.specs.declared.links.CreateRefused.{CreateRefused}
use Rattle.sv_links.specs.declared.links.CreateRefused.TheVariants.{OutOfResources}
use Rattle.sv_links.specs.Table.{Table, IsTable, IsRising}
use Rattle.sv_links.specs.declared.enabled.Enabled.{Enabled}
use Rattle.sv_links.specs.Channels.{ChannelAct, SrqDisabled}
use Rattle.sv_links.specs.ChannelRepresentation.{Channels, Channel, AreChannels, IsReady, is_prepared, without_links, of_others}
use Rattle.sv_links.proofs.Rising.{links_after_disable}
use Rattle.sv_links.specs.Waiting.{WaitAct, Entered, Again, Left, waits}
use Rattle.sv_links.specs.Queue.{IsQueue, creates, creations, without}
use Rattle.sv_links.proofs.Counted.{creations_without, creations_after_entering, creations_after_other_call}
use Rattle.sv_links.proofs.Live.{closing_adds_no_live, destroyed_adds_no_live}
use Rattle.sv_links.specs.Limits.{max_links}
use Rattle.sv_exchange.specs.Limits.{max_message}
use Rattle.sv_history.specs.declared.event.Config.{Config}
use Rattle.sv_history.specs.Act.{DeviceAct, Linked, Waited, link_acts, wait_acts}
use Rattle.sv_instrument.specs.Representation.{Kept, StandsFor}
use Rattle.sv_history.specs.CoreChannel.{make_link, device_lock, device_unlock}
use Rattle.sv_server.specs.Device.Representation.{Device, IsDevice, HasPlace, AreTold, AreOwned, AreReady}
use Rattle.sv_history.specs.Requests.{link_told}
use Rattle.sv_history.specs.Interrupts.{is_dial, is_dialing}
use Rattle.sv_history.proofs.Projections.{link_acts_links}
use Rattle.sv_server.specs.Device.Inside.Outcome.{IsResult}
use Rattle.sv_server.proofs.OnDevice.Effects.{device_linked}
use Rattle.sv_server.proofs.OnDevice.Owned.{owned_made, owned_destroyed, owned_closed, closed_disabled, tells_closed}

-- ---- suspended calls

-- If a create_intr_chan waits for its peer after another act on the queue, it did so before.
pub dials_left : (c d : ℕ) (acts : List WaitAct) → is_dialing d (Left c ∷ acts) ≡ true → (is_dialing d acts ≡ true) × (d ≢ c)
dials_left c d acts dials = elim (cases_eq c d) [
  | inl e ↦ absurd (let z : false ≡ true = rw (eq-eqb c d e) at dials in cc)
  | inr ne ↦ (rw (ne_eqb c d ne) at dials, λ e. ne (sym e))
]

pub dials_entered : (c d : ℕ) (named : Option ℕ) (wait : Wait) (deadline : Option ℕ) (acts : List WaitAct) → is_dial (Some wait) ≡ false
    → is_dialing d (Entered c named wait deadline ∷ acts) ≡ true → is_dialing d acts ≡ true
dials_entered c d named wait deadline acts other dials = elim (cases_eq c d) [
  | inl e ↦ absurd (let z : is_dial (Some wait) ≡ true = rw (eq-eqb c d e) at dials in let y : false ≡ true = sym other ∙ z in cc)
  | inr ne ↦ rw (ne_eqb c d ne) at dials
]

again_other : (wait : Wait) (before : Option Wait) → is_dial (Some wait) ≡ false → is_dial (option_map (λ (w : Wait). wait) before) ≡ false
again_other wait (Some before) other = other
again_other wait None other = refl

pub dials_again : (c d : ℕ) (wait : Wait) (deadline : Option ℕ) (acts : List WaitAct) → is_dial (Some wait) ≡ false
    → is_dialing d (Again c wait deadline ∷ acts) ≡ true → is_dialing d acts ≡ true
dials_again c d wait deadline acts other dials = elim (cases_eq c d) [
  | inl e ↦ absurd (let z : is_dial (option_map (λ (w : Wait). wait) (waits d acts)) ≡ true = rw (eq-eqb c d e) at dials in
      let y : false ≡ true = sym (again_other wait (waits d acts) other) ∙ z in cc)
  | inr ne ↦ rw (ne_eqb c d ne) at dials
]

fewer_left : (c : ℕ) (old new : List Entry) → new ≡ without c old → creations new ≤ creations old
fewer_left c old new e = rw e (creations_without c old)

pub device_left : (kept : Device) (waiting : List Entry) (config : Config) (acts : List DeviceAct) (c : ℕ)
    → IsDevice kept config acts → IsQueue waiting (Left c ∷ wait_acts acts) → waiting ≡ without c kept.waiting
    → IsDevice (record kept { waiting = waiting }) config (Waited (Left c) ∷ acts)
device_left kept waiting config acts c (links, instrument, set_up, clock, before, reserved, channel_log, ready) queue is =
    let less = fewer_left c kept.waiting waiting is in (
      links,
      instrument,
      set_up,
      clock,
      queue,
      (omega (arith, reserved.0, less), omega (arith, reserved.1, less)),
      channel_log,
      λ d dials. ready d (dials_left c d (wait_acts acts) dials).0,
    )

entered_fewer : (entry : Entry) (old new : List Entry) → new ≡ without entry.conn old ++ entry ∷ [] → creations new ≤ creations old + 1
entered_fewer entry old new e =
    rw e (omega (arith, creations_after_entering (without entry.conn old) entry, creations_without entry.conn old))

pub entered_other : (entry : Entry) (old new : List Entry) → new ≡ without entry.conn old ++ entry ∷ [] → creates entry ≡ false
    → creations new ≤ creations old
entered_other entry old new e other =
    rw e (omega (arith, creations_after_other_call (without entry.conn old) entry other, creations_without entry.conn old))

pub device_entered : (kept : Device) (waiting : List Entry) (config : Config) (acts : List DeviceAct) (entry : Entry)
    → IsDevice kept config acts → IsQueue waiting (Entered entry.conn entry.lid entry.wait entry.deadline ∷ wait_acts acts)
    → waiting ≡ without entry.conn kept.waiting ++ entry ∷ [] → (creates entry ≡ true → HasPlace kept acts)
    → is_dial (Some entry.wait) ≡ false
    → IsDevice (record kept { waiting = waiting }) config (Waited (Entered entry.conn entry.lid entry.wait entry.deadline) ∷ acts)
device_entered kept waiting config acts entry (links, instrument, set_up, clock, before, reserved, channel_log, was) queue is place other =
    let ready : AreReady kept.intr (Entered entry.conn entry.lid entry.wait entry.deadline ∷ wait_acts acts) =
    λ d dials. was d (dials_entered entry.conn d entry.lid entry.wait entry.deadline (wait_acts acts) other dials) in
    elim (cases_Bool (creates entry)) [
      | inl e ↦
          let more = entered_fewer entry kept.waiting waiting is in
          let there = place e in
          (links, instrument, set_up, clock, queue, (omega (arith, there.0, more), omega (arith, there.1, more)), channel_log, ready)
      | inr e ↦
          let less = entered_other entry kept.waiting waiting is e in
          (links, instrument, set_up, clock, queue, (omega (arith, reserved.0, less), omega (arith, reserved.1, less)), channel_log, ready)
    ]

pub device_again : (kept : Device) (waiting : List Entry) (config : Config) (acts : List DeviceAct) (c : ℕ) (wait : Wait)
    (deadline : Option ℕ)
    → IsDevice kept config acts → IsQueue waiting (Again c wait deadline ∷ wait_acts acts)
    → creations waiting ≤ creations (without c kept.waiting) → is_dial (Some wait) ≡ false
    → IsDevice (record kept { waiting = waiting }) config (Waited (Again c wait deadline) ∷ acts)
device_again kept waiting config acts c wait deadline
    (links, instrument, set_up, clock, before, reserved, channel_log, ready) queue fewer other =
    let less = creations_without c kept.waiting in (
      links,
      instrument,
      set_up,
      clock,
      queue,
      (omega (arith, reserved.0, fewer, less), omega (arith, reserved.1, fewer, less)),
      channel_log,
      λ d dials. ready d (dials_again c d wait deadline (wait_acts acts) other dials),
    )

-- ---- links

pub same_channels_stay_ready : (old new : Channels) → new.channels ≡ old.channels → (c : ℕ) → IsReady old c → IsReady new c
same_channels_stay_ready old new same c ready =
    λ other. ap (λ (xs : List Channel). is_prepared (slice_index_or xs c other).stage) same ∙ ready other

-- An act of links that adds nothing to the channel log keeps the interrupt channels as they were.
told_if_none_destroyed : (intr : Channels) (acts : List DeviceAct) (act : LinkAct) → AreTold intr acts
    → ((channel_log : List ChannelAct) → link_told act channel_log ≡ channel_log)
    → AreOwned intr.enabled (act ∷ link_acts acts) → AreTold intr (Linked act ∷ acts)
told_if_none_destroyed intr acts act (channel_log, tells, are, was) same owned =
    (channel_log, (channel_log, tells, sym (same channel_log)), are, owned)

-- Destroying links disables their service requests.
told_closed : (old intr : Channels) (acts : List DeviceAct) (c last : ℕ) → AreTold old acts → IsRising (live (link_acts acts)) last
    → ((lids : List ℕ)
    (channel_log : List ChannelAct) → AreChannels old channel_log → without_links lids old.enabled ≡ of_others c old.enabled
    → AreChannels intr (map SrqDisabled lids ++ channel_log)) → intr.enabled ≡ of_others c old.enabled
    → AreTold intr (map Linked (closing c (link_acts acts)) ++ acts)
told_closed old intr acts c last (channel_log, tells, are, owned) rising disables without = (
  map SrqDisabled (reverse (links_of c (link_acts acts))) ++ channel_log,
  tells_closed c acts channel_log tells,
  disables (reverse (links_of c (link_acts acts))) channel_log are (closed_disabled old.enabled (link_acts acts) c last rising owned),
  rw (without, link_acts_links (closing c (link_acts acts)) acts) (owned_closed old.enabled (link_acts acts) c last rising owned),
)

pub device_closed : (kept : Device) (links : Table) (intr : Channels) (config : Config) (acts : List DeviceAct) (c : ℕ)
    → IsDevice kept config acts → IsTable links (closing c (link_acts acts) ++ link_acts acts) → links.spare ≡ kept.links.spare
    → ((lids : List ℕ)
    (channel_log : List ChannelAct) → AreChannels kept.intr channel_log
    → without_links lids kept.intr.enabled ≡ of_others c kept.intr.enabled
    → AreChannels intr (map SrqDisabled lids ++ channel_log)) → intr.enabled ≡ of_others c kept.intr.enabled
    → intr.channels ≡ kept.intr.channels
    → IsDevice (record kept { links = links; intr = intr }) config (map Linked (closing c (link_acts acts)) ++ acts)
device_closed kept links intr config acts c is stands spare disables without same =
    device_linked kept links intr config acts (closing c (link_acts acts)) is stands
    (omega (arith, is.5.0, closing_adds_no_live c (link_acts acts))) (omega (arith, is.5.1, spare))
    (told_closed kept.intr intr acts c kept.links.made is.6 is.0.rising disables without) (same_channels_stay_ready kept.intr intr same)

told_destroyed : (old intr : Channels) (acts : List DeviceAct) (lid : ℕ) → AreTold old acts
    → ((channel_log : List ChannelAct) → AreChannels old channel_log → AreChannels intr (SrqDisabled lid ∷ channel_log))
    → AreTold intr (Linked (Destroyed lid) ∷ acts)
told_destroyed old intr acts lid (channel_log, tells, are, owned) disables =
    let now = disables channel_log are in
    let less : intr.enabled ≡ filter (λ other. not (other.lid == lid)) old.enabled =
    now.enabled ∙ links_after_disable lid channel_log ∙ ap (λ (links : List Enabled). filter (λ other. not (other.lid == lid)) links)
    (sym are.enabled) in
    (SrqDisabled lid ∷ channel_log, (channel_log, tells, refl), now, rw less (owned_destroyed old.enabled (link_acts acts) lid owned))

pub device_destroyed : (kept : Device) (links : Table) (intr : Channels) (config : Config) (acts : List DeviceAct) (lid : ℕ)
    → IsDevice kept config acts → IsTable links (Destroyed lid ∷ link_acts acts) → links.spare ≡ kept.links.spare
    → ((channel_log : List ChannelAct) → AreChannels kept.intr channel_log → AreChannels intr (SrqDisabled lid ∷ channel_log))
    → intr.channels ≡ kept.intr.channels → IsDevice (record kept { links = links; intr = intr }) config (Linked (Destroyed lid) ∷ acts)
device_destroyed kept links intr config acts lid is stands spare disables same =
    device_linked kept links intr config acts (Destroyed lid ∷ []) is stands
    (omega (arith, is.5.0, destroyed_adds_no_live lid (link_acts acts))) (omega (arith, is.5.1, spare))
    (told_destroyed kept.intr intr acts lid is.6 disables) (same_channels_stay_ready kept.intr intr same)

pub device_locked : (kept : Device) (links : Table) (config : Config) (acts : List DeviceAct) (lid : ℕ)
    → IsDevice kept config acts → IsTable links (Locked lid ∷ link_acts acts) → links.spare ≡ kept.links.spare
    → IsDevice (record kept { links = links }) config (Linked (Locked lid) ∷ acts)
device_locked kept links config acts lid is stands spare =
    device_linked kept links kept.intr config acts (Locked lid ∷ []) is stands is.5.0 (omega (arith, is.5.1, spare))
    (told_if_none_destroyed kept.intr acts (Locked lid) is.6 (λ channel_log. refl) is.6.3) (λ c ready. ready)

pub device_unlocked : (kept : Device) (links : Table) (config : Config) (acts : List DeviceAct) (lid : ℕ)
    → IsDevice kept config acts → IsTable links (Unlocked lid ∷ link_acts acts) → links.spare ≡ kept.links.spare
    → IsDevice (record kept { links = links }) config (Linked (Unlocked lid) ∷ acts)
device_unlocked kept links config acts lid is stands spare =
    device_linked kept links kept.intr config acts (Unlocked lid ∷ []) is stands is.5.0 (omega (arith, is.5.1, spare))
    (told_if_none_destroyed kept.intr acts (Unlocked lid) is.6 (λ channel_log. refl) is.6.3) (λ c ready. ready)

made_live : (lid c : ℕ) (acts : List LinkAct) → length (live (Made lid c ∷ acts)) ≡ length (live acts) + 1
made_live lid c acts = length-append (live acts) (record { lid = lid; conn = c } ∷ [])

pub device_made : (kept : Device) (links : Table) (config : Config) (acts : List DeviceAct) (lid c : ℕ)
    → IsDevice kept config acts → HasPlace kept acts → IsTable links (Made lid c ∷ link_acts acts) → kept.links.spare ≤ links.spare + 1
    → IsDevice (record kept { links = links }) config (Linked (Made lid c) ∷ acts)
device_made kept links config acts lid c is place stands spare =
    device_linked kept links kept.intr config acts (Made lid c ∷ []) is stands
    (omega (arith, place.0, made_live lid c (link_acts acts))) (omega (arith, place.1, spare))
    (told_if_none_destroyed kept.intr acts (Made lid c) is.6 (λ channel_log. refl)
    (owned_made kept.intr.enabled (link_acts acts) lid c is.6.3))
    (λ d ready. ready)

-- ---- more memory for links

pub device_more : (kept : Device) (links : Table) (config : Config) (acts : List DeviceAct) → IsDevice kept config acts
    → IsTable links (link_acts acts) → kept.links.spare ≤ links.spare → IsDevice (record kept { links = links }) config acts
device_more kept links config acts (before, instrument, set_up, clock, waiting, reserved, channel_log, ready) stands more =
    (stands, instrument, set_up, clock, waiting, (reserved.0, omega (arith, reserved.1, more)), channel_log, ready)

-- ---- a new device

pub empty_log_empty_queue : (xs : List Entry) → IsQueue xs [] → xs ≡ []
empty_log_empty_queue [] is = refl
empty_log_empty_queue (x ∷ xs) is = absurd (let z : None ≡ Some x.wait = is.each.0.0 in cc)

creations_none : (xs : List Entry) → xs ≡ [] → creations xs ≡ 0
creations_none xs e = rw e refl

pub device_none : (links : Table) (waiting : List Entry) (intr : Channels) (instrument : Kept) (config : Config) → IsTable links []
    → IsQueue waiting [] → AreChannels intr [] → StandsFor instrument [] → IsDevice (record {
      links = links;
      waiting = waiting;
      intr = intr;
      instrument = instrument;
      config = config;
      clock = config.clock;
    }) config []
device_none links waiting intr instrument config table queue are stands =
    let zero = creations_none waiting (empty_log_empty_queue waiting queue) in (
      table,
      stands,
      refl,
      omega arith,
      queue,
      (omega (arith, zero), omega (arith, zero)),
      ([], refl, are, rw are.enabled tt),
      λ c dials. absurd (let z : false ≡ true = dials in cc),
    )

-- ---- a link that is made

left_there : (a b : Bool) → ((a && b) ≡ false → ⊥) → b ≡ true
left_there a true may = refl
left_there true false may = absurd (may refl)
left_there false false may = absurd (may refl)

pub lids_there : (acts : List LinkAct) → (may_make acts ≡ false → ⊥) → lids_left acts ≡ true
lids_there acts may = left_there (nat_lt (length (live acts)) max_links) (lids_left acts) may

pub link_result_is : (config : Config) (kept : Device) (channel_log : Outcome) (lid n : ℕ) → kept.config ≡ config → lid ≡ n
    → channel_log ≡ Link NoError (pos lid) kept.config.abort max_message → Link NoError (pos n) config.abort max_message ≡ channel_log
link_result_is config kept channel_log lid n set_up number is =
    ap (λ (k : ℕ). Link NoError (pos k) config.abort max_message) (sym number)
    ∙ ap (λ (k : Config). Link NoError (pos lid) k.abort max_message) (sym set_up)
    ∙ sym is

pub made_ends : (kept : Device) (links : Table) (config : Config) (acts : List DeviceAct) (c lid : ℕ) (channel_log : Outcome)
    → IsDevice kept config acts → HasPlace kept acts → lids_left (link_acts acts) ≡ true → lid ≡ links_made (link_acts acts) + 1
    → IsTable links (Made lid c ∷ link_acts acts) → kept.links.spare ≤ links.spare + 1
    → channel_log ≡ Link NoError (pos lid) kept.config.abort max_message → IsResult (make_link config c false acts).result channel_log
    × IsDevice (record kept { links = links }) config ((make_link config c false acts).adds ++ acts)
made_ends kept links config acts c lid channel_log is place left number table spare tells = rw left (
  link_result_is config kept channel_log lid (links_made (link_acts acts) + 1) is.2 number tells,
  subst (λ (n : ℕ). IsDevice (record kept { links = links }) config (Linked (Made n c) ∷ acts)) number
      (device_made kept links config acts lid c is place table spare),
)

pub locked_ends : (kept : Device) (mid links : Table) (config : Config) (acts : List DeviceAct) (c lid : ℕ) (channel_log : Outcome)
    → IsDevice kept config acts → HasPlace kept acts → lids_left (link_acts acts) ≡ true → lid ≡ links_made (link_acts acts) + 1
    → IsTable mid (Made lid c ∷ link_acts acts) → IsTable links (Locked lid ∷ Made lid c ∷ link_acts acts)
    → kept.links.spare ≤ mid.spare + 1 → links.spare ≡ mid.spare → channel_log ≡ Link NoError (pos lid) kept.config.abort max_message
    → IsResult (make_link config c true acts).result channel_log
    × IsDevice (record kept { links = links }) config ((make_link config c true acts).adds ++ acts)
locked_ends kept mid links config acts c lid channel_log is place left number table locked spare same tells = rw left (
  link_result_is config kept channel_log lid (links_made (link_acts acts) + 1) is.2 number tells,
  subst (λ (n : ℕ). IsDevice (record kept { links = links }) config (Linked (Locked n) ∷ Linked (Made n c) ∷ acts)) number
      (device_locked (record kept { links = mid }) links config (Linked (Made lid c) ∷ acts) lid
      (device_made kept mid config acts lid c is place table spare) locked same),
)

abbrev pub ok_link_id : ℕ → Result ℕ CreateRefused
ok_link_id lid = Ok lid

pub not_refused : (lid : ℕ) → ok_link_id lid ≡ Err OutOfResources → ⊥
not_refused lid e = cc

-- ---- the lock

pub not_true : (b : Bool) → true ≡ not b → b ≡ false
not_true true e = absurd cc
not_true false e = refl

pub not_false : (b : Bool) → false ≡ not b → b ≡ true
not_false true e = refl
not_false false e = absurd cc

-- The call device_lock acquires the lock if no other link holds it; otherwise nothing changes.
pub lock_ends : (config : Config) (acts : List DeviceAct) (kept : Device) (links : Table) (lid : ℕ) (got : Bool) → IsDevice kept config acts
    → got ≡ not (is_locked_out (holder (link_acts acts)) (Some lid)) → (got ≡ true → IsTable links (Locked lid ∷ link_acts acts))
    → links.spare ≡ kept.links.spare → (got ≡ false → links ≡ kept.links)
    → (channel_log : Outcome) → channel_log ≡ Plain (if got then NoError else DeviceLocked)
    → IsResult (device_lock lid acts).result channel_log
    × IsDevice (record kept { links = links }) config ((device_lock lid acts).adds ++ acts)
lock_ends config acts kept links lid true is granted stands spare same channel_log tells =
    let free : is_locked_out (holder (link_acts acts)) (Some lid) ≡ false = not_true _ granted in
    rw free (sym tells, device_locked kept links config acts lid is (stands refl) spare)
lock_ends config acts kept links lid false is granted stands spare same channel_log tells =
    let other : is_locked_out (holder (link_acts acts)) (Some lid) ≡ true = not_false _ granted in
    rw other (sym tells, subst (λ (t : Table). IsDevice (record kept { links = t }) config acts) (sym (same refl)) is)

-- The call device_unlock releases the lock if this link holds it; otherwise nothing changes.
pub unlock_ends : (config : Config) (acts : List DeviceAct) (kept : Device) (links : Table) (lid : ℕ) (freed : Bool)
    → IsDevice kept config acts
    → freed ≡ is_this lid (holder (link_acts acts)) → (freed ≡ true → IsTable links (Unlocked lid ∷ link_acts acts))
    → links.spare ≡ kept.links.spare → (freed ≡ false → links ≡ kept.links)
    → (channel_log : Outcome) → channel_log ≡ Plain (if freed then NoError else NoLock)
    → IsResult (device_unlock lid acts).result channel_log
    × IsDevice (record kept { links = links }) config ((device_unlock lid acts).adds ++ acts)
unlock_ends config acts kept links lid true is this stands spare same channel_log tells =
    rw (sym this) (sym tells, device_unlocked kept links config acts lid is (stands refl) spare)
unlock_ends config acts kept links lid false is this stands spare same channel_log tells =
    rw (sym this) (sym tells, subst (λ (t : Table). IsDevice (record kept { links = t }) config acts) (sym (same refl)) is)
