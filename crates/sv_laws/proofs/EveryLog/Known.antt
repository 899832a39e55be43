-- What follows for links, for suspended calls and for service requests, if each act of the device
-- suits the acts before it.
use Rattle.std.proofs.Common.{◌≡◌, ◌≢◌, ℕ, ◌+◌, ◌<◌, ◌≤◌, Bool, true, false, eqb, List, [], ◌∷◌, Option, Some, None, refl, sym, ap, subst, ◌∙◌, inl, inr, eq-eqb, arith}
use Rattle.std.specs.Prelude.{option_map, find}
use Rattle.std.proofs.lemmas.Bool.{cases_Bool, cases_eq, eqb-true, ne_eqb}
use Rattle.sv_links.specs.declared.links.Link.{Link}
use Rattle.sv_links.specs.declared.enabled.Enabled.{Enabled}
use Rattle.sv_links.specs.declared.waiting.Wait.{Wait}
use Rattle.sv_links.specs.declared.waiting.Wait.TheVariants.{Lock, Input as ForInput, Response, Dial}
use Rattle.sv_links.specs.Links.{LinkAct, Made, Destroyed, links_made, live, owner, is_of, holder}
use Rattle.sv_links.specs.Table.{IsRising}
use Rattle.sv_links.specs.Waiting.{Entered, Again, Left, waits, link, is_there}
use Rattle.sv_links.specs.Channels.{ChannelAct, SrqEnabled, SrqDisabled, srq_enabled}
use Rattle.sv_links.proofs.Tables.{rising_push, rising_filter, other_than}
use Rattle.sv_laws.proofs.Facts.{some_injective}
use Rattle.sv_laws.proofs.LinksAlike.{owner_made, owner_made_other, owner_destroyed_other, owner_before_destroy, is_of_owner}
use Rattle.sv_laws.proofs.ChannelsAlike.{EnabledElsewhere}
use Rattle.sv_history.specs.Act.{DeviceAct, Linked, Waited, Channel, Applied, link_acts, wait_acts}
use Rattle.sv_history.specs.Requests.{HearsOf}
use Rattle.sv_history.specs.Settling.{CanResume}
use Rattle.sv_laws.specs.Isolation.{NoOtherWaits}
use Rattle.sv_laws.proofs.EveryLog.Fit.{AllSuit}

-- ---- the numbers of links rise

pub link_numbers_rise : (acts : List DeviceAct) → AllSuit acts → IsRising (live (link_acts acts)) (links_made (link_acts acts))
link_numbers_rise [] all = tt
link_numbers_rise (Linked (Made lid conn) ∷ acts) all =
    rw all.0 (rising_push (live (link_acts acts)) (links_made (link_acts acts)) conn (link_numbers_rise acts all.1))
link_numbers_rise (Linked (Destroyed lid) ∷ acts) all =
    rising_filter (other_than lid) (live (link_acts acts)) (links_made (link_acts acts)) (link_numbers_rise acts all.1)
link_numbers_rise (_ ∷ acts) all = link_numbers_rise acts all.1

rising_owner : (n c last : ℕ) (xs : List Link) → IsRising xs last
    → option_map (λ link. link.conn) (find (λ link. eqb link.lid n) xs) ≡ Some c → n ≤ last
rising_owner n c last [] rising h = absurd cc
rising_owner n c last (x ∷ xs) rising h = elim (cases_Bool (eqb x.lid n)) [
  | inl e ↦ let same : x.lid ≡ n = eqb-true x.lid n e in omega (arith, same, rising.0)
  | inr e ↦ rising_owner n c last xs rising.2 (rw e at h)
]

-- The number of a live link is at most the number of links that were made.
pub live_number_was_made : (n c : ℕ) (acts : List DeviceAct) → AllSuit acts → owner n (link_acts acts) ≡ Some c
    → n ≤ links_made (link_acts acts)
live_number_was_made n c acts all h = rising_owner n c (links_made (link_acts acts)) (live (link_acts acts)) (link_numbers_rise acts all) h

-- ---- the link that a suspended call names

-- No link that is made later gets this number. If the link is live, it belongs to connection `d`.
abbrev pub IsNamed : ℕ → ℕ → List LinkAct → Type 0
IsNamed d n acts = (n ≤ links_made acts) × ((e : ℕ) → owner n acts ≡ Some e → e ≡ d)

named_made : (d n lid conn : ℕ) (acts : List LinkAct) → lid ≡ links_made acts + 1 → IsNamed d n acts → IsNamed d n (Made lid conn ∷ acts)
named_made d n lid conn acts next h =
    let le = h.0 in
    let ne : lid ≢ n = λ e. absurd (omega (arith, e, next, le)) in
    (omega (arith, le), (λ e is. h.1 e (sym (owner_made_other n lid conn acts ne) ∙ is)))

pub suspended_link_is_named : (acts : List DeviceAct) → AllSuit acts → (d n : ℕ) → link d (wait_acts acts) ≡ Some n
    → IsNamed d n (link_acts acts)
suspended_link_is_named [] all d n h = absurd cc
suspended_link_is_named (Linked (Made lid conn) ∷ acts) all d n h = named_made d n lid conn (link_acts acts) all.0
    (suspended_link_is_named acts all.1 d n h)
suspended_link_is_named (Linked (Destroyed lid) ∷ acts) all d n h =
    let was = suspended_link_is_named acts all.1 d n h in
    (was.0, (λ e is. was.1 e (owner_before_destroy n e lid (link_acts acts) is).1))
suspended_link_is_named (Waited (Entered conn named wait last) ∷ acts) all d n h = elim (cases_Bool (eqb conn d)) [
  | inl e ↦
      let owns : owner n (link_acts acts) ≡ Some conn = all.0.1 n (rw e at h) in (
        live_number_was_made n conn acts all.1 owns,
        (λ other is. some_injective other conn (sym is ∙ owns) ∙ eqb-true conn d e),
      )
  | inr e ↦ suspended_link_is_named acts all.1 d n (rw e at h)
]
suspended_link_is_named (_ ∷ acts) all d n h = suspended_link_is_named acts all.1 d n h

-- ---- a suspended call is of a connection from 0 to 15

pub mapped_was_some : (wait now : Wait) (found : Option Wait) → option_map (λ before. wait) found ≡ Some now → (was : Wait)
    × (found ≡ Some was)
mapped_was_some wait now None e = absurd cc
mapped_was_some wait now (Some was) e = (was, refl)

pub suspended_below_16 : (acts : List DeviceAct) → AllSuit acts → (d : ℕ) (wait : Wait) → waits d (wait_acts acts) ≡ Some wait → d < 16
suspended_below_16 [] all d wait h = absurd cc
suspended_below_16 (Waited (Entered conn named for last) ∷ acts) all d wait h = elim (cases_Bool (eqb conn d)) [
  | inl e ↦ let lt = all.0.0 in omega (arith, eqb-true conn d e, lt)
  | inr e ↦ suspended_below_16 acts all.1 d wait (rw e at h)
]
suspended_below_16 (Waited (Again conn for last) ∷ acts) all d wait h = elim (cases_Bool (eqb conn d)) [
  | inl e ↦
      let was = mapped_was_some for wait (waits d (wait_acts acts)) (rw e at h) in
      suspended_below_16 acts all.1 d was.0 was.1
  | inr e ↦ suspended_below_16 acts all.1 d wait (rw e at h)
]
suspended_below_16 (Waited (Left conn) ∷ acts) all d wait h = elim (cases_Bool (eqb conn d)) [
  | inl e ↦ absurd (let z : None ≡ Some wait = rw e at h in cc)
  | inr e ↦ suspended_below_16 acts all.1 d wait (rw e at h)
]
suspended_below_16 (_ ∷ acts) all d wait h = suspended_below_16 acts all.1 d wait h

-- ---- a link that has service requests enabled is live

-- Each link that has service requests enabled belongs to the connection that enabled them.
abbrev EnabledAreOwned : List DeviceAct → List ChannelAct → Type 0
EnabledAreOwned acts channel_log = (lid : ℕ) (one : Enabled) → srq_enabled lid channel_log ≡ Some one
    → owner lid (link_acts acts) ≡ Some one.conn

enabled_owned : (acts : List DeviceAct) (before : List ChannelAct) (other conn : ℕ) (handle : List ℕ)
    → owner other (link_acts acts) ≡ Some conn → EnabledAreOwned acts before → EnabledAreOwned acts (SrqEnabled other conn handle ∷ before)
enabled_owned acts before other conn handle owns owned lid one h = elim (cases_Bool (eqb other lid)) [
  | inl e ↦
      let this : Enabled = record { lid = lid; conn = conn; handle = handle } in
      ap (λ (n : ℕ). owner n (link_acts acts)) (sym (eqb-true other lid e)) ∙ owns
      ∙ ap (λ (x : Enabled). Some x.conn) (some_injective this one (rw e at h))
  | inr e ↦ owned lid one (rw e at h)
]

disabled_owned : (acts : List DeviceAct) (before : List ChannelAct) (other : ℕ)
    → ((lid : ℕ) (one : Enabled) → other ≢ lid → srq_enabled lid before ≡ Some one → owner lid (link_acts acts) ≡ Some one.conn)
    → EnabledAreOwned acts (SrqDisabled other ∷ before)
disabled_owned acts before other owned lid one h = elim (cases_eq other lid) [
  | inl e ↦ absurd (let z : None ≡ Some one = rw (eq-eqb other lid e) at h in cc)
  | inr ne ↦ owned lid one ne (rw (ne_eqb other lid ne) at h)
]

pub enabled_link_is_owned : (acts : List DeviceAct) (channel_log : List ChannelAct) → AllSuit acts → HearsOf acts channel_log
    → EnabledAreOwned acts channel_log
enabled_link_is_owned [] channel_log all hears = λ lid one h. absurd (let z : None ≡ Some one = rw hears at h in cc)
enabled_link_is_owned (Channel (SrqEnabled other conn handle) ∷ acts) channel_log all (before, hears, is) =
    subst (EnabledAreOwned acts) (sym is)
    (enabled_owned acts before other conn handle all.0 (enabled_link_is_owned acts before all.1 hears))
enabled_link_is_owned (Channel (SrqDisabled other) ∷ acts) channel_log all (before, hears, is) = subst (EnabledAreOwned acts) (sym is)
    (disabled_owned acts before other (λ lid one ne h. enabled_link_is_owned acts before all.1 hears lid one h))
enabled_link_is_owned (Channel _ ∷ acts) channel_log all (before, hears, is) =
    subst (EnabledAreOwned acts) (sym is) (enabled_link_is_owned acts before all.1 hears)
enabled_link_is_owned (Linked (Made lid conn) ∷ acts) channel_log all (before, hears, is) =
    subst (EnabledAreOwned (Linked (Made lid conn) ∷ acts)) (sym is)
    (λ n one h. owner_made n one.conn lid conn (link_acts acts) (enabled_link_is_owned acts before all.1 hears n one h))
enabled_link_is_owned (Linked (Destroyed lid) ∷ acts) channel_log all (before, hears, is) =
    subst (EnabledAreOwned (Linked (Destroyed lid) ∷ acts)) (sym is)
    (disabled_owned (Linked (Destroyed lid) ∷ acts) before lid
    (λ n one ne h. owner_destroyed_other n lid (link_acts acts) ne ∙ enabled_link_is_owned acts before all.1 hears n one h))
enabled_link_is_owned (Linked _ ∷ acts) channel_log all (before, hears, is) =
    subst (EnabledAreOwned acts) (sym is) (enabled_link_is_owned acts before all.1 hears)
enabled_link_is_owned (Applied act ∷ acts) channel_log all (before, true, hears, so, is) =
    subst (EnabledAreOwned acts) (sym is) (enabled_link_is_owned acts before all.1 hears)
enabled_link_is_owned (Applied act ∷ acts) channel_log all (before, false, hears, so, is) =
    subst (EnabledAreOwned acts) (sym is) (enabled_link_is_owned acts before all.1 hears)
enabled_link_is_owned (_ ∷ acts) channel_log all hears = enabled_link_is_owned acts channel_log all.1 hears

-- A link that doesn't belong to connection `c` hasn't enabled service requests on `c`.
pub asks_elsewhere : (c lid : ℕ) (acts : List DeviceAct) (channel_log : List ChannelAct) → AllSuit acts → HearsOf acts channel_log
    → is_of c (owner lid (link_acts acts)) ≡ false → EnabledElsewhere c lid channel_log
asks_elsewhere c lid acts channel_log all hears none one h same =
    let owns : owner lid (link_acts acts) ≡ Some c = enabled_link_is_owned acts channel_log all hears lid one h
    ∙ ap (λ (n : ℕ). Some n) same in
    let z : true ≡ false = sym (is_of_owner c lid (link_acts acts) owns) ∙ none in cc

-- ---- while a link holds the lock, no call of another connection can resume

not_there : (lid : ℕ) (named : Option ℕ) (wait : Option Wait) (writes reads : Bool) → wait ≢ Some ForInput → wait ≢ Some Response
    → ((n : ℕ) → named ≡ Some n → n ≢ lid) → is_there (Some lid) writes reads named wait ≡ true → ⊥
not_there lid None (Some Lock) writes reads input response other h = absurd cc
not_there lid (Some n) (Some Lock) writes reads input response other h =
    let z : false ≡ true = rw (ne_eqb n lid (other n refl)) at h in cc
not_there lid named (Some ForInput) writes reads input response other h = input refl
not_there lid named (Some Response) writes reads input response other h = response refl
not_there lid named (Some Dial) writes reads input response other h = absurd cc
not_there lid named None writes reads input response other h = absurd cc

pub others_blocked_by_lock : (c lid : ℕ) (acts : List DeviceAct) → AllSuit acts → holder (link_acts acts) ≡ Some lid
    → owner lid (link_acts acts) ≡ Some c → NoOtherWaits c (wait_acts acts) → (d : ℕ) → d ≢ c → CanResume acts d → ⊥
others_blocked_by_lock c lid acts all held owns rest d ne able =
    not_there lid (link d (wait_acts acts)) (waits d (wait_acts acts)) _ _ (rest d ne).0 (rest d ne).1
    (λ n named same. ne (sym ((suspended_link_is_named acts all d n named).1 c (ap (λ (m : ℕ). owner m (link_acts acts)) same ∙ owns))))
    (rw held at able)
