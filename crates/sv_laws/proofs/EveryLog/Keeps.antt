-- An invariant of the acts of the device, and what follows from it: which link holds the lock, and
-- which links the suspended calls name.
use Rattle.std.proofs.Common.{◌≡◌, ◌≢◌, ℕ, true, false, eqb, List, [], ◌∷◌, ◌++◌, Option, Some, None, refl, sym, ap, subst, ◌∙◌, inl, inr, ◌⊎◌, eq-eqb}
use Rattle.std.specs.Prelude.{map, not, ⊤, option_map}
use Rattle.std.proofs.lemmas.Bool.{cases_Bool, cases_eq, eqb-true, ne_eqb, or_cases, and_right}
use Rattle.sv_logs.proofs.Each.{Each}
use Rattle.sv_logs.proofs.Since.{both_true}
use Rattle.sv_links.specs.declared.links.Link.{Link}
use Rattle.sv_links.specs.declared.waiting.Wait.{Wait}
use Rattle.sv_links.specs.declared.waiting.Wait.TheVariants.{Lock}
use Rattle.sv_links.specs.Links.{LinkAct, Made, Destroyed, Locked, Unlocked, links_made, live, owner, is_locked, holder, is_this, is_locked_out}
use Rattle.sv_links.specs.Table.{IsKept}
use Rattle.sv_links.specs.Waiting.{Entered, Again, Left, waits, link, IsOldest}
use Rattle.sv_links.proofs.Locks.{holder_is, lock_taken_when_free, lock_taken_again, holder_after_destroying, lock_destroyed}
use Rattle.sv_history.specs.Act.{DeviceAct, Linked, Waited, link_acts, wait_acts}
use Rattle.sv_laws.specs.LockFair.{WaitsForLock}
use Rattle.sv_laws.proofs.Facts.{some_injective, none_is_not_some, true_is_not_false}
use Rattle.sv_laws.proofs.LinksAlike.{owner_made, owner_destroyed_other, not_same}
use Rattle.sv_laws.proofs.EveryLog.Fit.{AllSuit}
use Rattle.sv_laws.proofs.EveryLog.Known.{link_numbers_rise, mapped_was_some}

-- No suspended call names this link.
abbrev pub NamesNone : ℕ → List DeviceAct → Type 0
NamesNone lid acts = (d : ℕ) (wait : Wait) → waits d (wait_acts acts) ≡ Some wait → link d (wait_acts acts) ≡ Some lid → ⊥

-- The link is live, and its connection has no suspended call.
abbrev pub IsFree : ℕ → List DeviceAct → Type 0
IsFree lid acts = (d : ℕ) × (owner lid (link_acts acts) ≡ Some d) × (waits d (wait_acts acts) ≡ None)

-- Of all calls that wait for the lock, the call of this connection was suspended first.
abbrev pub IsEarliest : ℕ → List DeviceAct → Type 0
IsEarliest c acts = IsOldest (wait_acts acts) (WaitsForLock acts) (Some c)

-- The link may take the lock in three cases. It already holds the lock; or the lock is free and no
-- call waits for it; or the lock is free, and of all calls that waited for it, the one that was
-- suspended first has just left the queue, and is of the link's connection.
abbrev pub MayTake : ℕ → List DeviceAct → Type 0
MayTake lid acts = (holder (link_acts acts) ≡ Some lid)
    ⊎ ((holder (link_acts acts) ≡ None) × (((c : ℕ) → WaitsForLock acts c → ⊥)
    ⊎ ((c : ℕ) × (made : List LinkAct) × (before : List DeviceAct) × (acts ≡ map Linked made ++ Waited (Left c) ∷ before)
    × (owner lid (link_acts acts) ≡ Some c) × IsEarliest c before)))

-- A link that is destroyed is named by no suspended call. A link that gets the lock may take it. A
-- call that is suspended for the lock is locked out by another link. A call that stops waiting for
-- the lock while it is free was suspended first.
abbrev pub Keeps : List DeviceAct → DeviceAct → Type 0
Keeps acts (Linked (Destroyed lid)) = NamesNone lid acts
Keeps acts (Linked (Locked lid)) = IsFree lid acts × MayTake lid acts
Keeps acts (Waited (Entered conn named wait last)) = wait ≡ Lock → is_locked_out (holder (link_acts acts)) named ≡ true
Keeps acts (Waited (Again conn wait last)) = (wait ≢ Lock) × (holder (link_acts acts) ≡ None) × IsEarliest conn acts
Keeps acts (Waited (Left conn)) = WaitsForLock acts conn → holder (link_acts acts) ≡ None → IsEarliest conn acts
Keeps acts _ = ⊤

abbrev pub AllKeep : List DeviceAct → Type 0
AllKeep [] = ⊤
AllKeep (act ∷ acts) = Keeps acts act × AllKeep acts

pub keep_append : (adds acts : List DeviceAct) → Each Keeps adds acts → AllKeep acts → AllKeep (adds ++ acts)
keep_append [] acts h all = all
keep_append (act ∷ adds) acts h all = (h.0, keep_append adds acts h.1 all)

pub keep_suffix : (newer older : List DeviceAct) → AllKeep (newer ++ older) → AllKeep older
keep_suffix [] older all = all
keep_suffix (act ∷ newer) older all = keep_suffix newer older all.1

-- ---- at most one link is locked, and it is the holder

-- This link is the only locked one; `None`: no link is locked.
abbrev IsOnlyLocked : List LinkAct → Option ℕ → Type 0
IsOnlyLocked acts o = (n : ℕ) → is_locked n acts ≡ is_this n o

kept_all : (links : List Link) → IsKept (map (λ (x : Link). Some x) links) links
kept_all [] = refl
kept_all (x ∷ links) = ([], links, refl, kept_all links)

holder_by : (acts : List DeviceAct) → AllSuit acts → (o : Option ℕ) → IsOnlyLocked (link_acts acts) o → holder (link_acts acts) ≡ o
holder_by acts all o held = holder_is
    (record { made = links_made (link_acts acts); slots = map (λ (x : Link). Some x) (live (link_acts acts)); holder = o; spare = 0 })
    (link_acts acts)
    (record { made = refl; kept = kept_all (live (link_acts acts)); rising = link_numbers_rise acts all; lock = held })

-- If no other link is locked, a link that gets the lock is then the only locked one.
locked_by : (lid : ℕ) (acts : List LinkAct) (o : Option ℕ) → IsOnlyLocked acts o → (o ≡ Some lid) ⊎ (o ≡ None)
    → IsOnlyLocked (Locked lid ∷ acts) (Some lid)
locked_by lid acts o held (inl same) =
    lock_taken_again lid acts (λ n. held n ∙ ap (is_this n) same)
locked_by lid acts o held (inr none) = lock_taken_when_free lid acts (λ n. held n ∙ ap (is_this n) none)

may_by : (lid : ℕ) (acts : List DeviceAct) (o : Option ℕ) → holder (link_acts acts) ≡ o → MayTake lid acts → (o ≡ Some lid) ⊎ (o ≡ None)
may_by lid acts o is (inl same) = inl (sym is ∙ same)
may_by lid acts o is (inr (none, more)) = inr (sym is ∙ none)

exists_only_locked : (acts : List DeviceAct) → AllSuit acts → AllKeep acts → (o : Option ℕ) × IsOnlyLocked (link_acts acts) o
exists_only_locked [] all keep = (None, λ n. refl)
exists_only_locked (Linked (Made lid conn) ∷ acts) all keep = exists_only_locked acts all.1 keep.1
exists_only_locked (Linked (Destroyed lid) ∷ acts) all keep =
    let was = exists_only_locked acts all.1 keep.1 in (holder_after_destroying lid was.0, lock_destroyed lid was.0 (link_acts acts) was.1)
exists_only_locked (Linked (Unlocked lid) ∷ acts) all keep =
    let was = exists_only_locked acts all.1 keep.1 in (holder_after_destroying lid was.0, lock_destroyed lid was.0 (link_acts acts) was.1)
exists_only_locked (Linked (Locked lid) ∷ acts) all keep =
    let was = exists_only_locked acts all.1 keep.1 in
    (Some lid, locked_by lid (link_acts acts) was.0 was.1 (may_by lid acts was.0 (holder_by acts all.1 was.0 was.1) keep.0.1))
exists_only_locked (_ ∷ acts) all keep = exists_only_locked acts all.1 keep.1

pub only_holder_is_locked : (acts : List DeviceAct) → AllSuit acts → AllKeep acts → IsOnlyLocked (link_acts acts) (holder (link_acts acts))
only_holder_is_locked acts all keep =
    let by = exists_only_locked acts all keep in
    subst (IsOnlyLocked (link_acts acts)) (sym (holder_by acts all by.0 by.1)) by.1

-- ---- the holder is a live link

locked_link_is_live : (acts : List DeviceAct) → AllKeep acts → (n : ℕ) → is_locked n (link_acts acts) ≡ true
    → (d : ℕ) × (owner n (link_acts acts) ≡ Some d)
locked_link_is_live [] keep n e = absurd cc
locked_link_is_live (Linked (Made lid conn) ∷ acts) keep n e =
    let was = locked_link_is_live acts keep.1 n e in (was.0, owner_made n was.0 lid conn (link_acts acts) was.1)
locked_link_is_live (Linked (Destroyed lid) ∷ acts) keep n e =
    let both = (both_true (not (eqb lid n)) (is_locked n (link_acts acts))).0 e in
    let was = locked_link_is_live acts keep.1 n both.1 in
    (was.0, owner_destroyed_other n lid (link_acts acts) (not_same lid n both.0) ∙ was.1)
locked_link_is_live (Linked (Unlocked lid) ∷ acts) keep n e =
    locked_link_is_live acts keep.1 n ((both_true (not (eqb lid n)) (is_locked n (link_acts acts))).0 e).1
locked_link_is_live (Linked (Locked lid) ∷ acts) keep n e = elim (or_cases (eqb lid n) (is_locked n (link_acts acts)) e) [
  | inl same ↦ (keep.0.0.0, ap (λ (m : ℕ). owner m (link_acts acts)) (sym (eqb-true lid n same)) ∙ keep.0.0.1)
  | inr more ↦ locked_link_is_live acts keep.1 n more
]
locked_link_is_live (_ ∷ acts) keep n e = locked_link_is_live acts keep.1 n e

pub holder_is_live : (acts : List DeviceAct) → AllSuit acts → AllKeep acts → (n : ℕ) → holder (link_acts acts) ≡ Some n
    → (d : ℕ) × (owner n (link_acts acts) ≡ Some d)
holder_is_live acts all keep n is =
    locked_link_is_live acts keep n (only_holder_is_locked acts all keep n ∙ ap (is_this n) is ∙ eq-eqb n n refl)

-- ---- the link that a suspended call names is a live link of its connection

pub named_link_is_live : (acts : List DeviceAct) → AllSuit acts → AllKeep acts → (d : ℕ) (wait : Wait) (n : ℕ)
    → waits d (wait_acts acts) ≡ Some wait → link d (wait_acts acts) ≡ Some n → owner n (link_acts acts) ≡ Some d
named_link_is_live [] all keep d wait n w h = absurd cc
named_link_is_live (Linked (Made lid conn) ∷ acts) all keep d wait n w h =
    owner_made n d lid conn (link_acts acts) (named_link_is_live acts all.1 keep.1 d wait n w h)
named_link_is_live (Linked (Destroyed lid) ∷ acts) all keep d wait n w h = elim (cases_eq lid n) [
  | inl e ↦ absurd (keep.0 d wait w (h ∙ ap (λ (m : ℕ). Some m) (sym e)))
  | inr ne ↦ owner_destroyed_other n lid (link_acts acts) ne ∙ named_link_is_live acts all.1 keep.1 d wait n w h
]
named_link_is_live (Waited (Entered conn named for last) ∷ acts) all keep d wait n w h = elim (cases_Bool (eqb conn d)) [
  | inl e ↦ all.0.1 n (rw e at h) ∙ ap (λ (m : ℕ). Some m) (eqb-true conn d e)
  | inr e ↦ named_link_is_live acts all.1 keep.1 d wait n (rw e at w) (rw e at h)
]
named_link_is_live (Waited (Again conn for last) ∷ acts) all keep d wait n w h = elim (cases_Bool (eqb conn d)) [
  | inl e ↦
      let was = mapped_was_some for wait (waits d (wait_acts acts)) (rw e at w) in
      named_link_is_live acts all.1 keep.1 d was.0 n was.1 h
  | inr e ↦ named_link_is_live acts all.1 keep.1 d wait n (rw e at w) h
]
named_link_is_live (Waited (Left conn) ∷ acts) all keep d wait n w h = elim (cases_Bool (eqb conn d)) [
  | inl e ↦ absurd (let z : None ≡ Some wait = rw e at w in cc)
  | inr e ↦ named_link_is_live acts all.1 keep.1 d wait n (rw e at w) h
]
named_link_is_live (_ ∷ acts) all keep d wait n w h = named_link_is_live acts all.1 keep.1 d wait n w h

-- ---- a call that waits for the lock doesn't name a locked link

out_by : (n : ℕ) (o : Option ℕ) → is_locked_out o (Some n) ≡ true → is_this n o ≡ false
out_by n (Some h) e = elim (cases_eq h n) [
  | inl same ↦ absurd (let z : not true ≡ true = rw (eq-eqb n h (sym same)) at e in cc)
  | inr ne ↦ ne_eqb h n ne
]
out_by n None e = absurd cc

mapped_lock : (for : Wait) (found : Option Wait) → for ≢ Lock → option_map (λ (before : Wait). for) found ≡ Some Lock → ⊥
mapped_lock for (Some was) ne e = ne (some_injective for Lock e)
mapped_lock for None ne e = cc

waiting_names_no_locked : (acts : List DeviceAct) → AllSuit acts → AllKeep acts → (d n : ℕ) → WaitsForLock acts d
    → link d (wait_acts acts) ≡ Some n → is_locked n (link_acts acts) ≡ false
waiting_names_no_locked [] all keep d n w h = absurd cc
waiting_names_no_locked (Linked (Made lid conn) ∷ acts) all keep d n w h = waiting_names_no_locked acts all.1 keep.1 d n w h
waiting_names_no_locked (Linked (Destroyed lid) ∷ acts) all keep d n w h =
    and_right (not (eqb lid n)) _ (waiting_names_no_locked acts all.1 keep.1 d n w h)
waiting_names_no_locked (Linked (Unlocked lid) ∷ acts) all keep d n w h =
    and_right (not (eqb lid n)) _ (waiting_names_no_locked acts all.1 keep.1 d n w h)
waiting_names_no_locked (Linked (Locked lid) ∷ acts) all keep d n w h =
    let owns = named_link_is_live acts all.1 keep.1 d Lock n w h in
    let ne : lid ≢ n = λ e.
    let same : keep.0.0.0 ≡ d = some_injective keep.0.0.0 d (sym keep.0.0.1 ∙ ap (λ (m : ℕ). owner m (link_acts acts)) e ∙ owns) in
    none_is_not_some _ Lock keep.0.0.2 (ap (λ (m : ℕ). waits m (wait_acts acts)) same ∙ w) in
    rw (ne_eqb lid n ne) (waiting_names_no_locked acts all.1 keep.1 d n w h)
waiting_names_no_locked (Waited (Entered conn named for last) ∷ acts) all keep d n w h = elim (cases_Bool (eqb conn d)) [
  | inl e ↦
      let is : for ≡ Lock = some_injective for Lock (rw e at w) in
      let same : named ≡ Some n = rw e at h in
      only_holder_is_locked acts all.1 keep.1 n
      ∙ out_by n (holder (link_acts acts)) (ap (is_locked_out (holder (link_acts acts))) (sym same) ∙ keep.0 is)
  | inr e ↦ waiting_names_no_locked acts all.1 keep.1 d n (rw e at w) (rw e at h)
]
waiting_names_no_locked (Waited (Again conn for last) ∷ acts) all keep d n w h = elim (cases_Bool (eqb conn d)) [
  | inl e ↦ absurd (mapped_lock for (waits d (wait_acts acts)) keep.0.0 (rw e at w))
  | inr e ↦ waiting_names_no_locked acts all.1 keep.1 d n (rw e at w) h
]
waiting_names_no_locked (Waited (Left conn) ∷ acts) all keep d n w h = elim (cases_Bool (eqb conn d)) [
  | inl e ↦ absurd (let z : None ≡ Some Lock = rw e at w in cc)
  | inr e ↦ waiting_names_no_locked acts all.1 keep.1 d n (rw e at w) h
]
waiting_names_no_locked (_ ∷ acts) all keep d n w h = waiting_names_no_locked acts all.1 keep.1 d n w h

-- While a link holds the lock, a call that isn't locked out names this link.
pub not_locked_out_names_holder : (h : ℕ) (named : Option ℕ) → is_locked_out (Some h) named ≡ false → named ≡ Some h
not_locked_out_names_holder h (Some n) e = elim (cases_eq n h) [
  | inl same ↦ ap (λ (m : ℕ). Some m) same
  | inr ne ↦ absurd (let z : not false ≡ false = rw (ne_eqb n h ne) at e in cc)
]
not_locked_out_names_holder h None e = absurd cc

pub lock_is_free : (acts : List DeviceAct) → AllSuit acts → AllKeep acts → (d : ℕ) → WaitsForLock acts d
    → is_locked_out (holder (link_acts acts)) (link d (wait_acts acts)) ≡ false → holder (link_acts acts) ≡ None
lock_is_free acts all keep d w e = by (holder (link_acts acts)) refl e
  where
    by : (o : Option ℕ) → holder (link_acts acts) ≡ o → is_locked_out o (link d (wait_acts acts)) ≡ false → holder (link_acts acts) ≡ None
    by None is e = is
    by (Some h) is e =
        let named = not_locked_out_names_holder h (link d (wait_acts acts)) e in
        true_is_not_false (is_locked h (link_acts acts)) (only_holder_is_locked acts all keep h ∙ ap (is_this h) is ∙ eq-eqb h h refl)
        (waiting_names_no_locked acts all keep d h w named)
