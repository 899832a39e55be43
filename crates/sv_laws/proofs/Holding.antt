-- The link that holds the lock keeps it until its connection lets it go. A link gets the lock
-- because a call asks for it, in the order in which the calls were taken.
use Rattle.std.proofs.Common.{◌≡◌, ◌≢◌, ℕ, Bool, true, false, eqb, List, [], ◌∷◌, ◌++◌, Some, None, refl, sym, ap, subst, ◌∙◌, inl, inr, ◌⊎◌, eq-eqb}
use Rattle.std.specs.Prelude.{map, not, ◌&&◌}
use Rattle.std.proofs.lemmas.Bool.{cases_eq, ne_eqb, or_right}
use Rattle.sv_links.specs.Links.{LinkAct, Destroyed, Locked, Unlocked, owner, is_locked, holder, is_this}
use Rattle.sv_links.specs.Waiting.{Left}
use Rattle.sv_links.proofs.Locks.{holder_is_this_link}
use Rattle.sv_history.specs.Act.{Act, DeviceAct, Linked, Waited, On, OnDevice, of, device_acts, link_acts}
use Rattle.sv_history.specs.Connection.{is_open}
use Rattle.sv_history.proofs.Projections.{device_acts_append}
use Rattle.sv_laws.specs.LockFair.{MayGet, OldestGets, ReleasesLock, HolderKeeps}
use Rattle.sv_laws.proofs.InLine.{earliest_is_first}
use Rattle.sv_laws.proofs.Passing.{device_acts_of_append}
use Rattle.sv_laws.proofs.Placed.{MayFree, HasTurn, IsPlaced, AllPlaced, suffix_is_placed, placed_log}
use Rattle.sv_laws.proofs.SoundEvents.{keeps_at_each_act}
use Rattle.sv_laws.proofs.EveryLog.Fit.{AllSuit}
use Rattle.sv_laws.proofs.EveryLog.EachEvent.{fit_log}
use Rattle.sv_laws.proofs.EveryLog.Keeps.{IsEarliest, MayTake, AllKeep, keep_suffix, only_holder_is_locked}

-- ---- which acts free the lock

-- The acts of the device in a suffix of the log are a suffix of the device's acts in the log.
device_acts_of_suffix : (newer older : List Act) → (more : List DeviceAct) × (device_acts (newer ++ older) ≡ more ++ device_acts older)
device_acts_of_suffix [] older = ([], refl)
device_acts_of_suffix (On c act ∷ newer) older = device_acts_of_suffix newer older
device_acts_of_suffix (OnDevice act ∷ newer) older =
    let rest = device_acts_of_suffix newer older in (act ∷ rest.0, ap (λ (l : List DeviceAct). act ∷ l) rest.1)

suit_suffix : (newer older : List DeviceAct) → AllSuit (newer ++ older) → AllSuit older
suit_suffix [] older all = all
suit_suffix (act ∷ newer) older all = suit_suffix newer older all.1

-- A link is locked exactly if it holds the lock.
locked_holds : (acts : List DeviceAct) → AllSuit acts → AllKeep acts → (lid : ℕ) → is_locked lid (link_acts acts) ≡ true
    → holder (link_acts acts) ≡ Some lid
locked_holds acts suits keeps lid on = holder_is_this_link lid (holder (link_acts acts))
    (sym on ∙ only_holder_is_locked acts suits keeps lid)

holds_locked : (acts : List DeviceAct) → AllSuit acts → AllKeep acts → (lid : ℕ) → holder (link_acts acts) ≡ Some lid
    → is_locked lid (link_acts acts) ≡ true
holds_locked acts suits keeps lid is = only_holder_is_locked acts suits keeps lid ∙ ap (is_this lid) is ∙ eq-eqb lid lid refl

off_and : (a b : ℕ) (on : Bool) → a ≢ b → on ≡ true → (not (eqb a b) && on) ≡ true
off_and a b on ne e = rw (ne_eqb a b ne) e

-- A locked link stays locked, unless its connection was closed, or takes a device_unlock or a
-- destroy_link of the link.
stays_locked : (act : Act) (older : List Act) (c lid : ℕ) → IsPlaced older act → owner lid (link_acts (device_acts older)) ≡ Some c
    → is_locked lid (link_acts (device_acts older)) ≡ true
    → (is_locked lid (link_acts (device_acts (act ∷ older))) ≡ true) ⊎ (is_open (of c older) ≡ false) ⊎ ReleasesLock c lid older
stays_locked (OnDevice (Linked (Locked other))) older c lid placed owns on = inl (or_right (eqb other lid) _ on)
stays_locked (OnDevice (Linked (Unlocked other))) older c lid placed owns on = elim (cases_eq other lid) [
  | inl same ↦ inr (subst (λ (n : ℕ). MayFree n older) same placed c owns)
  | inr ne ↦ inl (off_and other lid _ ne on)
]
stays_locked (OnDevice (Linked (Destroyed other))) older c lid placed owns on = elim (cases_eq other lid) [
  | inl same ↦ inr (subst (λ (n : ℕ). MayFree n older) same placed c owns)
  | inr ne ↦ inl (off_and other lid _ ne on)
]
stays_locked _ older c lid placed owns on = inl on

pub holder_keeps : HolderKeeps
holder_keeps config history log newer older act c lid was is holds owns ends =
    let known = placed_log config history log was in
    let part = device_acts_of_suffix newer (act ∷ older) in
    let acts : device_acts log ≡ part.0 ++ device_acts (act ∷ older) = ap device_acts is ∙ part.1 in
    let suits : AllSuit (device_acts (act ∷ older)) =
    suit_suffix part.0 (device_acts (act ∷ older)) (subst AllSuit acts (fit_log config history log was).suits) in
    let keeps : AllKeep (device_acts (act ∷ older)) =
    keep_suffix part.0 (device_acts (act ∷ older)) (subst AllKeep acts known.sound.keeps) in
    let step = device_acts_of_suffix (act ∷ []) older in
    let suited : AllSuit (device_acts older) = suit_suffix step.0 (device_acts older) (subst AllSuit step.1 suits) in
    let kept : AllKeep (device_acts older) = keep_suffix step.0 (device_acts older) (subst AllKeep step.1 keeps) in
    let placed = suffix_is_placed newer (act ∷ older) (subst AllPlaced is known.placed) in
    elim (stays_locked act older c lid placed.0 owns (holds_locked (device_acts older) suited kept lid holds)) [
      | inl on ↦ absurd (ends (locked_holds (device_acts (act ∷ older)) suits keeps lid on))
      | inr lets ↦ lets
    ]

-- ---- which link gets the lock

-- If only links were made since a call left the queue, the acts determine which call it was.
last_left_is_unique : (made other : List LinkAct) (c d : ℕ) (acts more : List DeviceAct)
    → map Linked made ++ Waited (Left c) ∷ acts ≡ map Linked other ++ Waited (Left d) ∷ more → (c ≡ d) × (acts ≡ more)
last_left_is_unique [] [] c d acts more e = (cc, cc)
last_left_is_unique [] (act ∷ other) c d acts more e = absurd cc
last_left_is_unique (act ∷ made) [] c d acts more e = absurd cc
last_left_is_unique (act ∷ made) (one ∷ other) c d acts more e = last_left_is_unique made other c d acts more (cc)

-- A link that may take the lock by the order in which calls were suspended may get it by the order
-- in which they were taken.
may_take_may_get : (lid : ℕ) (older : List Act) → AllPlaced older → (holder (link_acts (device_acts older)) ≡ None → HasTurn older)
    → MayTake lid (device_acts older) → MayGet lid older
may_take_may_get lid older placed turn (inl holds) = inl holds
may_take_may_get lid older placed turn (inr (free, inl nobody)) = inr (free, inl nobody)
may_take_may_get lid older placed turn (inr (free, inr (c, made, acts, is, owns, first))) = elim (turn free) [
  | inl nobody ↦ inr (free, inl nobody)
  | inr (d, other, before, so) ↦
      let split : device_acts older ≡ map Linked other ++ Waited (Left d) ∷ device_acts before =
      ap device_acts so ∙ device_acts_append (map Linked other) (OnDevice (Waited (Left d)) ∷ before) in
      let same = last_left_is_unique made other c d acts (device_acts before) (sym is ∙ split) in
      let earliest : IsEarliest d (device_acts before) =
      subst (λ (n : ℕ). IsEarliest n (device_acts before)) same.0 (subst (IsEarliest c) same.1 first) in
      let behind = suffix_is_placed (map OnDevice (map Linked other)) (OnDevice (Waited (Left d)) ∷ before) (subst AllPlaced so placed) in
      inr (free, inr (d, other, before, so, owns ∙ ap (λ (n : ℕ). Some n) same.0, earliest_is_first d before behind.1 earliest))
]

pub oldest_gets : OldestGets
oldest_gets config history log newer older lid was is =
    let all = subst AllPlaced is (placed_log config history log was).placed in
    let placed = suffix_is_placed newer (OnDevice (Linked (Locked lid)) ∷ older) all in
    let place = keeps_at_each_act config history log (device_acts newer) (device_acts older) (Linked (Locked lid)) was
    (ap device_acts is ∙ device_acts_of_append newer older (Linked (Locked lid))) in
    (may_take_may_get lid older placed.1 placed.0.0 place.1, placed.0.1)
