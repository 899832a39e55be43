-- Acts of other connections, and the same act in two logs, leave the owners of links and the lock
-- holder alike.
use Rattle.std.proofs.Common.{◌≡◌, ◌≢◌, ℕ, Bool, true, false, eqb, cond, List, [], ◌∷◌, ◌++◌, Option, Some, None, refl, sym, ap, ◌∙◌, inl, inr, ◌⊎◌, eq-eqb}
use Rattle.std.specs.Prelude.{not, filter, find, option_map, ◌&&◌, ⊤}
use Rattle.std.proofs.lemmas.Bool.{ne_eqb, cases_Bool, cases_eq, eqb-true, eqb-false}
use Rattle.sv_links.specs.declared.links.Link.{Link}
use Rattle.sv_links.specs.Links.{LinkAct, Made, Destroyed, Locked, Unlocked, live, owner, is_of, lock_order, is_locked, holder}
use Rattle.sv_links.proofs.Tables.{other_than}
use Rattle.sv_laws.proofs.Facts.{some_injective}
use Rattle.sv_logs.proofs.Since.{both_true}

-- ---- the owner of a link number

abbrev owner_in : ℕ → List Link → Option ℕ
owner_in n xs = option_map (λ link. link.conn) (find (λ link. eqb link.lid n) xs)

owner_kept_by_append : (n c : ℕ) (xs : List Link) (link : Link) → owner_in n xs ≡ Some c → owner_in n (xs ++ link ∷ []) ≡ Some c
owner_kept_by_append n c [] link h = absurd cc
owner_kept_by_append n c (x ∷ xs) link h = elim (cases_Bool (eqb x.lid n)) [
  | inl e ↦ rw e (rw e at h)
  | inr e ↦ rw e (owner_kept_by_append n c xs link (rw e at h))
]

other_owner_kept_by_append : (n : ℕ) (xs : List Link) (link : Link) → link.lid ≢ n → owner_in n (xs ++ link ∷ []) ≡ owner_in n xs
other_owner_kept_by_append n [] link ne = rw (ne_eqb link.lid n ne) refl
other_owner_kept_by_append n (x ∷ xs) link ne = elim (cases_Bool (eqb x.lid n)) [
  | inl e ↦ rw e refl
  | inr e ↦ rw e (other_owner_kept_by_append n xs link ne)
]

is_of_kept_by_append : (c n : ℕ) (xs : List Link) (link : Link) → link.conn ≢ c
    → is_of c (owner_in n (xs ++ link ∷ [])) ≡ is_of c (owner_in n xs)
is_of_kept_by_append c n [] link ne = elim (cases_Bool (eqb link.lid n)) [
  | inl e ↦ rw (e, ne_eqb link.conn c ne) refl
  | inr e ↦ rw e refl
]
is_of_kept_by_append c n (x ∷ xs) link ne = elim (cases_Bool (eqb x.lid n)) [
  | inl e ↦ rw e refl
  | inr e ↦ rw e (is_of_kept_by_append c n xs link ne)
]

-- Removing the links with a number leaves this number without an owner, and all other owners
-- unchanged.
owner_after_removal : (lid n : ℕ) (xs : List Link) → owner_in n (filter (other_than lid) xs) ≡ cond (eqb lid n) None (owner_in n xs)
owner_after_removal lid n [] = elim (cases_Bool (eqb lid n)) [ inl e ↦ rw e refl | inr e ↦ rw e refl ]
owner_after_removal lid n (x ∷ xs) = elim (cases_Bool (eqb x.lid lid)) [
  | inl e ↦ elim (cases_Bool (eqb lid n)) [
    | inl k ↦ rw (e, k) (owner_after_removal lid n xs ∙ rw k refl)
    | inr k ↦ let same : x.lid ≡ lid = eqb-true x.lid lid e in rw (e, k, same, k) (owner_after_removal lid n xs ∙ rw k refl)
  ]
  | inr e ↦ elim (cases_Bool (eqb x.lid n)) [
    | inl k ↦
        let apart : eqb lid n ≡ false = ne_eqb lid n (λ same. eqb-false x.lid lid e (eqb-true x.lid n k ∙ sym same)) in
        rw (e, k, apart) refl
    | inr k ↦ rw (e, k) (owner_after_removal lid n xs)
  ]
]

pub owner_made : (n c lid conn : ℕ) (acts : List LinkAct) → owner n acts ≡ Some c → owner n (Made lid conn ∷ acts) ≡ Some c
owner_made n c lid conn acts h = owner_kept_by_append n c (live acts) (record { lid = lid; conn = conn }) h

pub owner_made_other : (n lid conn : ℕ) (acts : List LinkAct) → lid ≢ n → owner n (Made lid conn ∷ acts) ≡ owner n acts
owner_made_other n lid conn acts ne = other_owner_kept_by_append n (live acts) (record { lid = lid; conn = conn }) ne

-- A link's owner after another link is made is its owner before, or the connection that made that
-- link.
owner_after_append : (n c : ℕ) (xs : List Link) (link : Link) → owner_in n (xs ++ link ∷ []) ≡ Some c → (owner_in n xs ≡ Some c)
    ⊎ (c ≡ link.conn)
owner_after_append n c [] link h = elim (cases_Bool (eqb link.lid n)) [
  | inl e ↦ inr (sym (some_injective link.conn c (rw e at h)))
  | inr e ↦ absurd (let z : None ≡ Some c = rw e at h in cc)
]
owner_after_append n c (x ∷ xs) link h = elim (cases_Bool (eqb x.lid n)) [
  | inl e ↦ inl (rw e (rw e at h))
  | inr e ↦ rw e (owner_after_append n c xs link (rw e at h))
]

pub owner_before_made : (n c lid conn : ℕ) (acts : List LinkAct) → owner n (Made lid conn ∷ acts) ≡ Some c
    → (owner n acts ≡ Some c) ⊎ (c ≡ conn)
owner_before_made n c lid conn acts h = owner_after_append n c (live acts) (record { lid = lid; conn = conn }) h

pub owner_destroyed : (n lid : ℕ) (acts : List LinkAct) → owner n (Destroyed lid ∷ acts) ≡ cond (eqb lid n) None (owner n acts)
owner_destroyed n lid acts = owner_after_removal lid n (live acts)

pub owner_destroyed_other : (n lid : ℕ) (acts : List LinkAct) → lid ≢ n → owner n (Destroyed lid ∷ acts) ≡ owner n acts
owner_destroyed_other n lid acts ne = owner_destroyed n lid acts ∙ rw (ne_eqb lid n ne) refl

-- A number that has an owner after a link is destroyed isn't that link's, and had this owner
-- before.
pub owner_before_destroy : (n c lid : ℕ) (acts : List LinkAct) → owner n (Destroyed lid ∷ acts) ≡ Some c → (lid ≢ n)
    × (owner n acts ≡ Some c)
owner_before_destroy n c lid acts h = elim (cases_eq lid n) [
  | inl e ↦
      let none : owner n (Destroyed lid ∷ acts) ≡ None = owner_destroyed n lid acts ∙ rw (eq-eqb lid n e) refl in
      absurd (let z : None ≡ Some c = sym none ∙ h in cc)
  | inr ne ↦ (ne, sym (owner_destroyed_other n lid acts ne) ∙ h)
]

pub is_of_owner : (c n : ℕ) (acts : List LinkAct) → owner n acts ≡ Some c → is_of c (owner n acts) ≡ true
is_of_owner c n acts h = rw h (eq-eqb c c refl)

pub owner_is_of : (c : ℕ) (found : Option ℕ) → is_of c found ≡ true → found ≡ Some c
owner_is_of c (Some other) e = ap (λ (n : ℕ). Some n) (eqb-true other c e)
owner_is_of c None e = absurd cc

pub other_owner : (c d : ℕ) (found : Option ℕ) → d ≢ c → found ≡ Some d → is_of c found ≡ false
other_owner c d found ne h = rw h (ne_eqb d c ne)

-- ---- which links one connection owns

abbrev pub OwnsAlike : ℕ → List LinkAct → List LinkAct → Type 0
OwnsAlike c acts other = (n : ℕ) → is_of c (owner n acts) ≡ is_of c (owner n other)

-- The act makes and destroys no link of the connection, and neither takes nor frees the lock.
abbrev pub IsForeignLink : ℕ → LinkAct → List LinkAct → Type 0
IsForeignLink c (Made lid conn) acts = conn ≢ c
IsForeignLink c (Destroyed lid) acts = is_of c (owner lid acts) ≡ false
IsForeignLink c (Locked lid) acts = ⊥
IsForeignLink c (Unlocked lid) acts = ⊥

pub owns_alike_foreign_act : (c : ℕ) (act : LinkAct) (acts other : List LinkAct) → IsForeignLink c act acts → OwnsAlike c acts other
    → OwnsAlike c (act ∷ acts) other
owns_alike_foreign_act c (Made lid conn) acts other h alike = λ n. is_of_kept_by_append c n (live acts) (record { lid = lid; conn = conn })
    h ∙ alike n
owns_alike_foreign_act c (Destroyed lid) acts other h alike = λ n. elim (cases_eq lid n) [
  | inl e ↦
      let gone : is_of c (owner n (Destroyed lid ∷ acts)) ≡ false =
      ap (is_of c) (owner_destroyed n lid acts) ∙ rw (eq-eqb lid n e) refl in
      gone ∙ sym (ap (λ (m : ℕ). is_of c (owner m acts)) (sym e) ∙ h) ∙ alike n
  | inr ne ↦ ap (is_of c) (owner_destroyed_other n lid acts ne) ∙ alike n
]
owns_alike_foreign_act c _ acts other h alike = absurd h

abbrev pub MakesNone : LinkAct → Type 0
MakesNone (Made lid conn) = ⊥
MakesNone act = ⊤

pub owns_alike_same_act : (c : ℕ) (act : LinkAct) (acts other : List LinkAct) → MakesNone act → OwnsAlike c acts other
    → OwnsAlike c (act ∷ acts) (act ∷ other)
owns_alike_same_act c (Made lid conn) acts other h alike = absurd h
owns_alike_same_act c (Destroyed lid) acts other h alike = λ n.
    ap (is_of c) (owner_destroyed n lid acts) ∙ left_of (eqb lid n) (owner n acts) (owner n other) (alike n)
    ∙ sym (ap (is_of c) (owner_destroyed n lid other))
  where
    left_of : (b : Bool) (one two : Option ℕ) → is_of c one ≡ is_of c two → is_of c (cond b None one) ≡ is_of c (cond b None two)
    left_of true one two e = refl
    left_of false one two e = e
owns_alike_same_act c (Locked lid) acts other h alike = alike
owns_alike_same_act c (Unlocked lid) acts other h alike = alike

-- ---- the lock holder

found_passes_test : (test : ℕ → Bool) (m : ℕ) (xs : List ℕ) → find test xs ≡ Some m → test m ≡ true
found_passes_test test m [] h = absurd cc
found_passes_test test m (x ∷ xs) h = elim (cases_Bool (test x)) [
  | inl e ↦ ap test (sym (some_injective x m (rw e at h))) ∙ e
  | inr e ↦ found_passes_test test m xs (rw e at h)
]

-- The first element that passes a test is also the first to pass a narrower test, if it passes it.
found_by_narrower_test : (wide narrow : ℕ → Bool) (m : ℕ) (xs : List ℕ) → ((x : ℕ) → narrow x ≡ true → wide x ≡ true) → narrow m ≡ true
    → find wide xs ≡ Some m → find narrow xs ≡ Some m
found_by_narrower_test wide narrow m [] so is h = absurd cc
found_by_narrower_test wide narrow m (x ∷ xs) so is h = elim (cases_Bool (wide x)) [
  | inl e ↦
      let same : x ≡ m = some_injective x m (rw e at h) in
      let here : narrow x ≡ true = ap narrow same ∙ is in
      rw here (ap (λ (n : ℕ). Some n) same)
  | inr e ↦ elim (cases_Bool (narrow x)) [
    | inl k ↦ absurd (let z : true ≡ false = sym (so x k) ∙ e in cc)
    | inr k ↦ rw k (found_by_narrower_test wide narrow m xs so is (rw e at h))
  ]
]

pub not_same : (a b : ℕ) → not (eqb a b) ≡ true → a ≢ b
not_same a b e same = absurd (let z : not true ≡ true = rw (eq-eqb a b same) at e in cc)

pub unlocked_is_not_holder : (lid : ℕ) (acts : List LinkAct) → is_locked lid acts ≡ false → holder acts ≡ Some lid → ⊥
unlocked_is_not_holder lid acts free h = let z : false ≡ true = sym free
    ∙ found_passes_test (λ n. is_locked n acts) lid (lock_order acts) h in cc

pub holder_was_not_unlocked : (lid n : ℕ) (acts : List LinkAct) → holder (Unlocked n ∷ acts) ≡ Some lid → n ≢ lid
holder_was_not_unlocked lid n acts h =
    let found = found_passes_test (λ (m : ℕ). is_locked m (Unlocked n ∷ acts)) lid (lock_order acts) h in
    not_same n lid ((both_true (not (eqb n lid)) (is_locked lid acts)).0 found).0

pub holder_was_not_destroyed : (lid n : ℕ) (acts : List LinkAct) → holder (Destroyed n ∷ acts) ≡ Some lid → n ≢ lid
holder_was_not_destroyed lid n acts h =
    let found = found_passes_test (λ (m : ℕ). is_locked m (Destroyed n ∷ acts)) lid (lock_order acts) h in
    not_same n lid ((both_true (not (eqb n lid)) (is_locked lid acts)).0 found).0

pub locked_link_is_holder : (n : ℕ) (acts : List LinkAct) → holder (Locked n ∷ acts) ≡ Some n
locked_link_is_holder n acts = rw (eq-eqb n n refl) refl

still_found : (lid n : ℕ) (acts : List LinkAct) → n ≢ lid → holder acts ≡ Some lid
    → find (λ m. not (eqb n m) && is_locked m acts) (lock_order acts) ≡ Some lid
still_found lid n acts ne h =
    found_by_narrower_test (λ m. is_locked m acts) (λ m. not (eqb n m) && is_locked m acts) lid (lock_order acts)
    (λ x e. ((both_true (not (eqb n x)) (is_locked x acts)).0 e).1)
    ((both_true (not (eqb n lid)) (is_locked lid acts)).1
    (rw (ne_eqb n lid ne) refl, found_passes_test (λ m. is_locked m acts) lid (lock_order acts) h)) h

-- If a link holds the lock in one log after an act, and in another log before it, it holds the lock
-- there after this act too.
pub same_act_same_holder : (lid : ℕ) (act : LinkAct) (acts other : List LinkAct) → holder other ≡ Some lid → holder (act ∷ acts) ≡ Some lid
    → holder (act ∷ other) ≡ Some lid
same_act_same_holder lid (Made n conn) acts other h now = h
same_act_same_holder lid (Destroyed n) acts other h now = still_found lid n other (holder_was_not_destroyed lid n acts now) h
same_act_same_holder lid (Locked n) acts other h now = locked_link_is_holder n other ∙ sym (locked_link_is_holder n acts) ∙ now
same_act_same_holder lid (Unlocked n) acts other h now = still_found lid n other (holder_was_not_unlocked lid n acts now) h

-- A link that holds the lock after an act still has its owner.
pub owner_of_holder_kept : (c lid : ℕ) (act : LinkAct) (acts : List LinkAct) → holder (act ∷ acts) ≡ Some lid → owner lid acts ≡ Some c
    → owner lid (act ∷ acts) ≡ Some c
owner_of_holder_kept c lid (Made n conn) acts now h = owner_made lid c n conn acts h
owner_of_holder_kept c lid (Destroyed n) acts now h = owner_destroyed_other lid n acts (holder_was_not_destroyed lid n acts now) ∙ h
owner_of_holder_kept c lid _ acts now h = h
