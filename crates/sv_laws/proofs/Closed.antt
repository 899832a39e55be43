-- Which connection owns a link after a connection was closed and its links were destroyed.
use Rattle.std.proofs.Common.{◌≡◌, ◌≢◌, ℕ, Bool, true, false, eqb, cond, List, [], ◌∷◌, ◌++◌, Option, Some, None, refl, sym, ap, ◌∙◌, inl, inr, eq-eqb}
use Rattle.std.specs.Prelude.{map, filter, find, option_map, ◌||◌}
use Rattle.std.specs.List.{AllByRecursion}
use Rattle.std.proofs.lemmas.Bool.{cases_Bool, or_right}
use mathlib.Core.List.{reverse_aux, reverse_aux-eq}
use Rattle.sv_logs.proofs.Each.{Each}
use Rattle.sv_links.specs.declared.links.Link.{Link}
use Rattle.sv_links.specs.Links.{LinkAct, Destroyed, live, owner, is_of, links_of, closing, is_locked, holder}
use Rattle.sv_links.specs.Table.{IsRising}
use Rattle.sv_links.proofs.Closing.{with_destroyed, of_conn, has_link_number, is_locked_after_destroying, has_by_owner}
use Rattle.sv_laws.proofs.Facts.{some_injective}
use Rattle.sv_laws.proofs.LinksAlike.{IsForeignLink, MakesNone, owner_destroyed, owner_is_of, unlocked_is_not_holder, other_owner}

-- The live links of a connection.
abbrev links_in : ℕ → List LinkAct → List Link
links_in c acts = filter (of_conn c) (live acts)

closing_gone : (c : ℕ) (acts : List LinkAct) → closing c acts ++ acts ≡ with_destroyed (links_in c acts) acts
closing_gone c acts = sym (reverse_aux-eq (map Destroyed (links_of c acts)) acts)

-- A link that connection `c` owns is one of the links of `c`.
own_link_is_listed : (c n : ℕ) (xs : List Link) → option_map (λ link. link.conn) (find (λ link. eqb link.lid n) xs) ≡ Some c
    → has_link_number n (filter (of_conn c) xs) ≡ true
own_link_is_listed c n [] h = absurd cc
own_link_is_listed c n (x ∷ xs) h = elim (cases_Bool (eqb x.lid n)) [
  | inl e ↦ let same : x.conn ≡ c = some_injective x.conn c (rw e at h) in rw (eq-eqb x.conn c same, e) refl
  | inr e ↦ elim (cases_Bool (eqb x.conn c)) [
    | inl k ↦ rw (k, e) (own_link_is_listed c n xs (rw e at h))
    | inr k ↦ rw k (own_link_is_listed c n xs (rw e at h))
  ]
]

cond_or : (a b : Bool) (found : Option ℕ) → cond b None (cond a None found) ≡ cond (a || b) None found
cond_or true true found = refl
cond_or true false found = refl
cond_or false b found = refl

owner_after_destroying : (n : ℕ) (ys : List Link) (acts : List LinkAct)
    → owner n (with_destroyed ys acts) ≡ cond (has_link_number n ys) None (owner n acts)
owner_after_destroying n [] acts = refl
owner_after_destroying n (y ∷ ys) acts = owner_after_destroying n ys (Destroyed y.lid ∷ acts)
    ∙ ap (λ (found : Option ℕ). cond (has_link_number n ys) None found) (owner_destroyed n y.lid acts)
    ∙ cond_or (eqb y.lid n) (has_link_number n ys) (owner n acts)

owner_closed : (c n : ℕ) (acts : List LinkAct) → owner n (closing c acts ++ acts) ≡ cond (has_link_number n (links_in c acts)) None
    (owner n acts)
owner_closed c n acts = ap (owner n) (closing_gone c acts) ∙ owner_after_destroying n (links_in c acts) acts

-- A link that has an owner after connection `c` closed had the same owner before, and that owner
-- isn't `c`.
pub owner_after_close_was_owner : (c d n : ℕ) (acts : List LinkAct) → owner n (closing c acts ++ acts) ≡ Some d → (d ≢ c)
    × (owner n acts ≡ Some d)
owner_after_close_was_owner c d n acts h = elim (cases_Bool (has_link_number n (links_in c acts))) [
  | inl e ↦ absurd (let z : None ≡ Some d = sym (owner_closed c n acts ∙ rw e refl) ∙ h in cc)
  | inr e ↦
      let was : owner n acts ≡ Some d = sym (owner_closed c n acts ∙ rw e refl) ∙ h in (
        (λ (same : d ≡ c).
            let z : true ≡ false = sym (own_link_is_listed c n (live acts) (was ∙ ap (λ (m : ℕ). Some m) same)) ∙ e in cc),
        was,
      )
]

-- After a connection closed, none of its links holds the lock.
pub closed_link_holds_no_lock : (c lid : ℕ) (acts : List LinkAct) → owner lid acts ≡ Some c → holder (closing c acts ++ acts) ≡ Some lid → ⊥
closed_link_holds_no_lock c lid acts owns h =
    let free : is_locked lid (with_destroyed (links_in c acts) acts) ≡ false =
    is_locked_after_destroying lid (links_in c acts) acts ∙ rw (own_link_is_listed c lid (live acts) owns) refl in
    unlocked_is_not_holder lid (closing c acts ++ acts) (ap (is_locked lid) (closing_gone c acts) ∙ free) h

-- ---- the numbers of another connection's links

all_then : (P Q : Link → Type 0) (xs : List Link) → ((x : Link) → P x → Q x) → AllByRecursion P xs → AllByRecursion Q xs
all_then P Q [] so h = tt
all_then P Q (x ∷ xs) so h = (so x h.0, all_then P Q xs so h.1)

all_has : (ys : List Link) → AllByRecursion (λ y. has_link_number y.lid ys ≡ true) ys
all_has [] = tt
all_has (y ∷ ys) = (
  rw (eq-eqb y.lid y.lid refl) refl,
  all_then (λ x. has_link_number x.lid ys ≡ true) (λ x. has_link_number x.lid (y ∷ ys) ≡ true) ys
      (λ x h. or_right (eqb y.lid x.lid) (has_link_number x.lid ys) h) (all_has ys),
)

all_numbers : (P : ℕ → Type 0) (ys : List Link) → AllByRecursion (λ y. P y.lid) ys → AllByRecursion P (map (λ link. link.lid) ys)
all_numbers P [] h = tt
all_numbers P (y ∷ ys) h = (h.0, all_numbers P ys h.1)

closed_others : (c d last : ℕ) (acts : List LinkAct) → d ≢ c → IsRising (live acts) last
    → AllByRecursion (λ n. is_of c (owner n acts) ≡ false) (links_of d acts)
closed_others c d last acts ne rising = all_numbers (λ n. is_of c (owner n acts) ≡ false) (links_in d acts)
    (all_then (λ y. has_link_number y.lid (links_in d acts) ≡ true) (λ y. is_of c (owner y.lid acts) ≡ false) (links_in d acts)
    (λ y h. other_owner c d (owner y.lid acts) ne
    (owner_is_of d (owner y.lid acts) (sym (has_by_owner d y.lid (live acts) last rising) ∙ h))) (all_has (links_in d acts)))

pub closed_links_are_own : (c last : ℕ) (acts : List LinkAct) → IsRising (live acts) last
    → AllByRecursion (λ n. owner n acts ≡ Some c) (links_of c acts)
closed_links_are_own c last acts rising = all_numbers (λ n. owner n acts ≡ Some c) (links_in c acts)
    (all_then (λ y. has_link_number y.lid (links_in c acts) ≡ true) (λ y. owner y.lid acts ≡ Some c) (links_in c acts)
    (λ y h. owner_is_of c (owner y.lid acts) (sym (has_by_owner c y.lid (live acts) last rising) ∙ h)) (all_has (links_in c acts)))

-- A link that isn't one of connection `c` isn't one after some link was destroyed.
still_other : (c n lid : ℕ) (acts : List LinkAct) → is_of c (owner n acts) ≡ false → is_of c (owner n (Destroyed lid ∷ acts)) ≡ false
still_other c n lid acts h = elim (cases_Bool (eqb lid n)) [
  | inl e ↦ ap (is_of c) (owner_destroyed n lid acts) ∙ rw e refl
  | inr e ↦ ap (is_of c) (owner_destroyed n lid acts) ∙ rw e h
]

still_others : (c lid : ℕ) (acts : List LinkAct) (ns : List ℕ) → AllByRecursion (λ n. is_of c (owner n acts) ≡ false) ns
    → AllByRecursion (λ n. is_of c (owner n (Destroyed lid ∷ acts)) ≡ false) ns
still_others c lid acts [] h = tt
still_others c lid acts (n ∷ ns) h = (still_other c n lid acts h.0, still_others c lid acts ns h.1)

each_destroyed : (c : ℕ) (ns : List ℕ) (behind acts : List LinkAct) → AllByRecursion (λ n. is_of c (owner n (behind ++ acts)) ≡ false) ns
    → Each (λ before act. IsForeignLink c act before) behind acts
    → Each (λ before act. IsForeignLink c act before) (reverse_aux (map Destroyed ns) behind) acts
each_destroyed c [] behind acts h k = k
each_destroyed c (n ∷ ns) behind acts h k =
    each_destroyed c ns (Destroyed n ∷ behind) acts (still_others c n (behind ++ acts) ns h.1) (h.0, k)

-- Closing another connection neither makes nor destroys a link of connection `c`, and neither locks
-- nor unlocks a link.
pub closing_is_foreign_to_others : (c d last : ℕ) (acts : List LinkAct) → d ≢ c → IsRising (live acts) last
    → Each (λ before act. IsForeignLink c act before) (closing d acts) acts
closing_is_foreign_to_others c d last acts ne rising = each_destroyed c (links_of d acts) [] acts (closed_others c d last acts ne rising) tt

-- What holds of the destruction of any link, after any acts, holds of each act by which the links
-- of a connection are destroyed.
each_destruction : (IsSuch : List LinkAct → LinkAct → Type 0) → ((before : List LinkAct) (n : ℕ) → IsSuch before (Destroyed n))
    → (ns : List ℕ)
    (behind acts : List LinkAct)
    → Each IsSuch behind acts → Each IsSuch (reverse_aux (map Destroyed ns) behind) acts
each_destruction IsSuch so [] behind acts h = h
each_destruction IsSuch so (n ∷ ns) behind acts h = each_destruction IsSuch so ns (Destroyed n ∷ behind) acts (so (behind ++ acts) n, h)

pub closing_makes_no_link : (c : ℕ) (acts : List LinkAct) → Each (λ before act. MakesNone act) (closing c acts) acts
closing_makes_no_link c acts = each_destruction (λ before act. MakesNone act) (λ before n. tt) (links_of c acts) [] acts tt
