-- The slots of a table, and the links that they hold.
use Rattle.std.proofs.Common.{◌≡◌, ◌≢◌, ℕ, ◌+◌, ◌≤◌, Bool, true, false, cond, List, [], ◌∷◌, ◌++◌, length, Option, Some, None, refl, sym, ap, subst, ◌∙◌, arith, inl, inr, suc, zero}
use Rattle.std.specs.Prelude.{map, filter, is_some, count_by, slice_index_or, if◌then◌else◌}
use Rattle.std.proofs.lemmas.Bool.{cases_Bool, true≢false}
use Rattle.std.proofs.lemmas.List.{append-nil, append_assoc}
use Rattle.std.proofs.lemmas.List.Sums.{sum_by-cons}
use Rattle.std.specs.Borrow.{MutBor}
use Rattle.slab.specs.Slab.{RetainsFrom}
use Rattle.sv_links.specs.declared.links.Link.{Link}
use Rattle.sv_links.specs.Table.{IsKept}
use Rattle.std.proofs.lemmas.List.Elements.{filter-append}

-- The slot, emptied if its link doesn't pass the test.
abbrev pub keep : (Link → Bool) → Option Link → Option Link
keep p None = None
keep p (Some link) = cond (p link) (Some link) None

pub kept_filter : (p : Link → Bool) (slots : List (Option Link)) (links : List Link) → IsKept slots links
    → IsKept (map (keep p) slots) (filter p links)
kept_filter p [] links e = rw e refl
kept_filter p (None ∷ slots) links h = kept_filter p slots links h
kept_filter p (Some x ∷ slots) links h =
    let rest = subst (IsKept (map (keep p) slots)) (filter-append p h.0 h.1) (kept_filter p slots (h.0 ++ h.1) h.3) in
    let whole = filter-append p h.0 (x ∷ h.1) in
    rw (h.2, whole) (elim (cases_Bool (p x)) [
      | inl e ↦ rw e (filter p h.0, filter p h.1, refl, rest)
      | inr e ↦ rw e rest
    ])

-- ---- the number of links

length_between : (xs : List Link) (x : Link) (ys : List Link) → length (xs ++ x ∷ ys) ≡ length (xs ++ ys) + 1
length_between [] x ys = omega arith
length_between (z ∷ xs) x ys = omega (arith, length_between xs x ys)

count_some : (x : Link) (slots : List (Option Link)) → count_by is_some (Some x ∷ slots) ≡ count_by is_some slots + 1
count_some x slots = omega (arith, sum_by-cons (λ (slot : Option Link). cond (is_some slot) 1 0) (Some x) slots)

pub kept_count : (slots : List (Option Link)) (links : List Link) → IsKept slots links → count_by is_some slots ≡ length links
kept_count [] links e = rw e refl
kept_count (None ∷ slots) links h = kept_count slots links h
kept_count (Some x ∷ slots) links h =
    count_some x slots ∙ ap (λ (n : ℕ). n + 1) (kept_count slots (h.0 ++ h.1) h.3) ∙ sym (length_between h.0 x h.1) ∙ ap length (sym h.2)

count_none : (slots : List (Option Link)) → count_by is_some (None ∷ slots) ≡ count_by is_some slots
count_none slots = omega (arith, sum_by-cons (λ (slot : Option Link). cond (is_some slot) 1 0) None slots)

count_keep : (p : Link → Bool) (slots : List (Option Link)) → count_by is_some (map (keep p) slots) ≤ count_by is_some slots
count_keep p [] = omega arith
count_keep p (None ∷ slots) = omega (arith, count_keep p slots, count_none slots, count_none (map (keep p) slots))
count_keep p (Some x ∷ slots) = elim (cases_Bool (p x)) [
  | inl e ↦ rw e (omega (arith, count_keep p slots, count_some x slots, count_some x (map (keep p) slots)))
  | inr e ↦ rw e (omega (arith, count_keep p slots, count_some x slots, count_none (map (keep p) slots)))
]

pub retain_adds_none : (p : Link → Bool) (old new : List (Option Link)) → new ≡ map (keep p) old
    → count_by is_some new ≤ count_by is_some old
retain_adds_none p old new e = rw e (count_keep p old)

-- ---- another link

abbrev at : List (Option Link) → ℕ → Option Link
at slots key = slice_index_or slots key None

some≢none : (x : Link) → Some x ≡ None → ⊥
some≢none x e = true≢false (ap is_some e)

-- Slots with the same contents at each key hold the same links.
same_slots_same_links : (old new : List (Option Link)) (links : List Link) → ((key : ℕ) → at new key ≡ at old key)
    → IsKept old links → IsKept new links
same_slots_same_links [] [] links same h = h
same_slots_same_links [] (None ∷ new) links same h = same_slots_same_links [] new links (λ key. same (suc key)) h
same_slots_same_links [] (Some y ∷ new) links same h = absurd (some≢none y (same 0))
same_slots_same_links (None ∷ old) [] links same h = same_slots_same_links old [] links (λ key. same (suc key)) h
same_slots_same_links (Some x ∷ old) [] links same h = absurd (some≢none x (sym (same 0)))
same_slots_same_links (None ∷ old) (None ∷ new) links same h = same_slots_same_links old new links (λ key. same (suc key)) h
same_slots_same_links (None ∷ old) (Some y ∷ new) links same h = absurd (some≢none y (same 0))
same_slots_same_links (Some x ∷ old) (None ∷ new) links same h = absurd (some≢none x (sym (same 0)))
same_slots_same_links (Some x ∷ old) (Some y ∷ new) links same h =
    subst (λ slot. IsKept (slot ∷ new) links) (sym (same 0))
    (h.0, h.1, h.2, same_slots_same_links old new (h.0 ++ h.1) (λ key. same (suc key)) h.3)

apart_suc : (m n : ℕ) → m ≢ n → suc m ≢ suc n
apart_suc m n apart e = apart (omega (arith, e))

-- A link that is put into an empty slot is added to the links.
pub kept_after_insert : (old new : List (Option Link)) (key : ℕ) (x : Link) (links : List Link) → at old key ≡ None → at new key ≡ Some x
    → ((other : ℕ) → other ≢ key → at new other ≡ at old other) → IsKept old links → IsKept new (links ++ x ∷ [])
kept_after_insert old [] key x links free put others h = absurd (some≢none x (sym put))
kept_after_insert [] (slot ∷ new) zero x links free put others h =
    subst (λ slot. IsKept (slot ∷ new) (links ++ x ∷ [])) (sym put) (
      links,
      [],
      refl,
      rw (append-nil links)
          (same_slots_same_links [] new links (λ key. others (suc key) (λ e. absurd (omega (arith, e)))) h),
    )
kept_after_insert (None ∷ old) (slot ∷ new) zero x links free put others h =
    subst (λ slot. IsKept (slot ∷ new) (links ++ x ∷ [])) (sym put) (
      links,
      [],
      refl,
      rw (append-nil links)
          (same_slots_same_links old new links (λ key. others (suc key) (λ e. absurd (omega (arith, e)))) h),
    )
kept_after_insert (Some y ∷ old) (slot ∷ new) zero x links free put others h = absurd (some≢none y free)
kept_after_insert [] (slot ∷ new) (suc key) x links free put others h =
    subst (λ slot. IsKept (slot ∷ new) (links ++ x ∷ [])) (sym (others 0 (λ e. absurd (omega (arith, e)))))
    (kept_after_insert [] new key x links refl put (λ other apart. others (suc other) (apart_suc other key apart)) h)
kept_after_insert (None ∷ old) (slot ∷ new) (suc key) x links free put others h =
    subst (λ slot. IsKept (slot ∷ new) (links ++ x ∷ [])) (sym (others 0 (λ e. absurd (omega (arith, e)))))
    (kept_after_insert old new key x links free put (λ other apart. others (suc other) (apart_suc other key apart)) h)
kept_after_insert (Some y ∷ old) (slot ∷ new) (suc key) x links free put others h =
    subst (λ slot. IsKept (slot ∷ new) (links ++ x ∷ [])) (sym (others 0 (λ e. absurd (omega (arith, e))))) (
      h.0,
      h.1 ++ x ∷ [],
      ap (λ (xs : List Link). xs ++ x ∷ []) h.2 ∙ append_assoc h.0 (y ∷ h.1) (x ∷ []),
      subst (IsKept new) (append_assoc h.0 h.1 (x ∷ []))
          (kept_after_insert old new key x (h.0 ++ h.1) free put (λ other apart. others (suc other) (apart_suc other key apart)) h.3),
    )

-- ---- the slab's retain

slot_kept : (p : Link → Bool) (b : Bool) (x y : Link) → b ≡ p x → y ≡ x → (if b then Some y else None) ≡ cond (p x) (Some x) None
slot_kept p true x y e same = rw (← e, same) refl
slot_kept p false x y e same = rw (← e) refl

module _ {F : Type 0} (step : F → ℕ → MutBor Link → Bool → MutBor Link → F → Type 0) (f : F) (p : Link → Bool)
    (told : (key : ℕ) (shown : MutBor Link) (b : Bool) (left : MutBor Link) (next : F) → step f key shown b left next
    → (next ≡ f) × (b ≡ p shown.now) × (left.now ≡ shown.now)) where
  pub retained : (key : ℕ) (old new : List (Option Link)) → RetainsFrom step f key old new → new ≡ map (keep p) old
  retained key [] new h = h
  retained key (None ∷ old) new h = h.1 ∙ ap (λ (xs : List (Option Link)). None ∷ xs) (retained (key + 1) old h.0 h.2)
  retained key (Some x ∷ old) new h =
      let call = h.3 in
      let same = told key call.shown h.0 call.left h.2 call.called in
      let slot = slot_kept p h.0 x h.1 (same.1 ∙ ap p call.shows) (sym call.leaves ∙ same.2 ∙ call.shows) in
      let rest = subst (λ (next : F). RetainsFrom step next (key + 1) old h.4) same.0 h.6 in
      h.5 ∙ ap (λ (xs : List (Option Link)). (if h.0 then Some h.1 else None) ∷ xs) (retained (key + 1) old h.4 rest)
      ∙ ap (λ (slot : Option Link). slot ∷ map (keep p) old) slot
