-- The sorted list of links with service requests enabled: inserting and removing a link.
use Rattle.std.proofs.Common.{◌≡◌, ◌≢◌, ℕ, ◌<◌, ◌≤◌, Bool, eqb, ltb, List, [], ◌∷◌, ◌++◌, length, take, drop, refl, sym, ap, ◌∙◌, arith, inl, inr, false}
use Rattle.std.specs.Prelude.{not, filter}
use Rattle.std.specs.List.{AllByRecursion, insert}
use Rattle.std.proofs.lemmas.Bool.{cases_Bool, cond_both, eqb-true, eqb-false, ltb-true, ltb-false, lt-ltb, le-ltb}
use Rattle.sv_links.specs.declared.enabled.Enabled.{Enabled}
use Rattle.sv_links.specs.ChannelRepresentation.{IsSorted}
use Rattle.sv_links.proofs.Queues.{all_filter}

-- The links with lower numbers, and those with higher ones.
abbrev pub lower_links : ℕ → List Enabled → List Enabled
lower_links lid = filter (λ other. ltb other.lid lid)

abbrev pub higher_links : ℕ → List Enabled → List Enabled
higher_links lid = filter (λ other. ltb lid other.lid)

abbrev pub other_links : ℕ → List Enabled → List Enabled
other_links lid = filter (λ other. not (eqb other.lid lid))

pub sorted_filter : (p : Enabled → Bool) (xs : List Enabled) → IsSorted xs → IsSorted (filter p xs)
sorted_filter p [] h = tt
sorted_filter p (x ∷ xs) h = cond_both (p x) (x ∷ filter p xs) (filter p xs) IsSorted
    (λ _. (all_filter (λ (y : Enabled). x.lid < y.lid) p xs h.0, sorted_filter p xs h.1)) (λ _. sorted_filter p xs h.1)

-- ---- the position of a number

pub none_below : (lid n : ℕ) (xs : List Enabled) → lid ≤ n → AllByRecursion (λ x. n < x.lid) xs → lower_links lid xs ≡ []
none_below lid n [] le h = refl
none_below lid n (x ∷ xs) le h = rw (le-ltb x.lid lid (omega (arith, h.0))) (none_below lid n xs le h.1)

pub all_above : (lid n : ℕ) (xs : List Enabled) → lid ≤ n → AllByRecursion (λ x. n < x.lid) xs → higher_links lid xs ≡ xs
all_above lid n [] le h = refl
all_above lid n (x ∷ xs) le h =
    rw (lt-ltb lid x.lid (omega (arith, h.0))) (ap (λ (ys : List Enabled). x ∷ ys) (all_above lid n xs le h.1))

-- In a sorted list, the links with lower numbers come first, and then those with higher ones.
abbrev Parts : ℕ → List Enabled → Type 0
Parts lid xs = (take (length (lower_links lid xs)) xs ≡ lower_links lid xs) × (drop (length (lower_links lid xs)) xs ≡ higher_links lid xs)

parts : (lid : ℕ) (xs : List Enabled) → IsSorted xs → AllByRecursion (λ x. x.lid ≢ lid) xs → Parts lid xs
parts lid [] h free = (refl, refl)
parts lid (x ∷ xs) h free = elim (cases_Bool (ltb x.lid lid)) [
  | inl e ↦
      let lt = ltb-true x.lid lid e in
      let rest = parts lid xs h.1 free.1 in
      rw (e, le-ltb lid x.lid (omega arith)) (ap (λ (ys : List Enabled). x ∷ ys) rest.0, rest.1)
  | inr e ↦
      let le : lid ≤ x.lid = ltb-false x.lid lid e in
      let apart = free.0 in
      rw (e, none_below lid x.lid xs le h.0, lt-ltb lid x.lid (omega arith))
      (refl, ap (λ (ys : List Enabled). x ∷ ys) (sym (all_above lid x.lid xs le h.0)))
]

pub free_other : (lid : ℕ) (xs : List Enabled) → AllByRecursion (λ x. x.lid ≢ lid) (other_links lid xs)
free_other lid [] = tt
free_other lid (x ∷ xs) = elim (cases_Bool (eqb x.lid lid)) [
  | inl e ↦ rw e (free_other lid xs)
  | inr e ↦ rw e (eqb-false x.lid lid e, free_other lid xs)
]

-- Removing the links with this number changes no list of links that doesn't have them.
kept_by_other : (test : Enabled → Bool) (lid : ℕ) (xs : List Enabled) → ((x : Enabled) → x.lid ≡ lid → test x ≡ false)
    → filter test (other_links lid xs) ≡ filter test xs
kept_by_other test lid [] fails = refl
kept_by_other test lid (x ∷ xs) fails = elim (cases_Bool (eqb x.lid lid)) [
  | inl e ↦ rw (e, fails x (eqb-true x.lid lid e)) (kept_by_other test lid xs fails)
  | inr e ↦ elim (cases_Bool (test x)) [
    | inl k ↦ rw (e, k) (ap (λ (ys : List Enabled). x ∷ ys) (kept_by_other test lid xs fails))
    | inr k ↦ rw (e, k) (kept_by_other test lid xs fails)
  ]
]

pub below_other : (lid : ℕ) (xs : List Enabled) → lower_links lid (other_links lid xs) ≡ lower_links lid xs
below_other lid xs = kept_by_other (λ other. ltb other.lid lid) lid xs (λ x same. le-ltb x.lid lid (omega arith))

pub above_other : (lid : ℕ) (xs : List Enabled) → higher_links lid (other_links lid xs) ≡ higher_links lid xs
above_other lid xs = kept_by_other (λ other. ltb lid other.lid) lid xs (λ x same. le-ltb lid x.lid (omega arith))

-- A link that is inserted at its position stands between the lower and the higher ones.
pub insert_between : (lid : ℕ) (xs : List Enabled) (link : Enabled) → IsSorted (other_links lid xs)
    → insert (other_links lid xs) (length (lower_links lid (other_links lid xs))) link ≡ lower_links lid xs ++ link ∷ higher_links lid xs
insert_between lid xs link h =
    let others = other_links lid xs in
    let both = parts lid others h (free_other lid xs) in
    ap (λ (ys : List Enabled). ys ++ link ∷ drop (length (lower_links lid others)) others) (both.0 ∙ below_other lid xs)
    ∙ ap (λ (ys : List Enabled). lower_links lid xs ++ link ∷ ys) (both.1 ∙ above_other lid xs)

-- ---- the list stays sorted

above_all : (lid : ℕ) (xs : List Enabled) → AllByRecursion (λ x. lid < x.lid) (higher_links lid xs)
above_all lid [] = tt
above_all lid (x ∷ xs) = elim (cases_Bool (ltb lid x.lid)) [
  | inl e ↦ rw e (ltb-true lid x.lid e, above_all lid xs)
  | inr e ↦ rw e (above_all lid xs)
]

all_joined : (P : Enabled → Type 0) (xs ys : List Enabled) (y : Enabled) → AllByRecursion P xs → P y → AllByRecursion P ys
    → AllByRecursion P (xs ++ y ∷ ys)
all_joined P [] ys y h here k = (here, k)
all_joined P (x ∷ xs) ys y h here k = (h.0, all_joined P xs ys y h.1 here k)

pub sorted_between : (link : Enabled) (xs : List Enabled) → IsSorted xs
    → IsSorted (lower_links link.lid xs ++ link ∷ higher_links link.lid xs)
sorted_between link [] h = (tt, tt)
sorted_between link (x ∷ xs) h = elim (cases_Bool (ltb x.lid link.lid)) [
  | inl e ↦
      let lt = ltb-true x.lid link.lid e in
      rw (e, le-ltb link.lid x.lid (omega arith)) (
        all_joined (λ y. x.lid < y.lid) (lower_links link.lid xs) (higher_links link.lid xs) link
            (all_filter (λ (y : Enabled). x.lid < y.lid) (λ y. ltb y.lid link.lid) xs h.0) lt
            (all_filter (λ (y : Enabled). x.lid < y.lid) (λ y. ltb link.lid y.lid) xs h.0),
        sorted_between link xs h.1,
      )
  | inr e ↦
      let le : link.lid ≤ x.lid = ltb-false x.lid link.lid e in
      rw (e, none_below link.lid x.lid xs le h.0)
      (above_all link.lid (x ∷ xs), sorted_filter (λ y. ltb link.lid y.lid) (x ∷ xs) h)
]

-- Inserting a link at its position keeps the list sorted.
pub sorted_inserted : (lid : ℕ) (xs : List Enabled) (link : Enabled) → link.lid ≡ lid → IsSorted (other_links lid xs)
    → IsSorted (insert (other_links lid xs) (length (lower_links lid (other_links lid xs))) link)
sorted_inserted lid xs link same h = rw (insert_between lid xs link h, ← below_other lid xs, ← above_other lid xs, ← same)
    (sorted_between link (other_links link.lid xs) (rw (← same) at h))
