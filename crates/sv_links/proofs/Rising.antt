-- The list of links with service requests enabled, after each act; it stays sorted.
use Rattle.std.proofs.Common.{◌≡◌, ◌≢◌, ℕ, zero, suc, ◌+◌, ◌<◌, ◌≤◌, eqb, List, [], ◌∷◌, ◌++◌, Option, Some, None, refl, sym, ap, subst, ◌∙◌, eq-eqb, arith, inl, inr}
use Rattle.std.specs.Prelude.{max}
use Rattle.std.specs.List.{AllByRecursion, filter_map, range_with_len, cons_option}
use Rattle.std.proofs.lemmas.Bool.{cases_Bool, cases_eq, cond_both, ne_eqb, lt-ltb, le-ltb}
use Rattle.sv_links.specs.declared.enabled.Enabled.{Enabled}
use Rattle.sv_links.specs.Channels.{ChannelAct, SrqEnabled, SrqDisabled, srq_enabled, past, enabled_links}
use Rattle.sv_links.specs.ChannelRepresentation.{IsSorted}
use Rattle.sv_links.proofs.Asking.{lower_links, higher_links, other_links, none_below, all_above}
use Rattle.std.proofs.lemmas.Option.{same_Some}

-- The links with service requests enabled whose numbers are among the `n` from `a` on.
abbrev pub enabled_among : ℕ → ℕ → List ChannelAct → List Enabled
enabled_among a n acts = filter_map (λ lid. srq_enabled lid acts) (range_with_len a n)

-- ---- one number

-- A link, if there is one, has this number.
abbrev IsAt : ℕ → Option Enabled → Type 0
IsAt a link = (x : Enabled) → link ≡ Some x → x.lid ≡ a

pub enabled_has_number : (lid : ℕ) (acts : List ChannelAct) → IsAt lid (srq_enabled lid acts)
enabled_has_number lid [] x h = absurd cc
enabled_has_number lid (SrqEnabled other conn handle ∷ acts) x h = elim (cases_Bool (eqb other lid)) [
  | inl e ↦
      let one : Enabled = record { lid = lid; conn = conn; handle = handle } in
      ap (λ (link : Enabled). link.lid) (sym (same_Some one x (rw e at h)))
  | inr e ↦ enabled_has_number lid acts x (rw e at h)
]
enabled_has_number lid (SrqDisabled other ∷ acts) x h = elim (cases_Bool (eqb other lid)) [
  | inl e ↦ absurd (let none : None ≡ Some x = rw e at h in cc)
  | inr e ↦ enabled_has_number lid acts x (rw e at h)
]
enabled_has_number lid (_ ∷ acts) x h = enabled_has_number lid acts x h

-- No link has a number above those that ever enabled service requests.
none_enabled_past : (lid : ℕ) (acts : List ChannelAct) → past acts ≤ lid → srq_enabled lid acts ≡ None
none_enabled_past lid [] h = refl
none_enabled_past lid (SrqEnabled other conn handle ∷ acts) h =
    rw (ne_eqb other lid (λ e. absurd (omega (arith, e, h)))) (none_enabled_past lid acts (omega (arith, h)))
none_enabled_past lid (SrqDisabled other ∷ acts) h = cond_both (eqb other lid) None (srq_enabled lid acts) (λ link. link ≡ None)
    (λ _. refl) (λ _. none_enabled_past lid acts h)
none_enabled_past lid (_ ∷ acts) h = none_enabled_past lid acts h

-- ---- the numbers rise

all_behind : (k a : ℕ) (first : Option Enabled) (xs : List Enabled) → IsAt a first → k < a → AllByRecursion (λ x. k < x.lid) xs
    → AllByRecursion (λ x. k < x.lid) (cons_option first xs)
all_behind k a None xs is lt h = h
all_behind k a (Some x) xs is lt h = (rw (is x refl) lt, h)

behind : (k a n : ℕ) (acts : List ChannelAct) → k < a → AllByRecursion (λ x. k < x.lid) (enabled_among a n acts)
behind k a zero acts lt = tt
behind k a (suc n) acts lt =
    all_behind k a (srq_enabled a acts) (enabled_among (a + 1) n acts) (enabled_has_number a acts) lt
    (behind k (a + 1) n acts (omega (arith, lt)))

sorted_with : (a : ℕ) (first : Option Enabled) (xs : List Enabled) → IsAt a first → AllByRecursion (λ x. a < x.lid) xs → IsSorted xs
    → IsSorted (cons_option first xs)
sorted_with a None xs is h sorted = sorted
sorted_with a (Some x) xs is h sorted = (rw (is x refl) h, sorted)

sorted : (a n : ℕ) (acts : List ChannelAct) → IsSorted (enabled_among a n acts)
sorted a zero acts = tt
sorted a (suc n) acts =
    sorted_with a (srq_enabled a acts) (enabled_among (a + 1) n acts) (enabled_has_number a acts) (behind a (a + 1) n acts (omega arith))
    (sorted (a
    + 1) n acts)

pub enabled_sorted : (acts : List ChannelAct) → IsSorted (enabled_links acts)
enabled_sorted acts = sorted 0 (past acts) acts

-- ---- a link disables service requests

without_it : (lid a : ℕ) (first : Option Enabled) (xs : List Enabled) → IsAt a first → lid ≡ a
    → other_links lid xs ≡ other_links lid (cons_option first xs)
without_it lid a None xs is e = refl
without_it lid a (Some x) xs is e = rw (eq-eqb x.lid lid (is x refl ∙ sym e)) refl

with_other : (lid a : ℕ) (first : Option Enabled) (xs : List Enabled) → IsAt a first → lid ≢ a
    → cons_option first (other_links lid xs) ≡ other_links lid (cons_option first xs)
with_other lid a None xs is apart = refl
with_other lid a (Some x) xs is apart = rw (ne_eqb x.lid lid (λ e. apart (sym e ∙ is x refl))) refl

among_after_disable : (lid a n : ℕ) (acts : List ChannelAct) → enabled_among a n (SrqDisabled lid ∷ acts) ≡ other_links lid
    (enabled_among a n acts)
among_after_disable lid a zero acts = refl
among_after_disable lid a (suc n) acts =
    let rest = enabled_among (a + 1) n acts in
    elim (cases_eq lid a) [
      | inl e ↦ rw (eq-eqb lid a e) (among_after_disable lid (a + 1) n acts
          ∙ without_it lid a (srq_enabled a acts) rest (enabled_has_number a acts) e)
      | inr e ↦
          rw (ne_eqb lid a e) (ap (cons_option (srq_enabled a acts)) (among_after_disable lid (a + 1) n acts)
          ∙ with_other lid a (srq_enabled a acts) rest (enabled_has_number a acts) e)
    ]

pub links_after_disable : (lid : ℕ) (acts : List ChannelAct) → enabled_links (SrqDisabled lid ∷ acts) ≡ other_links lid (enabled_links acts)
links_after_disable lid acts = among_after_disable lid 0 (past acts) acts

-- ---- a link enables service requests

-- The links, with this one at its position.
abbrev pub with_link : Enabled → List Enabled → List Enabled
with_link link xs = lower_links link.lid xs ++ link ∷ higher_links link.lid xs

in_front : (link : Enabled) (first : Option Enabled) (xs : List Enabled) → IsAt link.lid first
    → AllByRecursion (λ x. link.lid < x.lid) xs → link ∷ xs ≡ with_link link (cons_option first xs)
in_front link None xs is h =
    rw (none_below link.lid link.lid xs (omega arith) h, all_above link.lid link.lid xs (omega arith) h) refl
in_front link (Some x) xs is h =
    let same = is x refl in
    rw (
      le-ltb x.lid link.lid (omega (arith, same)),
      le-ltb link.lid x.lid (omega (arith, same)),
      none_below link.lid link.lid xs (omega arith) h,
      all_above link.lid link.lid xs (omega arith) h,
    ) refl

further : (link : Enabled) (a : ℕ) (first : Option Enabled) (xs : List Enabled) → IsAt a first → a < link.lid
    → cons_option first (with_link link xs) ≡ with_link link (cons_option first xs)
further link a None xs is lt = refl
further link a (Some x) xs is lt =
    let same = is x refl in
    rw (lt-ltb x.lid link.lid (omega (arith, same, lt)), le-ltb link.lid x.lid (omega (arith, same, lt))) refl

-- Links with higher numbers are unchanged.
same : (link : Enabled) (a n : ℕ) (acts : List ChannelAct) → link.lid < a
    → enabled_among a n (SrqEnabled link.lid link.conn link.handle ∷ acts) ≡ enabled_among a n acts
same link a zero acts lt = refl
same link a (suc n) acts lt =
    rw (ne_eqb link.lid a (λ e. absurd (omega (arith, e, lt))))
    (ap (cons_option (srq_enabled a acts)) (same link (a + 1) n acts (omega (arith, lt))))

more : (link : Enabled) (a n : ℕ) (acts : List ChannelAct) → a ≤ link.lid → link.lid < a + n
    → enabled_among a n (SrqEnabled link.lid link.conn link.handle ∷ acts) ≡ with_link link (enabled_among a n acts)
more link a zero acts le lt = absurd (omega (arith, le, lt))
more link a (suc n) acts le lt = elim (cases_eq link.lid a) [
  | inl e ↦ subst (λ a. enabled_among a (suc n) (SrqEnabled link.lid link.conn link.handle ∷ acts) ≡ with_link link
      (enabled_among a (suc n) acts)) e
      (rw (eq-eqb link.lid link.lid refl) (ap (λ (xs : List Enabled). link ∷ xs) (same link (link.lid + 1) n acts (omega arith))
      ∙ in_front link (srq_enabled link.lid acts) (enabled_among (link.lid + 1) n acts) (enabled_has_number link.lid acts)
      (behind link.lid (link.lid + 1) n acts (omega arith))))
  | inr e ↦ rw (ne_eqb link.lid a e) (ap (cons_option (srq_enabled a acts))
      (more link (a + 1) n acts (omega (arith, e, le)) (omega (arith, lt)))
      ∙ further link a (srq_enabled a acts) (enabled_among (a + 1) n acts) (enabled_has_number a acts) (omega (arith, e, le)))
]

-- Searching more numbers finds no further link.
longer : (a n m : ℕ) (acts : List ChannelAct) → past acts ≤ a + n → n ≤ m → enabled_among a n acts ≡ enabled_among a m acts
longer a zero zero acts all le = refl
longer a zero (suc m) acts all le =
    rw (none_enabled_past a acts (omega (arith, all))) (longer (a + 1) zero m acts (omega (arith, all)) (omega arith))
longer a (suc n) zero acts all le = absurd (omega (arith, le))
longer a (suc n) (suc m) acts all le =
    ap (cons_option (srq_enabled a acts)) (longer (a + 1) n m acts (omega (arith, all)) (omega (arith, le)))

pub links_after_enable : (link : Enabled) (acts : List ChannelAct)
    → enabled_links (SrqEnabled link.lid link.conn link.handle ∷ acts) ≡ with_link link (enabled_links acts)
links_after_enable link acts =
    let n = max (link.lid + 1) (past acts) in
    more link 0 n acts (omega arith) (omega arith)
    ∙ ap (with_link link) (sym (longer 0 (past acts) n acts (omega arith) (omega arith)))
