-- Two logs agree on all that determines the calls on the interrupt channel of a connection. They
-- still do after the same act in both, and after an act of another connection in one.
use Rattle.std.proofs.Common.{◌≡◌, ◌≢◌, ℕ, ◌+◌, ◌<◌, ◌≤◌, suc, zero, Bool, eqb, ltb, List, [], ◌∷◌, ◌++◌, Option, Some, None, refl, sym, ap, ◌∙◌, inl, inr, arith}
use Rattle.std.specs.Prelude.{filter, not}
use Rattle.std.specs.List.{AllByRecursion, cons_option}
use Rattle.std.proofs.lemmas.Bool.{cases_Bool, eqb-true, ne_eqb, lt-ltb, le-ltb, ltb-false, ltb-true}
use Rattle.std.proofs.lemmas.List.Elements.{filter-append}
use Rattle.sv_links.specs.declared.enabled.Enabled.{Enabled}
use Rattle.sv_links.specs.Channels.{ChannelAct, SrqEnabled, SrqDisabled, ChannelOpened, ChannelClosed, Requested, ChannelTaken, srq_enabled, past, enabled_links, peer, bytes_taken, calls, all_calls}
use Rattle.sv_links.specs.ChannelRepresentation.{IsSorted}
use Rattle.sv_links.proofs.Asking.{lower_links, higher_links, other_links, none_below, sorted_filter}
use Rattle.sv_links.proofs.Rising.{enabled_among, enabled_has_number, with_link, links_after_enable, links_after_disable, enabled_sorted}

-- Of the links that have service requests enabled, those of connection `c`.
abbrev pub own_links : ℕ → List Enabled → List Enabled
own_links c links = filter (λ link. eqb link.conn c) links

pub record SameChannel (c : ℕ) (acts other : List ChannelAct) : Type 0 where
  pub opened : peer c acts ≡ peer c other
  pub took : bytes_taken c acts ≡ bytes_taken c other
  pub links : own_links c (enabled_links acts) ≡ own_links c (enabled_links other)
  pub sent : calls c acts ≡ calls c other
  pub all : all_calls c acts ≡ all_calls c other

-- If link `lid` has service requests enabled, it is a link of another connection than `c`.
abbrev pub EnabledElsewhere : ℕ → ℕ → List ChannelAct → Type 0
EnabledElsewhere c lid acts = (link : Enabled) → srq_enabled lid acts ≡ Some link → link.conn ≢ c

-- The act is of another connection, and concerns no link of connection `c` that has service
-- requests enabled. A service request, which concerns all channels, isn't such an act.
abbrev pub IsForeignChannel : ℕ → ChannelAct → List ChannelAct → Type 0
IsForeignChannel c (SrqEnabled lid conn handle) acts = (conn ≢ c) × EnabledElsewhere c lid acts
IsForeignChannel c (SrqDisabled lid) acts = EnabledElsewhere c lid acts
IsForeignChannel c (ChannelOpened conn what) acts = conn ≢ c
IsForeignChannel c (ChannelClosed conn) acts = conn ≢ c
IsForeignChannel c Requested acts = ⊥
IsForeignChannel c (ChannelTaken conn count) acts = conn ≢ c

-- ---- links that have service requests enabled

filters_commute : (p q : Enabled → Bool) (xs : List Enabled) → filter p (filter q xs) ≡ filter q (filter p xs)
filters_commute p q [] = refl
filters_commute p q (x ∷ xs) = elim (cases_Bool (p x)) [
  | inl e ↦ elim (cases_Bool (q x)) [
    | inl k ↦ rw (e, k, e) (ap (λ (l : List Enabled). x ∷ l) (filters_commute p q xs))
    | inr k ↦ rw (e, k) (filters_commute p q xs)
  ]
  | inr e ↦ elim (cases_Bool (q x)) [
    | inl k ↦ rw (e, k, e) (filters_commute p q xs)
    | inr k ↦ rw (e, k) (filters_commute p q xs)
  ]
]

-- Each link in the list is the one that `srq_enabled` gives for its number.

with_asked : (acts : List ChannelAct) (n : ℕ) (first : Option Enabled) (xs : List Enabled) → srq_enabled n acts ≡ first
    → ((x : Enabled) → first ≡ Some x → x.lid ≡ n) → AllByRecursion (λ link. srq_enabled link.lid acts ≡ Some link) xs
    → AllByRecursion (λ link. srq_enabled link.lid acts ≡ Some link) (cons_option first xs)
with_asked acts n None xs is at all = all
with_asked acts n (Some x) xs is at all = (ap (λ (m : ℕ). srq_enabled m acts) (at x refl) ∙ is, all)

among_are_enabled : (a n : ℕ) (acts : List ChannelAct) → AllByRecursion (λ link. srq_enabled link.lid acts ≡ Some link)
    (enabled_among a n acts)
among_are_enabled a zero acts = tt
among_are_enabled a (suc n) acts =
    with_asked acts a (srq_enabled a acts) (enabled_among (a + 1) n acts) refl (enabled_has_number a acts)
    (among_are_enabled (a + 1) n acts)

-- None of these links has the number `lid`.
abbrev NoneHasNumber : ℕ → List Enabled → Type 0
NoneHasNumber lid links = AllByRecursion (λ link. link.lid ≢ lid) links

no_own_link_has_number : (c lid : ℕ) (acts : List ChannelAct) (xs : List Enabled) → EnabledElsewhere c lid acts
    → AllByRecursion (λ link. srq_enabled link.lid acts ≡ Some link) xs → NoneHasNumber lid (own_links c xs)
no_own_link_has_number c lid acts [] none all = tt
no_own_link_has_number c lid acts (x ∷ xs) none all = elim (cases_Bool (eqb x.conn c)) [
  | inl e ↦ rw e (
    (λ (same : x.lid ≡ lid). none x (ap (λ (m : ℕ). srq_enabled m acts) (sym same) ∙ all.0) (eqb-true x.conn c e)),
    no_own_link_has_number c lid acts xs none all.1,
  )
  | inr e ↦ rw e (no_own_link_has_number c lid acts xs none all.1)
]

no_enabled_link_has_number : (c lid : ℕ) (acts : List ChannelAct) → EnabledElsewhere c lid acts
    → NoneHasNumber lid (own_links c (enabled_links acts))
no_enabled_link_has_number c lid acts none = no_own_link_has_number c lid acts (enabled_links acts) none
    (among_are_enabled 0 (past acts) acts)

all_weak : (lid low : ℕ) (xs : List Enabled) → lid < low → AllByRecursion (λ other. low < other.lid) xs
    → AllByRecursion (λ other. lid < other.lid) xs
all_weak lid low [] lt h = tt
all_weak lid low (x ∷ xs) lt h = (omega (arith, lt, h.0), all_weak lid low xs lt h.1)

lt_of : (a b : ℕ) → b ≢ a → a ≤ b → a < b
lt_of a b ne le = omega (arith, ne, le)

-- If no link has the number `lid`, the links below it and those above it are all links.
below_and_above_are_all : (lid : ℕ) (xs : List Enabled) → IsSorted xs → NoneHasNumber lid xs
    → lower_links lid xs ++ higher_links lid xs ≡ xs
below_and_above_are_all lid [] sorted no_own_link_has_number = refl
below_and_above_are_all lid (x ∷ xs) sorted no_own_link_has_number =
    let behind = below_and_above_are_all lid xs sorted.1 no_own_link_has_number.1 in
    elim (cases_Bool (ltb x.lid lid)) [
      | inl e ↦ rw (e, le-ltb lid x.lid (omega (arith, ltb-true x.lid lid e))) (ap (λ (l : List Enabled). x ∷ l) behind)
      | inr e ↦
          let lt : lid < x.lid = lt_of lid x.lid no_own_link_has_number.0 (ltb-false x.lid lid e) in
          let none = none_below lid lid xs (omega arith) (all_weak lid x.lid xs lt sorted.0) in
          rw (e, none, lt-ltb lid x.lid lt) (ap (λ (l : List Enabled). x ∷ l) (rw none at behind))
    ]

removing_absent_keeps_all : (lid : ℕ) (xs : List Enabled) → NoneHasNumber lid xs → other_links lid xs ≡ xs
removing_absent_keeps_all lid [] h = refl
removing_absent_keeps_all lid (x ∷ xs) h =
    rw (ne_eqb x.lid lid h.0) (ap (λ (l : List Enabled). x ∷ l) (removing_absent_keeps_all lid xs h.1))

own_with : (c : ℕ) (link : Enabled) (links : List Enabled) → own_links c (with_link link links)
    ≡ lower_links link.lid (own_links c links) ++ (own_links c (link ∷ []) ++ higher_links link.lid (own_links c links))
own_with c link links =
    filter-append (λ link. eqb link.conn c) (lower_links link.lid links) (link ∷ higher_links link.lid links)
    ∙ rw (
      filter-append (λ link. eqb link.conn c) (link ∷ []) (higher_links link.lid links),
      filters_commute (λ link. eqb link.conn c) (λ other. ltb other.lid link.lid) links,
      filters_commute (λ link. eqb link.conn c) (λ other. ltb link.lid other.lid) links,
    ) refl

own_enabled : (c : ℕ) (link : Enabled) (acts : List ChannelAct)
    → own_links c (enabled_links (SrqEnabled link.lid link.conn link.handle ∷ acts))
    ≡ lower_links link.lid (own_links c (enabled_links acts)) ++
    (own_links c (link ∷ []) ++ higher_links link.lid (own_links c (enabled_links acts)))
own_enabled c link acts = ap (own_links c) (links_after_enable link acts) ∙ own_with c link (enabled_links acts)

own_disabled : (c lid : ℕ) (acts : List ChannelAct)
    → own_links c (enabled_links (SrqDisabled lid ∷ acts)) ≡ other_links lid (own_links c (enabled_links acts))
own_disabled c lid acts = ap (own_links c) (links_after_disable lid acts)
    ∙ filters_commute (λ link. eqb link.conn c) (λ other. not (eqb other.lid lid)) (enabled_links acts)

-- ---- an act of another connection

pub foreign_act_keeps_channel : (c : ℕ) (act : ChannelAct) (acts other : List ChannelAct) → IsForeignChannel c act acts
    → SameChannel c acts other → SameChannel c (act ∷ acts) other
foreign_act_keeps_channel c (SrqEnabled lid conn handle) acts other h same =
    let one : Enabled = record { lid = lid; conn = conn; handle = handle } in
    assumption (own_enabled c one acts ∙ rw (ne_eqb conn c h.0) (below_and_above_are_all lid (own_links c (enabled_links acts))
    (sorted_filter (λ link. eqb link.conn c) (enabled_links acts) (enabled_sorted acts)) (no_enabled_link_has_number c lid acts h.1))
    ∙ same.links)
foreign_act_keeps_channel c (SrqDisabled lid) acts other h same = assumption (own_disabled c lid acts
    ∙ removing_absent_keeps_all lid (own_links c (enabled_links acts)) (no_enabled_link_has_number c lid acts h) ∙ same.links)
foreign_act_keeps_channel c (ChannelOpened conn what) acts other h same = search (ne_eqb conn c h)
foreign_act_keeps_channel c (ChannelClosed conn) acts other h same = search (ne_eqb conn c h)
foreign_act_keeps_channel c Requested acts other h same = absurd h
foreign_act_keeps_channel c (ChannelTaken conn count) acts other h same = search (ne_eqb conn c h)

pub channel_sym : (c : ℕ) (acts other : List ChannelAct) → SameChannel c acts other → SameChannel c other acts
channel_sym c acts other same = search sym

-- ---- the same act in both logs

pub same_act_keeps_channel : (c : ℕ) (act : ChannelAct) (acts other : List ChannelAct) → SameChannel c acts other
    → SameChannel c (act ∷ acts) (act ∷ other)
same_act_keeps_channel c (SrqEnabled lid conn handle) acts other same =
    let one : Enabled = record { lid = lid; conn = conn; handle = handle } in
    assumption (own_enabled c one acts
    ∙ ap (λ (l : List Enabled). lower_links lid l ++ (own_links c (one ∷ []) ++ higher_links lid l)) same.links
    ∙ sym (own_enabled c one other))
same_act_keeps_channel c (SrqDisabled lid) acts other same =
    assumption (own_disabled c lid acts ∙ ap (other_links lid) same.links ∙ sym (own_disabled c lid other))
same_act_keeps_channel c _ acts other same = search (same.opened, same.took, same.links, same.sent, same.all)
