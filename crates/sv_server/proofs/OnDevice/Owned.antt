-- After every act of links, each link with service requests enabled is live, and its owner is the
-- connection that is stored for it.
use Rattle.std.proofs.Common.{◌≡◌, ◌≢◌, ℕ, ◌<◌, ◌≤◌, Bool, true, false, eqb, List, [], ◌∷◌, ◌++◌, length, Option, Some, refl, sym, ap, ◌∙◌, arith, inl, inr, eq-eqb}
use Rattle.std.specs.Prelude.{◌==◌, not, map, filter, find, option_map, reverse, nat_lt}
use Rattle.std.specs.List.{AllByRecursion, list_any}
use Rattle.std.proofs.lemmas.Bool.{ne_eqb, cases_Bool, cases_eq, eqb-true, eqb-false, not-true}
use mathlib.Core.List.{reverse_aux}
use Rattle.sv_links.specs.declared.links.Link.{Link}
use Rattle.sv_links.specs.declared.enabled.Enabled.{Enabled}
use Rattle.sv_links.specs.Links.{LinkAct, Made, Destroyed, live, owner, is_of, links_of, closing}
use Rattle.sv_links.specs.Table.{IsRising}
use Rattle.sv_links.specs.Channels.{ChannelAct, SrqDisabled}
use Rattle.sv_links.specs.ChannelRepresentation.{IsSorted, without_links, of_others}
use Rattle.sv_links.proofs.Asking.{lower_links, higher_links, sorted_filter}
use Rattle.sv_links.proofs.Tables.{IsOlder, above_filter, other_than}
use Rattle.sv_links.specs.Limits.{max_links}
use Rattle.sv_history.specs.Act.{DeviceAct, Linked, link_acts}
use Rattle.sv_server.specs.Device.Representation.{AreOwned}
use Rattle.sv_history.specs.Requests.{HearsOf}
use Rattle.sv_links.proofs.Counted.{length_filter_le}

all_passing : (P Q : Enabled → Type 0) (test : Enabled → Bool) (links : List Enabled)
    → ((link : Enabled) → test link ≡ true → P link → Q link) → AllByRecursion P links → AllByRecursion Q (filter test links)
all_passing P Q test [] so h = tt
all_passing P Q test (link ∷ links) so h = elim (cases_Bool (test link)) [
  | inl e ↦ rw e (so link e h.0, all_passing P Q test links so h.1)
  | inr e ↦ rw e (all_passing P Q test links so h.1)
]

all_join : (P : Enabled → Type 0) (links more : List Enabled) → AllByRecursion P links → AllByRecursion P more
    → AllByRecursion P (links ++ more)
all_join P [] more h k = k
all_join P (link ∷ links) more h k = (h.0, all_join P links more h.1 k)

all_implied : (P Q : Enabled → Type 0) (links : List Enabled) → ((link : Enabled) → P link → Q link) → AllByRecursion P links
    → AllByRecursion Q links
all_implied P Q [] so h = tt
all_implied P Q (link ∷ links) so h = (so link h.0, all_implied P Q links so h.1)

-- ---- the owner of a link number

abbrev owner_in : ℕ → List Link → Option ℕ
owner_in lid xs = option_map (λ link. link.conn) (find (λ link. eqb link.lid lid) xs)

-- Appending links keeps the owner of a number.
owner_kept_by_append : (lid conn : ℕ) (xs ys : List Link) → owner_in lid xs ≡ Some conn → owner_in lid (xs ++ ys) ≡ Some conn
owner_kept_by_append lid conn [] ys h = absurd cc
owner_kept_by_append lid conn (x ∷ xs) ys h = elim (cases_Bool (eqb x.lid lid)) [
  | inl e ↦ rw e (rw e at h)
  | inr e ↦ rw e (owner_kept_by_append lid conn xs ys (rw e at h))
]

-- A filter that each link with this number passes keeps the owner.
owner_filter : (test : Link → Bool) (lid conn : ℕ) (xs : List Link) → ((x : Link) → x.lid ≡ lid → test x ≡ true)
    → owner_in lid xs ≡ Some conn → owner_in lid (filter test xs) ≡ Some conn
owner_filter test lid conn [] so h = absurd cc
owner_filter test lid conn (x ∷ xs) so h = elim (cases_Bool (eqb x.lid lid)) [
  | inl e ↦ rw (so x (eqb-true x.lid lid e), e) (rw e at h)
  | inr e ↦ elim (cases_Bool (test x)) [
    | inl k ↦ rw (k, e) (owner_filter test lid conn xs so (rw e at h))
    | inr k ↦ rw k (owner_filter test lid conn xs so (rw e at h))
  ]
]

owner_other : (gone lid conn : ℕ) (xs : List Link) → lid ≢ gone → owner_in lid xs ≡ Some conn
    → owner_in lid (filter (other_than gone) xs) ≡ Some conn
owner_other gone lid conn xs ne h =
    owner_filter (other_than gone) lid conn xs (λ x e. rw (ne_eqb x.lid gone (λ k. ne (sym e ∙ k))) refl) h

-- ---- the links with service requests enabled, after an act

-- Creating a link keeps the owners of the other links.
pub owned_made : (links : List Enabled) (acts : List LinkAct) (lid conn : ℕ) → AreOwned links acts → AreOwned links (Made lid conn ∷ acts)
owned_made links acts lid conn owned = all_implied (λ link. owner link.lid acts ≡ Some link.conn)
    (λ link. owner link.lid (Made lid conn ∷ acts) ≡ Some link.conn) links
    (λ link h. owner_kept_by_append link.lid link.conn (live acts) (record { lid = lid; conn = conn } ∷ []) h) owned

-- Destroying a link keeps the owners of the other links.
pub owned_destroyed : (links : List Enabled) (acts : List LinkAct) (lid : ℕ) → AreOwned links acts
    → AreOwned (filter (λ other. not (other.lid == lid)) links) (Destroyed lid ∷ acts)
owned_destroyed links acts lid owned = all_passing (λ link. owner link.lid acts ≡ Some link.conn)
    (λ link. owner link.lid (Destroyed lid ∷ acts) ≡ Some link.conn) (λ other. not (eqb other.lid lid)) links
    (λ link e h. owner_other lid link.lid link.conn (live acts) (eqb-false link.lid lid (not-true (eqb link.lid lid) e)) h) owned

-- A link enables service requests, for the connection that owns it.
pub owned_enabled : (links : List Enabled) (acts : List LinkAct) (lid conn : ℕ) (handle : List ℕ) → AreOwned links acts
    → owner lid acts ≡ Some conn
    → AreOwned (lower_links lid links ++ record { lid = lid; conn = conn; handle = handle } ∷ higher_links lid links) acts
owned_enabled links acts lid conn handle owned own =
    let P : Enabled → Type 0 = λ link. owner link.lid acts ≡ Some link.conn in
    all_join P (lower_links lid links) (record { lid = lid; conn = conn; handle = handle } ∷ higher_links lid links)
    (all_passing P P (λ other. nat_lt other.lid lid) links (λ link e h. h) owned)
    (own, all_passing P P (λ other. nat_lt lid other.lid) links (λ link e h. h) owned)

-- ---- a connection that is closed

-- Whether the number is in the list.
abbrev is_among : ℕ → List ℕ → Bool
is_among lid numbers = list_any (λ number. eqb number lid) numbers

none_named : (x : Link) (xs : List Link) → AllByRecursion (IsOlder x) xs → is_among x.lid (map (λ link. link.lid) xs) ≡ false
none_named x [] h = refl
none_named x (y ∷ xs) h = rw (ne_eqb y.lid x.lid (λ e. absurd (omega (arith, h.0, e)))) (none_named x xs h.1)

-- A number is among those of the connection's links exactly if the connection owns it.
named_owner : (c lid : ℕ) (xs : List Link) (last : ℕ) → IsRising xs last
    → is_among lid (map (λ link. link.lid) (filter (λ link. eqb link.conn c) xs)) ≡ is_of c (owner_in lid xs)
named_owner c lid [] last r = refl
named_owner c lid (x ∷ xs) last r = elim (cases_Bool (eqb x.lid lid)) [
  | inl e ↦ elim (cases_Bool (eqb x.conn c)) [
    | inl k ↦ rw (e, k, e) refl
    | inr k ↦ rw (e, k) (rw (← eqb-true x.lid lid e)
        (none_named x (filter (λ link. eqb link.conn c) xs) (above_filter (λ link. eqb link.conn c) x xs r.1)))
  ]
  | inr e ↦ elim (cases_Bool (eqb x.conn c)) [
    | inl k ↦ rw (e, k, e) (named_owner c lid xs last r.2)
    | inr k ↦ rw (e, k) (named_owner c lid xs last r.2)
  ]
]

filter_all : (links : List Enabled) → filter (λ link. true) links ≡ links
filter_all [] = refl
filter_all (link ∷ links) = ap (λ (l : List Enabled). link ∷ l) (filter_all links)

filter_agree : (p q : Enabled → Bool) (links : List Enabled) → AllByRecursion (λ link. p link ≡ q link) links
    → filter p links ≡ filter q links
filter_agree p q [] h = refl
filter_agree p q (link ∷ links) h = elim (cases_Bool (q link)) [
  | inl e ↦ rw (h.0, e) (ap (λ (l : List Enabled). link ∷ l) (filter_agree p q links h.1))
  | inr e ↦ rw (h.0, e) (filter_agree p q links h.1)
]

-- Filtering out one number and then others is filtering out all of them.
filter_more : (number : ℕ) (numbers : List ℕ) (links : List Enabled)
    → filter (λ link. not (is_among link.lid numbers)) (filter (λ link. not (eqb link.lid number)) links)
    ≡ filter (λ link. not (is_among link.lid (number ∷ numbers))) links
filter_more number numbers [] = refl
filter_more number numbers (link ∷ links) = elim (cases_eq number link.lid) [
  | inl e ↦ rw (eq-eqb number link.lid e, eq-eqb link.lid number (sym e)) (filter_more number numbers links)
  | inr ne ↦ elim (cases_Bool (is_among link.lid numbers)) [
    | inl k ↦ rw (ne_eqb number link.lid ne, ne_eqb link.lid number (λ e. ne (sym e)), k) (filter_more number numbers links)
    | inr k ↦ rw (ne_eqb number link.lid ne, ne_eqb link.lid number (λ e. ne (sym e)), k)
        (ap (λ (l : List Enabled). link ∷ l) (filter_more number numbers links))
  ]
]

disabled_named : (numbers behind : List ℕ) (links : List Enabled)
    → without_links (reverse_aux numbers behind) links ≡ filter (λ link. not (is_among link.lid numbers)) (without_links behind links)
disabled_named [] behind links = sym (filter_all (without_links behind links))
disabled_named (number ∷ numbers) behind links =
    disabled_named numbers (number ∷ behind) links ∙ filter_more number numbers (without_links behind links)

-- Without the links of a connection, those of the other connections remain.
pub closed_disabled : (links : List Enabled) (acts : List LinkAct) (c last : ℕ) → IsRising (live acts) last → AreOwned links acts
    → without_links (reverse (links_of c acts)) links ≡ of_others c links
closed_disabled links acts c last rising owned = disabled_named (links_of c acts) [] links
    ∙ filter_agree (λ link. not (is_among link.lid (links_of c acts))) (λ link. not (eqb link.conn c)) links
    (all_implied (λ link. owner link.lid acts ≡ Some link.conn)
    (λ link. not (is_among link.lid (links_of c acts)) ≡ not (eqb link.conn c)) links
    (λ link h. ap (λ (b : Bool). not b) (named_owner c link.lid (live acts) last rising ∙ ap (is_of c) h)) owned)

-- Turning numbers into acts commutes with reversing them.
destroyed_reverse : (numbers behind : List ℕ) → reverse_aux (map Destroyed numbers) (map Destroyed behind)
    ≡ map Destroyed (reverse_aux numbers behind)
destroyed_reverse [] behind = refl
destroyed_reverse (number ∷ numbers) behind = destroyed_reverse numbers (number ∷ behind)

closing_numbers : (c : ℕ) (acts : List LinkAct) → closing c acts ≡ map Destroyed (reverse (links_of c acts))
closing_numbers c acts = destroyed_reverse (links_of c acts) []

owned_gone : (numbers : List ℕ) (links : List Enabled) (acts : List LinkAct) → AreOwned links acts
    → AreOwned (without_links numbers links) (map Destroyed numbers ++ acts)
owned_gone [] links acts owned = owned
owned_gone (number ∷ numbers) links acts owned =
    owned_destroyed (without_links numbers links) (map Destroyed numbers ++ acts) number (owned_gone numbers links acts owned)

-- Closing a connection keeps the owners of the other connections' links.
pub owned_closed : (links : List Enabled) (acts : List LinkAct) (c last : ℕ) → IsRising (live acts) last → AreOwned links acts
    → AreOwned (of_others c links) (closing c acts ++ acts)
owned_closed links acts c last rising owned = rw (← closed_disabled links acts c last rising owned, closing_numbers c acts)
    (owned_gone (reverse (links_of c acts)) links acts owned)

tells_gone : (numbers : List ℕ) (acts : List DeviceAct) (channel_log : List ChannelAct) → HearsOf acts channel_log
    → HearsOf (map Linked (map Destroyed numbers) ++ acts) (map SrqDisabled numbers ++ channel_log)
tells_gone [] acts channel_log tells = tells
tells_gone (number ∷ numbers) acts channel_log tells =
    (map SrqDisabled numbers ++ channel_log, tells_gone numbers acts channel_log tells, refl)

-- Closing a connection disables service requests for each of its links.
pub tells_closed : (c : ℕ) (acts : List DeviceAct) (channel_log : List ChannelAct) → HearsOf acts channel_log
    → HearsOf (map Linked (closing c (link_acts acts)) ++ acts) (map SrqDisabled (reverse (links_of c (link_acts acts))) ++ channel_log)
tells_closed c acts channel_log tells = rw (closing_numbers c (link_acts acts))
    (tells_gone (reverse (links_of c (link_acts acts))) acts channel_log tells)

-- ---- how many links have service requests enabled

-- Filtering out a link that exists leaves fewer links.
filter_is_shorter : (lid conn : ℕ) (xs : List Link) → owner_in lid xs ≡ Some conn → length (filter (other_than lid) xs) < length xs
filter_is_shorter lid conn [] h = absurd cc
filter_is_shorter lid conn (x ∷ xs) h = elim (cases_Bool (eqb x.lid lid)) [
  | inl e ↦ rw e (omega (arith, length_filter_le (other_than lid) xs))
  | inr e ↦ rw e (omega (arith, filter_is_shorter lid conn xs (rw e at h)))
]

owned_above : (lid : ℕ) (xs : List Link) (links : List Enabled) → AllByRecursion (λ other. lid < other.lid) links
    → AllByRecursion (λ link. owner_in link.lid xs ≡ Some link.conn) links
    → AllByRecursion (λ link. owner_in link.lid (filter (other_than lid) xs) ≡ Some link.conn) links
owned_above lid xs [] high owned = tt
owned_above lid xs (link ∷ links) high owned = (
  owner_other lid link.lid link.conn xs (λ e. absurd (omega (arith, e, high.0))) owned.0,
  owned_above lid xs links high.1 owned.1,
)

-- At most as many links have service requests enabled as there are live links.
enabled_no_more_than_live : (links : List Enabled) (xs : List Link) → IsSorted links
    → AllByRecursion (λ link. owner_in link.lid xs ≡ Some link.conn) links → length links ≤ length xs
enabled_no_more_than_live [] xs sorted owned = omega arith
enabled_no_more_than_live (link ∷ links) xs sorted owned = omega (
  arith,
  enabled_no_more_than_live links (filter (other_than link.lid) xs) sorted.1 (owned_above link.lid xs links sorted.0 owned.1),
  filter_is_shorter link.lid link.conn xs owned.0,
)

-- So there is room for each live link to enable service requests.
pub room_to_enable_srq : (links : List Enabled) (acts : List LinkAct) (lid conn : ℕ) → IsSorted links → AreOwned links acts
    → owner lid acts ≡ Some conn → length (live acts) ≤ max_links → length (filter (λ other. not (other.lid == lid)) links) < max_links
room_to_enable_srq links acts lid conn sorted owned own within =
    let left : length (filter (λ (other : Enabled). not (eqb other.lid lid)) links) ≤ length (filter (other_than lid) (live acts))
    = enabled_no_more_than_live (filter (λ other. not (eqb other.lid lid)) links) (filter (other_than lid) (live acts))
    (sorted_filter (λ other. not (eqb other.lid lid)) links sorted) (owned_destroyed links acts lid owned) in
    omega (arith, left, filter_is_shorter lid conn (live acts) own, within)
