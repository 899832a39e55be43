-- The live links, and the links with service requests enabled, are listed one after the other.
use Rattle.std.proofs.Common.{◌≡◌, ℕ, zero, suc, ◌+◌, ◌<◌, ◌≤◌, eqb, nat_lt, List, [], ◌∷◌, ◌++◌, length, take, Option, Some, None, refl, sym, ap, subst, ◌∙◌, add-one, arith, inl, inr}
use Rattle.std.specs.Prelude.{◌==◌, not, map, find, filter, option_map, slice_get}
use Rattle.std.specs.List.{AllByRecursion}
use Rattle.std.proofs.lemmas.List.{length-map}
use Rattle.std.proofs.lemmas.Bool.{cases_Bool, lt-ltb, le-ltb, eqb-true, eqb-false, ne_eqb, eq-eqb}
use Rattle.sv_links.specs.declared.links.Link.{Link}
use Rattle.sv_links.specs.declared.enabled.Enabled.{Enabled}
use Rattle.sv_links.specs.Links.{LinkAct, live}
use Rattle.sv_links.specs.Limits.{max_links}
use Rattle.sv_links.specs.Table.{IsRising}
use Rattle.sv_links.specs.ChannelRepresentation.{IsSorted}
use Rattle.sv_explain.specs.declared.shown.Listed.{Listed}
use Rattle.sv_server.specs.Device.Representation.{AreOwned}
use Rattle.sv_server.proofs.OnDevice.Owned.{room_to_enable_srq}
use Rattle.sv_server.proofs.OnShown.Lists.{one_more, all_found, past_end}

-- A link as it is listed.
abbrev pub listed : Link → Listed
listed link = record { lid = link.lid; conn = link.conn }

abbrev pub listed_enabled : Enabled → Listed
listed_enabled link = record { lid = link.lid; conn = link.conn }

abbrev pair : Enabled → ℕ × ℕ
pair link = (link.lid, link.conn)

-- The link that a pair of link number and connection stands for.
enabled_at : (links : List Enabled) (n lid conn : ℕ) → Some (lid, conn) ≡ slice_get (map pair links) n
    → (x : Enabled) × (slice_get links n ≡ Some x) × (listed_enabled x ≡ record { lid = lid; conn = conn })
enabled_at [] n lid conn e = absurd cc
enabled_at (x ∷ links) zero lid conn e =
    let same : (lid, conn) ≡ pair x = cc in
    let mk : ℕ × ℕ → Listed = λ p. record { lid = p.0; conn = p.1 } in
    (x, refl, ap mk (sym same))
enabled_at (x ∷ links) (suc n) lid conn e = enabled_at links n lid conn e

-- One more link with service requests enabled is listed.
pub asking_more : (links : List Enabled) (n lid conn : ℕ) (found more : List Listed) → Some (lid, conn) ≡ slice_get (map pair links) n
    → more ≡ found ++ record { lid = lid; conn = conn } ∷ [] → found ≡ map listed_enabled (take n links)
    → more ≡ map listed_enabled (take (n + 1) links)
asking_more links n lid conn found more at new is =
    let (x, here, same) = enabled_at links n lid conn at in
    one_more listed_enabled links n x found more here (new ∙ ap (λ (l : Listed). found ++ l ∷ []) (sym same)) is

-- All links with service requests enabled are listed.
pub asking_end : (links : List Enabled) (n : ℕ) (found : List Listed) → None ≡ slice_get (map pair links) n
    → found ≡ map listed_enabled (take n links) → found ≡ map listed_enabled links
asking_end links n found none is =
    let le : length links ≤ n = rw (← length-map links pair) (past_end (map pair links) n (sym none)) in
    all_found listed_enabled links n found le is

-- The first link with a number above this one.
abbrev pub next_above : ℕ → List Link → Option Link
next_above lid links = find (λ link. nat_lt lid link.lid) links

-- If all links are above a number, the next link above it is the first of the list.
first_above : (lid : ℕ) (links : List Link) → AllByRecursion (λ link. lid < link.lid) links → next_above lid links ≡ slice_get links 0
first_above lid [] h = refl
first_above lid (link ∷ links) h = rw (lt-ltb lid link.lid h.0) refl

all_get : (P : Link → Type 0) (links : List Link) (n : ℕ) (link : Link) → slice_get links n ≡ Some link → AllByRecursion P links → P link
all_get P [] n link at h = absurd cc
all_get P (x ∷ links) zero link at h = let same : x ≡ link = cc in subst P same h.0
all_get P (x ∷ links) (suc n) link at h = all_get P links n link at h.1

next_suc : (links : List Link) (last n : ℕ) (link : Link) → IsRising links last → slice_get links n ≡ Some link
    → next_above link.lid links ≡ slice_get links (suc n)
next_suc [] last n link rising at = absurd cc
next_suc (x ∷ links) last zero link rising at =
    let same : x ≡ link = cc in
    let P : Link → Type 0 = λ other. next_above other.lid (x ∷ links) ≡ slice_get links 0 in
    subst P same (rw (le-ltb x.lid x.lid (omega arith)) (first_above x.lid links rising.1))
next_suc (x ∷ links) last (suc n) link rising at =
    let below : x.lid < link.lid = all_get (λ other. x.lid < other.lid) links n link at rising.1 in
    rw (le-ltb link.lid x.lid (omega (arith, below))) (next_suc links last n link rising.2 at)

-- The next link above the number of a link is the next one of the list.
pub next_is : (links : List Link) (last n : ℕ) (link : Link) → IsRising links last → slice_get links n ≡ Some link
    → next_above link.lid links ≡ slice_get links (n + 1)
next_is links last n link rising at = rw add-one (next_suc links last n link rising at)

none_zero : (lid : ℕ) (links : List Link) → AllByRecursion (λ link. lid < link.lid) links → find (λ link. link.lid == 0) links ≡ None
none_zero lid [] h = refl
none_zero lid (x ∷ links) h = rw (ne_eqb x.lid 0 (λ e. absurd (omega (arith, h.0, e)))) (none_zero lid links h.1)

above_zero : (lid : ℕ) → (lid ≡ 0 → ⊥) → 0 < lid
above_zero zero ne = absurd (ne refl)
above_zero (suc lid) ne = omega arith

others : (lid : ℕ) (links : List Enabled) → AllByRecursion (λ link. lid < link.lid) links
    → filter (λ link. not (link.lid == lid)) links ≡ links
others lid [] h = refl
others lid (x ∷ links) h = rw (ne_eqb x.lid lid (λ e. absurd (omega (arith, h.0, e))))
    (ap (λ (xs : List Enabled). x ∷ xs) (others lid links h.1))

-- A link with number 0 is the first of the list.
pub first_zero : (links : List Link) (last conn : ℕ) → IsRising links last
    → Some conn ≡ option_map (λ link. link.conn) (find (λ link. link.lid == 0) links)
    → Some (record { lid = 0; conn = conn }) ≡ slice_get links 0
first_zero [] last conn rising is = absurd cc
first_zero (x ∷ links) last conn rising is = elim (cases_Bool (eqb x.lid 0)) [
  | inl e ↦
      let found : Some conn ≡ Some x.conn = rw e at is in
      let own : conn ≡ x.conn = cc in
      let mk : ℕ → ℕ → Link = λ lid conn. record { lid = lid; conn = conn } in
      ap (λ (lid : ℕ). Some (mk lid conn)) (sym (eqb-true x.lid 0 e)) ∙ ap (λ (n : ℕ). Some (mk x.lid n)) own
  | inr e ↦ absurd (let none : Some conn ≡ None = rw (e, none_zero x.lid links rising.1) at is in cc)
]

-- Without a link with number 0, the first link above 0 is the first of the list.
pub first_other : (links : List Link) (last : ℕ) → IsRising links last
    → None ≡ option_map (λ (link : Link). link.conn) (find (λ link. link.lid == 0) links) → next_above 0 links ≡ slice_get links 0
first_other [] last rising is = refl
first_other (x ∷ links) last rising is = elim (cases_Bool (eqb x.lid 0)) [
  | inl e ↦ absurd (let some : None ≡ Some x.conn = rw e at is in cc)
  | inr e ↦ rw (lt-ltb 0 x.lid (above_zero x.lid (eqb-false x.lid 0 e))) refl
]

-- At most as many links have service requests enabled as may be live.
pub asking_few : (links : List Enabled) (acts : List LinkAct) → IsSorted links → AreOwned links acts → length (live acts) ≤ max_links
    → length links ≤ max_links
asking_few [] acts sorted owned within = omega arith
asking_few (x ∷ links) acts sorted owned within =
    let room : length (filter (λ (other : Enabled). not (eqb other.lid x.lid)) (x ∷ links)) < max_links =
    room_to_enable_srq (x ∷ links) acts x.lid x.conn sorted owned owned.0 within in
    let rest : length links < max_links = rw (eq-eqb x.lid x.lid refl, others x.lid links sorted.0) at room in omega arith
