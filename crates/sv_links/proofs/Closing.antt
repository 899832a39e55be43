-- Closing a connection destroys its links, and frees the lock if one of them holds it.
use Rattle.std.proofs.Common.{◌≡◌, ℕ, Bool, true, false, eqb, cond, List, [], ◌∷◌, ◌++◌, Option, Some, None, refl, sym, ap, ◌∙◌, arith, inl, inr, eq-eqb}
use Rattle.std.specs.Prelude.{not, map, filter, find, option_map, ◌&&◌, ◌||◌}
use Rattle.std.specs.List.{AllByRecursion, list_any}
use Rattle.std.specs.Option.{option_eq}
use Rattle.std.proofs.lemmas.Bool.{ne_eqb, cases_Bool, eqb-true}
use mathlib.Core.List.{reverse_aux, reverse_aux-eq}
use Rattle.sv_links.specs.declared.links.Link.{Link}
use Rattle.sv_links.specs.Links.{LinkAct, Destroyed, links_made, live, owner, is_of, closing, is_locked, is_this}
use Rattle.sv_links.specs.Table.{Table, IsTable, IsRising}
use Rattle.sv_links.proofs.Slots.{keep, kept_filter}
use Rattle.sv_links.proofs.Tables.{IsOlder, above_filter, rising_filter, other_than}

-- The acts, followed by the destruction of these links.
abbrev pub with_destroyed : List Link → List LinkAct → List LinkAct
with_destroyed ys acts = reverse_aux (map Destroyed (map (λ link. link.lid) ys)) acts

-- The links of the second list whose numbers aren't in the first.
abbrev without : List Link → List Link → List Link
without [] xs = xs
without (y ∷ ys) xs = without ys (filter (other_than y.lid) xs)

links_made_after_destroying : (ys : List Link) (acts : List LinkAct) → links_made (with_destroyed ys acts) ≡ links_made acts
links_made_after_destroying [] acts = refl
links_made_after_destroying (y ∷ ys) acts = links_made_after_destroying ys (Destroyed y.lid ∷ acts)

live_after_destroying : (ys : List Link) (acts : List LinkAct) → live (with_destroyed ys acts) ≡ without ys (live acts)
live_after_destroying [] acts = refl
live_after_destroying (y ∷ ys) acts = live_after_destroying ys (Destroyed y.lid ∷ acts)

-- A link with a number below all of theirs stays.
stays : (x : Link) (ys xs : List Link) → AllByRecursion (IsOlder x) ys → without ys (x ∷ xs) ≡ x ∷ without ys xs
stays x [] xs h = refl
stays x (y ∷ ys) xs h = rw (ne_eqb x.lid y.lid (λ e. absurd (omega (arith, h.0, e)))) (stays x ys _ h.1)

stay : (x : Link) (ys : List Link) → AllByRecursion (IsOlder x) ys → filter (other_than x.lid) ys ≡ ys
stay x [] h = refl
stay x (y ∷ ys) h = rw (ne_eqb y.lid x.lid (λ e. absurd (omega (arith, h.0, e))), stay x ys h.1) refl

-- Removing the links that pass a test leaves those that don't.
others : (p : Link → Bool) (xs : List Link) (n : ℕ) → IsRising xs n → without (filter p xs) xs ≡ filter (λ x. not (p x)) xs
others p [] n r = refl
others p (x ∷ xs) n r = elim (cases_Bool (p x)) [
  | inl e ↦ rw (e, without, eq-eqb x.lid x.lid refl, stay x xs r.1) (others p xs n r.2)
  | inr e ↦ rw (e, stays x (filter p xs) xs (above_filter p x xs r.1), others p xs n r.2) refl
]

-- Whether one of the links has this number.
abbrev pub has_link_number : ℕ → List Link → Bool
has_link_number lid ys = list_any (λ link. eqb link.lid lid) ys

locked_step : (a b c : Bool) → (not b && (not a && c)) ≡ (not (a || b) && c)
locked_step true true c = refl
locked_step true false c = refl
locked_step false true c = refl
locked_step false false c = refl

pub is_locked_after_destroying : (lid : ℕ) (ys : List Link) (acts : List LinkAct)
    → is_locked lid (with_destroyed ys acts) ≡ (not (has_link_number lid ys) && is_locked lid acts)
is_locked_after_destroying lid [] acts = refl
is_locked_after_destroying lid (y ∷ ys) acts = is_locked_after_destroying lid ys (Destroyed y.lid ∷ acts)
    ∙ locked_step (eqb y.lid lid) (has_link_number lid ys) (is_locked lid acts)

-- ---- the owner of a link

none_above : (x : Link) (xs : List Link) → AllByRecursion (IsOlder x) xs → has_link_number x.lid xs ≡ false
none_above x [] h = refl
none_above x (y ∷ xs) h = rw (ne_eqb y.lid x.lid (λ e. absurd (omega (arith, h.0, e)))) (none_above x xs h.1)

abbrev pub of_conn : ℕ → Link → Bool
of_conn conn link = eqb link.conn conn

pub has_by_owner : (conn lid : ℕ) (xs : List Link) (n : ℕ) → IsRising xs n
    → has_link_number lid (filter (of_conn conn) xs) ≡ is_of conn (option_map (λ link. link.conn) (find (λ link. eqb link.lid lid) xs))
has_by_owner conn lid [] n r = refl
has_by_owner conn lid (x ∷ xs) n r = elim (cases_Bool (eqb x.lid lid)) [
  | inl e ↦ elim (cases_Bool (eqb x.conn conn)) [
    | inl k ↦ rw (e, k, e) refl
    | inr k ↦ rw (e, k) (rw (← eqb-true x.lid lid e) (none_above x (filter (of_conn conn) xs) (above_filter (of_conn conn) x xs r.1)))
  ]
  | inr e ↦ elim (cases_Bool (eqb x.conn conn)) [
    | inl k ↦ rw (e, k, e) (has_by_owner conn lid xs n r.2)
    | inr k ↦ rw (e, k) (has_by_owner conn lid xs n r.2)
  ]
]

-- ---- the table

-- The lock holder after the connection is closed: none if it was a link of this connection.
abbrev pub holder_after_closing : ℕ → List LinkAct → Option ℕ → Option ℕ
holder_after_closing conn acts None = None
holder_after_closing conn acts (Some lid) = cond (is_of conn (owner lid acts)) None (Some lid)

decided : (b : Bool) (m : ℕ) → (not b && eqb m m) ≡ is_this m (cond b None (Some m))
decided true m = refl
decided false m = refl

apart : (a b : Bool) (m lid : ℕ) → eqb m lid ≡ false → (not a && false) ≡ is_this lid (cond b None (Some m))
apart true true m lid e = refl
apart true false m lid e = sym e
apart false true m lid e = refl
apart false false m lid e = sym e

lock_left : (conn lid : ℕ) (acts : List LinkAct) (o : Option ℕ) (n : ℕ) → IsRising (live acts) n
    → (not (has_link_number lid (filter (of_conn conn) (live acts))) && is_this lid o) ≡ is_this lid (holder_after_closing conn acts o)
lock_left conn lid acts None n r = elim (cases_Bool (has_link_number lid (filter (of_conn conn) (live acts))))
    [ inl e ↦ rw e refl | inr e ↦ rw e refl ]
lock_left conn lid acts (Some m) n r = elim (cases_Bool (eqb m lid)) [
  | inl e ↦
      let same : m ≡ lid = eqb-true m lid e in
      let own : has_link_number m (filter (of_conn conn) (live acts)) ≡ is_of conn (owner m acts) = has_by_owner conn m (live acts) n r in
      rw (← same, own) (decided (is_of conn (owner m acts)) m)
  | inr e ↦ rw e (apart (has_link_number lid (filter (of_conn conn) (live acts))) (is_of conn (owner m acts)) m lid e)
]

-- Closing a connection removes its links from the table.
pub is_table_closed : (table : Table) (conn : ℕ) (acts : List LinkAct) (slots : List (Option Link)) (holder : Option ℕ)
    → slots ≡ map (keep (λ link. not (eqb link.conn conn))) table.slots → holder ≡ holder_after_closing conn acts table.holder
    → IsTable table acts → IsTable (record table { slots = slots; holder = holder }) (closing conn acts ++ acts)
is_table_closed table conn acts slots holder kept held is =
    let ys = filter (of_conn conn) (live acts) in
    let stay : live (with_destroyed ys acts) ≡ filter (λ link. not (eqb link.conn conn)) (live acts)
    = live_after_destroying ys acts ∙ others (of_conn conn) (live acts) table.made is.rising in
    rw (← reverse_aux-eq) (record {
      made = is.made ∙ sym (links_made_after_destroying ys acts);
      kept = rw (kept, stay) (kept_filter (λ link. not (eqb link.conn conn)) table.slots (live acts) is.kept);
      rising = rw stay (rising_filter (λ link. not (eqb link.conn conn)) (live acts) table.made is.rising);
      lock = λ lid. is_locked_after_destroying lid ys acts ∙ ap (λ (b : Bool). not (has_link_number lid ys) && b) (is.lock lid)
          ∙ lock_left conn lid acts table.holder table.made is.rising ∙ ap (is_this lid) (sym held);
    })

-- ---- the code's test of the lock holder

same_owner : (conn : ℕ) (o : Option ℕ) → option_eq eqb o (Some conn) ≡ is_of conn o
same_owner conn None = refl
same_owner conn (Some m) = refl

pub closed_holder_frees : (conn lid : ℕ) (acts : List LinkAct) (holder o : Option ℕ) (r : Bool) → holder ≡ Some lid → o ≡ owner lid acts
    → r ≡ option_eq eqb o (Some conn) → r ≡ true → None ≡ holder_after_closing conn acts holder
closed_holder_frees conn lid acts holder o r held own told e =
    let is : is_of conn (owner lid acts) ≡ true = ap (is_of conn) (sym own) ∙ sym (same_owner conn o) ∙ sym told ∙ e in
    rw (held, is) refl

pub other_holder_stays : (conn lid : ℕ) (acts : List LinkAct) (holder o : Option ℕ) (r : Bool) → holder ≡ Some lid → o ≡ owner lid acts
    → r ≡ option_eq eqb o (Some conn) → r ≡ false → holder ≡ holder_after_closing conn acts holder
other_holder_stays conn lid acts holder o r held own told e =
    let is : is_of conn (owner lid acts) ≡ false = ap (is_of conn) (sym own) ∙ sym (same_owner conn o) ∙ sym told ∙ e in
    rw (held, is) refl

pub no_holder_stays : (conn : ℕ) (acts : List LinkAct) (holder : Option ℕ) → holder ≡ None → holder ≡ holder_after_closing conn acts holder
no_holder_stays conn acts holder none = rw none refl
