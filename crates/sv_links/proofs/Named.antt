-- The live links of a number or a connection, found in the slots of the table.
use Rattle.std.proofs.Common.{◌≡◌, ℕ, ◌+◌, ◌<◌, Bool, true, false, eqb, List, [], ◌∷◌, ◌++◌, Option, Some, None, refl, sym, ap, subst, ◌∙◌, arith, inl, inr}
use Rattle.std.specs.Prelude.{map, filter, find, option_map, min, fold}
use Rattle.std.specs.List.{AllByRecursion, reduce}
use Rattle.std.proofs.lemmas.Bool.{ne_eqb, eq-eqb, cases_Bool, eqb-true}
use Rattle.slab.specs.Slab.{entries_from}
use Rattle.sv_links.specs.declared.links.Link.{Link}
use Rattle.sv_links.specs.Table.{IsKept, IsRising}
use Rattle.sv_links.proofs.Slots.{keep, kept_filter}
use Rattle.sv_links.proofs.Tables.{IsOlder, rising_filter}

abbrev links_in_slots : List (Option Link) → List Link
links_in_slots [] = []
links_in_slots (None ∷ slots) = links_in_slots slots
links_in_slots (Some link ∷ slots) = link ∷ links_in_slots slots

links_keep : (p : Link → Bool) (slots : List (Option Link)) → links_in_slots (map (keep p) slots) ≡ filter p (links_in_slots slots)
links_keep p [] = refl
links_keep p (None ∷ slots) = links_keep p slots
links_keep p (Some x ∷ slots) = elim (cases_Bool (p x)) [
  | inl e ↦ rw e (ap (λ (xs : List Link). x ∷ xs) (links_keep p slots))
  | inr e ↦ rw e (links_keep p slots)
]

-- ---- what an iterator over the slab finds

find_entries : {Y : Type 0} (test : Link → Bool) (f : Link → Y) (key : ℕ) (slots : List (Option Link))
    → option_map (λ entry. f entry.1) (find (λ entry. test entry.1) (entries_from key slots)) ≡ option_map f
    (find test (links_in_slots slots))
find_entries test f key [] = refl
find_entries test f key (None ∷ slots) = find_entries test f (key + 1) slots
find_entries test f key (Some x ∷ slots) = elim (cases_Bool (test x)) [
  | inl e ↦ rw e refl
  | inr e ↦ rw e (find_entries test f (key + 1) slots)
]

filter_entries : (test : Link → Bool) (key : ℕ) (slots : List (Option Link))
    → map (λ entry. entry.1.lid) (filter (λ entry. test entry.1) (entries_from key slots))
    ≡ map (λ link. link.lid) (filter test (links_in_slots slots))
filter_entries test key [] = refl
filter_entries test key (None ∷ slots) = filter_entries test (key + 1) slots
filter_entries test key (Some x ∷ slots) = elim (cases_Bool (test x)) [
  | inl e ↦ rw e (ap (λ (ns : List ℕ). x.lid ∷ ns) (filter_entries test (key + 1) slots))
  | inr e ↦ rw e (filter_entries test (key + 1) slots)
]

-- ---- removing a link from a list of rising numbers

all_between : (P : Link → Type 0) (xs : List Link) (x : Link) (ys : List Link)
    → AllByRecursion P (xs ++ x ∷ ys) → AllByRecursion P (xs ++ ys)
all_between P [] x ys h = h.1
all_between P (z ∷ xs) x ys h = (h.0, all_between P xs x ys h.1)

all_at : (P : Link → Type 0) (xs : List Link) (x : Link) (ys : List Link) → AllByRecursion P (xs ++ x ∷ ys) → P x
all_at P [] x ys h = h.0
all_at P (z ∷ xs) x ys h = all_at P xs x ys h.1

rising_between : (xs : List Link) (x : Link) (ys : List Link) (n : ℕ) → IsRising (xs ++ x ∷ ys) n → IsRising (xs ++ ys) n
rising_between [] x ys n h = h.2
rising_between (z ∷ xs) x ys n h = (h.0, all_between (IsOlder z) xs x ys h.1, rising_between xs x ys n h.2)

find_passed : (test : Link → Bool) (xs : List Link) (x : Link) (ys : List Link) → test x ≡ false
    → find test (xs ++ x ∷ ys) ≡ find test (xs ++ ys)
find_passed test [] x ys e = rw e refl
find_passed test (z ∷ xs) x ys e = elim (cases_Bool (test z)) [
  | inl k ↦ rw k refl
  | inr k ↦ rw k (find_passed test xs x ys e)
]

find_there : (lid : ℕ) (xs : List Link) (x : Link) (ys : List Link) (n : ℕ) → IsRising (xs ++ x ∷ ys) n → eqb x.lid lid ≡ true
    → find (λ link. eqb link.lid lid) (xs ++ x ∷ ys) ≡ Some x
find_there lid [] x ys n h e = rw e refl
find_there lid (z ∷ xs) x ys n h e =
    let below : z.lid < x.lid = all_at (IsOlder z) xs x ys h.1 in
    let same : x.lid ≡ lid = eqb-true x.lid lid e in
    rw (ne_eqb z.lid lid (λ k. absurd (omega (arith, k, below, same)))) (find_there lid xs x ys n h.2 e)

pub find_kept : (lid : ℕ) (slots : List (Option Link)) (links : List Link) (n : ℕ) → IsKept slots links → IsRising links n
    → find (λ link. eqb link.lid lid) (links_in_slots slots) ≡ find (λ link. eqb link.lid lid) links
find_kept lid [] links n h rise = rw h refl
find_kept lid (None ∷ slots) links n h rise = find_kept lid slots links n h rise
find_kept lid (Some x ∷ slots) links n h rise =
    let rise : IsRising (h.0 ++ x ∷ h.1) n = rw (← h.2) rise in
    rw h.2 (elim (cases_Bool (eqb x.lid lid)) [
      | inl e ↦ rw e (sym (find_there lid h.0 x h.1 n rise e))
      | inr e ↦ rw e (find_kept lid slots (h.0 ++ h.1) n h.3 (rising_between h.0 x h.1 n rise)
          ∙ sym (find_passed (λ link. eqb link.lid lid) h.0 x h.1 e))
    ])

pub owner_found : (lid key : ℕ) (slots : List (Option Link)) (links : List Link) (n : ℕ) → IsKept slots links → IsRising links n
    → option_map (λ entry. entry.1.conn) (find (λ entry. eqb entry.1.lid lid) (entries_from key slots))
    ≡ option_map (λ link. link.conn) (find (λ link. eqb link.lid lid) links)
owner_found lid key slots links n h rise = find_entries (λ link. eqb link.lid lid) (λ link. link.conn) key slots
    ∙ ap (option_map (λ (link : Link). link.conn)) (find_kept lid slots links n h rise)

-- ---- the lowest number

abbrev lids : List Link → List ℕ
lids links = map (λ link. link.lid) links

abbrev least_with : ℕ → Option ℕ → ℕ
least_with a None = a
least_with a (Some b) = min a b

fold_min : (a b : ℕ) (ns : List ℕ) → fold min (min a b) ns ≡ min a (fold min b ns)
fold_min a b [] = refl
fold_min a b (n ∷ ns) = ap (λ (m : ℕ). fold min m ns) (grind (arith)) ∙ fold_min a (min b n) ns

least_cons : (a : ℕ) (ns : List ℕ) → reduce min (a ∷ ns) ≡ Some (least_with a (reduce min ns))
least_cons a [] = refl
least_cons a (n ∷ ns) = ap Some (fold_min a n ns)

first_above : (x : Link) (ys : List Link) → AllByRecursion (IsOlder x) ys → least_with x.lid (find (λ lid. true) (lids ys)) ≡ x.lid
first_above x [] h = refl
first_above x (y ∷ ys) h = grind (arith, h.0)

first_least : (xs : List Link) (x : Link) (ys : List Link) (n : ℕ) → IsRising (xs ++ x ∷ ys) n
    → find (λ lid. true) (lids (xs ++ x ∷ ys)) ≡ Some (least_with x.lid (find (λ lid. true) (lids (xs ++ ys))))
first_least [] x ys n h = ap Some (sym (first_above x ys h.1))
first_least (z ∷ xs) x ys n h =
    let below : z.lid < x.lid = all_at (IsOlder z) xs x ys h.1 in
    ap Some (grind (arith, below))

least_kept : (slots : List (Option Link)) (links : List Link) (n : ℕ) → IsKept slots links → IsRising links n
    → reduce min (lids (links_in_slots slots)) ≡ find (λ lid. true) (lids links)
least_kept [] links n h rise = rw h refl
least_kept (None ∷ slots) links n h rise = least_kept slots links n h rise
least_kept (Some x ∷ slots) links n h rise =
    let rise : IsRising (h.0 ++ x ∷ h.1) n = rw (← h.2) rise in
    rw h.2 (least_cons x.lid (lids (links_in_slots slots))
    ∙ ap (λ (o : Option ℕ). Some (least_with x.lid o)) (least_kept slots (h.0 ++ h.1) n h.3 (rising_between h.0 x h.1 n rise))
    ∙ sym (first_least h.0 x h.1 n rise))

pub least_found : (test : Link → Bool) (key : ℕ) (slots : List (Option Link)) (links : List Link) (n : ℕ)
    → IsKept slots links → IsRising links n
    → reduce min (map (λ entry. entry.1.lid) (filter (λ entry. test entry.1) (entries_from key slots)))
    ≡ find (λ lid. true) (map (λ link. link.lid) (filter test links))
least_found test key slots links n h rise =
    ap (reduce min) (filter_entries test key slots ∙ sym (ap lids (links_keep test slots)))
    ∙ least_kept (map (keep test) slots) (filter test links) n (kept_filter test slots links h) (rising_filter test links n rise)

-- ---- the first link that passes a test

passes : (test : Link → Bool) (links : List Link) (lid : ℕ) → find (λ n. true) (lids (filter test links)) ≡ Some lid
    → (link : Link) × (find test links ≡ Some link) × (link.lid ≡ lid)
passes test [] lid e = absurd cc
passes test (x ∷ links) lid e = elim (cases_Bool (test x)) [
  | inl k ↦ (x, rw k refl, let h : Some x.lid ≡ Some lid = rw k at e in cc)
  | inr k ↦ let r = passes test links lid (rw k at e) in (r.0, rw k r.1, r.2)
]

pub none_passes : (test : Link → Bool) (links : List Link) → find (λ n. true) (lids (filter test links)) ≡ None → None ≡ find test links
none_passes test [] e = refl
none_passes test (x ∷ links) e = elim (cases_Bool (test x)) [
  | inl k ↦ absurd (let h : Some x.lid ≡ None = rw k at e in cc)
  | inr k ↦ rw k (none_passes test links (rw k at e))
]

found_all : (P : Link → Type 0) (test : Link → Bool) (links : List Link) (link : Link) → AllByRecursion P links
    → find test links ≡ Some link → P link
found_all P test [] link h e = absurd cc
found_all P test (x ∷ links) link h e = elim (cases_Bool (test x)) [
  | inl k ↦ let s : Some x ≡ Some link = rw k at e in let same : x ≡ link = cc in rw (← same) h.0
  | inr k ↦ found_all P test links link h.1 (rw k at e)
]

-- The first link that passes a test is the link with its number.
found_by_number : (test : Link → Bool) (links : List Link) (n : ℕ) (link : Link) → IsRising links n → find test links ≡ Some link
    → find (λ other. eqb other.lid link.lid) links ≡ Some link
found_by_number test [] n link h e = absurd cc
found_by_number test (x ∷ links) n link h e = elim (cases_Bool (test x)) [
  | inl k ↦ let s : Some x ≡ Some link = rw k at e in let same : x ≡ link = cc in rw (← same) (rw (eq-eqb x.lid x.lid refl) refl)
  | inr k ↦
      let there : find test links ≡ Some link = rw k at e in
      let below : x.lid < link.lid = found_all (IsOlder x) test links link h.1 there in
      rw (ne_eqb x.lid link.lid (λ same. absurd (omega (arith, same, below)))) (found_by_number test links n link h.2 there)
]

pub first_link_is_found : (test : Link → Bool) (links : List Link) (n next conn : ℕ) → IsRising links n
    → find (λ m. true) (lids (filter test links)) ≡ Some next
    → Some conn ≡ option_map (λ link. link.conn) (find (λ link. eqb link.lid next) links)
    → Some (record { lid = next; conn = conn }) ≡ find test links
first_link_is_found test links n next conn h e own =
    let (link, found, named) = passes test links next e in
    let by : find (λ other. eqb other.lid next) links ≡ Some link =
    subst (λ (m : ℕ). find (λ other. eqb other.lid m) links ≡ Some link) named (found_by_number test links n link h found) in
    let owned : Some conn ≡ Some link.conn = own ∙ ap (option_map (λ (l : Link). l.conn)) by in
    let same : conn ≡ link.conn = cc in
    subst (λ (m : ℕ). Some (record { lid = m; conn = conn }) ≡ find test links) named
    (subst (λ (k : ℕ). Some (record { lid = link.lid; conn = k }) ≡ find test links) (sym same) (sym found))

pub first_link_is_lost : (test : Link → Bool) (links : List Link) (n next : ℕ) → IsRising links n
    → find (λ m. true) (lids (filter test links)) ≡ Some next
    → None ≡ option_map (λ link. link.conn) (find (λ link. eqb link.lid next) links) → None ≡ find test links
first_link_is_lost test links n next h e own =
    let (link, found, named) = passes test links next e in
    let by : find (λ other. eqb other.lid next) links ≡ Some link =
    subst (λ (m : ℕ). find (λ other. eqb other.lid m) links ≡ Some link) named (found_by_number test links n link h found) in
    let owned : None ≡ Some link.conn = own ∙ ap (option_map (λ (l : Link). l.conn)) by in
    absurd cc
