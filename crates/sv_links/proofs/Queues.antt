-- The queue has exactly the suspended calls, the oldest first, after each act.
use Rattle.std.proofs.Common.{◌≡◌, ◌≢◌, ℕ, ◌+◌, ◌<◌, ◌≤◌, Bool, true, false, eqb, cond, List, [], ◌∷◌, ◌++◌, length, Option, Some, None, refl, sym, ap, subst, ◌∙◌, arith, inl, inr, eq-eqb, ◌⊎◌, suc, zero}
use Rattle.std.specs.Prelude.{not, map, filter, find, option_map, is_some, take, drop}
use Rattle.std.specs.List.{AllByRecursion}
use Rattle.std.proofs.lemmas.Bool.{ne_eqb, eqb-true, eqb-false, cases_Bool, cond_both, true≢false, false≢true, leb-true, le-leb}
use Rattle.std.proofs.lemmas.List.Elements.{All-filter, All-from_recursion, recursion_from_All}
use Rattle.std.proofs.lemmas.List.{take_all, drop_all, append-nil}
use Rattle.sv_logs.specs.Since.{newest}
use Rattle.sv_links.specs.declared.waiting.Entry.{Entry}
use Rattle.sv_links.specs.declared.waiting.Wait.{Wait}
use Rattle.sv_links.specs.Waiting.{WaitAct, Entered, Again, Left, waits, link, arrival, enters, IsOldest, IsAble, IsExpired, is_there}
use Rattle.sv_links.specs.Queue.{IsQueue, IsFree, IsOnce, IsBelow, IsEntry, IsOrdered, entry_of, anew, is_past, without}
use Rattle.sv_rpc.proofs.Steps.{all_push}

-- ---- properties of all entries

pub all_filter : {A : Type 0} (P : A → Type 0) (p : A → Bool) (xs : List A) → AllByRecursion P xs → AllByRecursion P (filter p xs)
all_filter P p xs h = recursion_from_All P _ (All-filter p P xs (All-from_recursion P xs h))

both : (P Q R : Entry → Type 0) → ((x : Entry) → P x → Q x → R x) → (xs : List Entry) → AllByRecursion P xs → AllByRecursion Q xs
    → AllByRecursion R xs
both P Q R f [] h k = tt
both P Q R f (x ∷ xs) h k = (f x h.0 k.0, both P Q R f xs h.1 k.1)

turned : (a b : ℕ) → eqb a b ≡ false → eqb b a ≡ false
turned a b e = ne_eqb b a (λ same. eqb-false a b e (sym same))

-- ---- a call that leaves the queue

abbrev other_than : ℕ → Entry → Bool
other_than conn x = not (eqb x.conn conn)

pub once_filter : (p : Entry → Bool) (xs : List Entry) → IsOnce xs → IsOnce (filter p xs)
once_filter p [] h = tt
once_filter p (x ∷ xs) h = cond_both (p x) (x ∷ filter p xs) (filter p xs) IsOnce
    (λ _. (all_filter (λ (y : Entry). y.conn ≢ x.conn) p xs h.0, once_filter p xs h.1)) (λ _. once_filter p xs h.1)

pub below_filter : (p : Entry → Bool) (n : ℕ) (xs : List Entry) → IsBelow n xs → IsBelow n (filter p xs)
below_filter p n xs h = all_filter (λ (x : Entry). x.conn < n) p xs h

each_left : (conn : ℕ) (acts : List WaitAct) (xs : List Entry) → AllByRecursion (IsEntry acts) xs
    → AllByRecursion (IsEntry (Left conn ∷ acts)) (filter (other_than conn) xs)
each_left conn acts [] h = tt
each_left conn acts (x ∷ xs) h = elim (cases_Bool (eqb x.conn conn)) [
  | inl e ↦ rw e (each_left conn acts xs h.1)
  | inr e ↦ rw e ((rw (turned x.conn conn e) h.0.0, h.0.1, h.0.2), each_left conn acts xs h.1)
]

ordered_left : (conn : ℕ) (acts : List WaitAct) (xs : List Entry) → IsOrdered acts xs
    → IsOrdered (Left conn ∷ acts) (filter (other_than conn) xs)
ordered_left conn acts [] h = tt
ordered_left conn acts (x ∷ xs) h =
    cond_both (other_than conn x) (x ∷ filter (other_than conn) xs) (filter (other_than conn) xs) (IsOrdered (Left conn ∷ acts))
    (λ _. (all_filter (λ (y : Entry). arrival x.conn acts < arrival y.conn acts) (other_than conn) xs h.0, ordered_left conn acts xs h.1))
    (λ _. ordered_left conn acts xs h.1)

pub free_without : (conn : ℕ) (xs : List Entry) → IsFree conn (without conn xs)
free_without conn [] = tt
free_without conn (x ∷ xs) = cond_both (other_than conn x) (x ∷ without conn xs) (without conn xs) (IsFree conn)
    (λ e. (λ same. true≢false (sym e ∙ rw (eq-eqb x.conn conn same) refl), free_without conn xs)) (λ _. free_without conn xs)

ordered_filter : (p : Entry → Bool) (acts : List WaitAct) (xs : List Entry) → IsOrdered acts xs → IsOrdered acts (filter p xs)
ordered_filter p acts [] h = tt
ordered_filter p acts (x ∷ xs) h = cond_both (p x) (x ∷ filter p xs) (filter p xs) (IsOrdered acts)
    (λ _. (all_filter (λ (y : Entry). arrival x.conn acts < arrival y.conn acts) p xs h.0, ordered_filter p acts xs h.1))
    (λ _. ordered_filter p acts xs h.1)

find_left : (conn c : ℕ) (xs : List Entry) → entry_of c (filter (other_than conn) xs) ≡ cond (eqb conn c) None (entry_of c xs)
find_left conn c [] = elim (cases_Bool (eqb conn c)) [ inl e ↦ rw e refl | inr e ↦ rw e refl ]
find_left conn c (x ∷ xs) = elim (cases_Bool (eqb x.conn conn)) [
  | inl e ↦ elim (cases_Bool (eqb conn c)) [
    | inl k ↦ rw (e, k) (find_left conn c xs ∙ rw k refl)
    | inr k ↦ let same : x.conn ≡ conn = eqb-true x.conn conn e in rw (e, k, same, k) (find_left conn c xs ∙ rw k refl)
  ]
  | inr e ↦ elim (cases_Bool (eqb x.conn c)) [
    | inl k ↦ let apart : eqb conn c ≡ false = rw (← eqb-true x.conn c k) (turned x.conn conn e) in rw (e, k, apart) refl
    | inr k ↦ rw (e, k) (find_left conn c xs)
  ]
]

all_left : (conn c : ℕ) (acts : List WaitAct) (xs : List Entry) → waits c acts ≡ option_map (λ x. x.wait) (entry_of c xs)
    → waits c (Left conn ∷ acts) ≡ option_map (λ x. x.wait) (entry_of c (filter (other_than conn) xs))
all_left conn c acts xs h = rw (find_left conn c xs) (elim (cases_Bool (eqb conn c)) [ inl e ↦ rw e refl | inr e ↦ rw e h ])

pub is_queue_left : (conn : ℕ) (acts : List WaitAct) (xs : List Entry) → IsQueue xs acts
    → IsQueue (filter (other_than conn) xs) (Left conn ∷ acts)
is_queue_left conn acts xs is = record {
  each = each_left conn acts xs is.each;
  ordered = ordered_left conn acts xs is.ordered;
  all = λ c. all_left conn c acts xs (is.all c);
}

-- ---- a call that enters the queue

pub newest_le : (p : List WaitAct → Bool) (acts : List WaitAct) → length (newest p acts) ≤ length acts
newest_le p [] = omega arith
newest_le p (act ∷ acts) = cond_both (p (act ∷ acts)) (act ∷ acts) (newest p acts) (λ found. length found ≤ suc (length acts))
    (λ _. omega arith) (λ _. omega (arith, newest_le p acts))

abbrev acts_with : Entry → List WaitAct → List WaitAct
acts_with entry acts = Entered entry.conn entry.lid entry.wait entry.deadline ∷ acts

is_entry_entered : (entry : Entry) (acts : List WaitAct) (x : Entry) → x.conn ≢ entry.conn → IsEntry acts x
    → IsEntry (acts_with entry acts) x
is_entry_entered entry acts x apart h = rw (ne_eqb entry.conn x.conn (λ e. apart (sym e))) h

is_entry_new : (entry : Entry) (acts : List WaitAct) → IsEntry (acts_with entry acts) entry
is_entry_new entry acts = rw (eq-eqb entry.conn entry.conn refl) (refl, refl, refl)

arrival_entered : (entry : Entry) (acts : List WaitAct) (x : Entry) → x.conn ≢ entry.conn
    → arrival x.conn (acts_with entry acts) ≡ arrival x.conn acts
arrival_entered entry acts x apart = rw (ne_eqb entry.conn x.conn (λ e. apart (sym e))) refl

arrival_new : (entry : Entry) (acts : List WaitAct) → arrival entry.conn (acts_with entry acts) ≡ length acts + 1
arrival_new entry acts = rw (eq-eqb entry.conn entry.conn refl) (omega arith)

newer : (entry : Entry) (acts : List WaitAct) (x : Entry) → x.conn ≢ entry.conn
    → arrival x.conn (acts_with entry acts) < arrival entry.conn (acts_with entry acts)
newer entry acts x apart = rw (arrival_entered entry acts x apart, arrival_new entry acts) (omega (arith, newest_le (enters x.conn) acts))

ordered_entered : (entry : Entry) (acts : List WaitAct) (xs : List Entry) → IsFree entry.conn xs → IsOrdered acts xs
    → IsOrdered (acts_with entry acts) (xs ++ entry ∷ [])
ordered_entered entry acts [] free h = (tt, tt)
ordered_entered entry acts (x ∷ xs) free h = (
  all_push (λ (y : Entry). arrival x.conn (acts_with entry acts) < arrival y.conn (acts_with entry acts)) xs entry
      (both (λ y. y.conn ≢ entry.conn) (λ y. arrival x.conn acts < arrival y.conn acts)
      (λ y. arrival x.conn (acts_with entry acts) < arrival y.conn (acts_with entry acts))
      (λ y apart lt. rw (arrival_entered entry acts x free.0, arrival_entered entry acts y apart) lt) xs free.1 h.0)
      (newer entry acts x free.0),
  ordered_entered entry acts xs free.1 h.1,
)

find_entered : (entry : Entry) (c : ℕ) (xs : List Entry) → IsFree entry.conn xs
    → entry_of c (xs ++ entry ∷ []) ≡ cond (eqb entry.conn c) (Some entry) (entry_of c xs)
find_entered entry c [] free = refl
find_entered entry c (x ∷ xs) free = elim (cases_Bool (eqb x.conn c)) [
  | inl k ↦ let apart : eqb entry.conn c ≡ false = ne_eqb entry.conn c (λ e. free.0 (eqb-true x.conn c k ∙ sym e)) in rw (k, apart) refl
  | inr k ↦ rw k (find_entered entry c xs free.1)
]

all_entered : (entry : Entry) (c : ℕ) (acts : List WaitAct) (xs : List Entry) → waits c acts ≡ option_map (λ x. x.wait) (entry_of c xs)
    → waits c (acts_with entry acts) ≡ option_map (λ x. x.wait) (entry_of c (without entry.conn xs ++ entry ∷ []))
all_entered entry c acts xs h =
    rw (find_entered entry c (without entry.conn xs) (free_without entry.conn xs), find_left entry.conn c xs)
    (elim (cases_Bool (eqb entry.conn c)) [ inl e ↦ rw e refl | inr e ↦ rw e h ])

-- The entry of the suspended call comes last, and replaces an older entry of its connection.
pub is_queue_entered : (entry : Entry) (acts : List WaitAct) (xs : List Entry) → IsQueue xs acts
    → IsQueue (without entry.conn xs ++ entry ∷ []) (acts_with entry acts)
is_queue_entered entry acts xs is = record {
  each = all_push (IsEntry (acts_with entry acts)) (without entry.conn xs) entry
      (both (λ x. x.conn ≢ entry.conn) (IsEntry acts) (IsEntry (acts_with entry acts)) (is_entry_entered entry acts) (without entry.conn xs)
      (free_without entry.conn xs) (all_filter (IsEntry acts) (other_than entry.conn) xs is.each)) (is_entry_new entry acts);
  ordered = ordered_entered entry acts (without entry.conn xs) (free_without entry.conn xs)
      (ordered_filter (other_than entry.conn) acts xs is.ordered);
  all = λ c. all_entered entry c acts xs (is.all c);
}

pub once_push : (entry : Entry) (xs : List Entry) → IsFree entry.conn xs → IsOnce xs → IsOnce (xs ++ entry ∷ [])
once_push entry [] free h = (tt, tt)
once_push entry (x ∷ xs) free h =
    (all_push (λ (y : Entry). y.conn ≢ x.conn) xs entry h.0 (λ e. free.0 (sym e)), once_push entry xs free.1 h.1)

pub below_push : (entry : Entry) (n : ℕ) (xs : List Entry) → entry.conn < n → IsBelow n xs → IsBelow n (xs ++ entry ∷ [])
below_push entry n xs lt h = all_push (λ (x : Entry). x.conn < n) xs entry h lt

-- ---- a call that begins to wait for something else

conn_anew : (conn : ℕ) (wait : Wait) (last : Option ℕ) (x : Entry) → (anew conn wait last x).conn ≡ x.conn
conn_anew conn wait last x = elim (cases_Bool (eqb x.conn conn)) [ inl e ↦ rw e refl | inr e ↦ rw e refl ]

-- A property of the entries' connections is kept.
all_anew : (P : ℕ → Type 0) (conn : ℕ) (wait : Wait) (last : Option ℕ) (xs : List Entry) → AllByRecursion (λ x. P x.conn) xs
    → AllByRecursion (λ x. P x.conn) (map (anew conn wait last) xs)
all_anew P conn wait last [] h = tt
all_anew P conn wait last (x ∷ xs) h = (rw (conn_anew conn wait last x) h.0, all_anew P conn wait last xs h.1)

pub once_anew : (conn : ℕ) (wait : Wait) (last : Option ℕ) (xs : List Entry) → IsOnce xs → IsOnce (map (anew conn wait last) xs)
once_anew conn wait last [] h = tt
once_anew conn wait last (x ∷ xs) h =
    (rw (conn_anew conn wait last x) (all_anew (λ c. c ≢ x.conn) conn wait last xs h.0), once_anew conn wait last xs h.1)

pub below_anew : (conn : ℕ) (wait : Wait) (last : Option ℕ) (n : ℕ) (xs : List Entry) → IsBelow n xs
    → IsBelow n (map (anew conn wait last) xs)
below_anew conn wait last n xs h = all_anew (λ c. c < n) conn wait last xs h

each_anew : (conn : ℕ) (wait : Wait) (last : Option ℕ) (acts : List WaitAct) (xs : List Entry) → AllByRecursion (IsEntry acts) xs
    → AllByRecursion (IsEntry (Again conn wait last ∷ acts)) (map (anew conn wait last) xs)
each_anew conn wait last acts [] h = tt
each_anew conn wait last acts (x ∷ xs) h = (
  cond_both (eqb x.conn conn) (record x { wait = wait; deadline = last }) x (IsEntry (Again conn wait last ∷ acts))
      (λ e. let same : eqb conn x.conn ≡ true = eq-eqb conn x.conn (sym (eqb-true x.conn conn e)) in
      (rw same (ap (option_map (λ before. wait)) h.0.0), rw same refl, h.0.2))
      (λ e. let apart : eqb conn x.conn ≡ false = turned x.conn conn e in (rw apart h.0.0, rw apart h.0.1, h.0.2)),
  each_anew conn wait last acts xs h.1,
)

ordered_anew : (conn : ℕ) (wait : Wait) (last : Option ℕ) (acts : List WaitAct) (xs : List Entry) → IsOrdered acts xs
    → IsOrdered (Again conn wait last ∷ acts) (map (anew conn wait last) xs)
ordered_anew conn wait last acts [] h = tt
ordered_anew conn wait last acts (x ∷ xs) h = (
  subst (λ c. AllByRecursion (λ y. arrival c acts < arrival y.conn acts) (map (anew conn wait last) xs)) (sym (conn_anew conn wait last x))
      (all_anew (λ c. arrival x.conn acts < arrival c acts) conn wait last xs h.0),
  ordered_anew conn wait last acts xs h.1,
)

find_anew : (conn : ℕ) (wait : Wait) (last : Option ℕ) (c : ℕ) (xs : List Entry)
    → option_map (λ x. x.wait) (entry_of c (map (anew conn wait last) xs))
    ≡ cond (eqb conn c) (option_map (λ (x : Wait). wait) (option_map (λ x. x.wait) (entry_of c xs)))
    (option_map (λ x. x.wait) (entry_of c xs))
find_anew conn wait last c [] = elim (cases_Bool (eqb conn c)) [ inl e ↦ rw e refl | inr e ↦ rw e refl ]
find_anew conn wait last c (x ∷ xs) = elim (cases_Bool (eqb x.conn c)) [
  | inl k ↦ elim (cases_Bool (eqb x.conn conn)) [
    | inl e ↦ let same : eqb conn c ≡ true = eq-eqb conn c (sym (eqb-true x.conn conn e) ∙ eqb-true x.conn c k) in rw (e, k, same) refl
    | inr e ↦ let apart : eqb conn c ≡ false = rw (← eqb-true x.conn c k) (turned x.conn conn e) in rw (e, k, apart) refl
  ]
  | inr k ↦ rw (conn_anew conn wait last x, k) (find_anew conn wait last c xs)
]

all_of_anew : (conn : ℕ) (wait : Wait) (last : Option ℕ) (c : ℕ) (acts : List WaitAct) (xs : List Entry)
    → waits c acts ≡ option_map (λ x. x.wait) (entry_of c xs)
    → waits c (Again conn wait last ∷ acts) ≡ option_map (λ x. x.wait) (entry_of c (map (anew conn wait last) xs))
all_of_anew conn wait last c acts xs h = rw (find_anew conn wait last c xs, ← h) refl

pub is_queue_anew : (conn : ℕ) (wait : Wait) (last : Option ℕ) (acts : List WaitAct) (xs : List Entry)
    → IsQueue xs acts → IsQueue (map (anew conn wait last) xs) (Again conn wait last ∷ acts)
is_queue_anew conn wait last acts xs is = record {
  each = each_anew conn wait last acts xs is.each;
  ordered = ordered_anew conn wait last acts xs is.ordered;
  all = λ c. all_of_anew conn wait last c acts xs (is.all c);
}

-- ---- a connection without an entry

pub anew_none : (conn : ℕ) (wait : Wait) (last : Option ℕ) (xs : List Entry) → IsFree conn xs → map (anew conn wait last) xs ≡ xs
anew_none conn wait last [] h = refl
anew_none conn wait last (x ∷ xs) h = rw (ne_eqb x.conn conn h.0, anew_none conn wait last xs h.1) refl

-- ---- at most one entry for each connection

pub without_free : (n : ℕ) (xs : List Entry) → IsFree n xs → filter (other_than n) xs ≡ xs
without_free n [] h = refl
without_free n (x ∷ xs) h = rw (ne_eqb x.conn n h.0, without_free n xs h.1) refl

at_most_one_less : (n : ℕ) (xs : List Entry) → IsOnce xs → length xs ≤ length (filter (other_than n) xs) + 1
at_most_one_less n [] h = omega arith
at_most_one_less n (x ∷ xs) h = elim (cases_Bool (eqb x.conn n)) [
  | inl e ↦ let free : IsFree n xs = rw (← eqb-true x.conn n e) h.0 in rw (e, without_free n xs free) (omega arith)
  | inr e ↦ rw e (omega (arith, at_most_one_less n xs h.1))
]

pub below_less : (n : ℕ) (xs : List Entry) → IsBelow (suc n) xs → IsBelow n (filter (other_than n) xs)
below_less n [] h = tt
below_less n (x ∷ xs) h = elim (cases_Bool (eqb x.conn n)) [
  | inl e ↦ rw e (below_less n xs h.1)
  | inr e ↦ let apart : x.conn ≢ n = eqb-false x.conn n e in rw e (omega (arith, h.0, apart), below_less n xs h.1)
]

pub entries_at_most : (n : ℕ) (xs : List Entry) → IsOnce xs → IsBelow n xs → length xs ≤ n
entries_at_most zero [] once below = omega arith
entries_at_most zero (x ∷ xs) once below = absurd (omega (arith, below.0))
entries_at_most (suc n) xs once below =
    let rest = entries_at_most n (filter (other_than n) xs) (once_filter (other_than n) xs once) (below_less n xs below) in
    omega (arith, rest, at_most_one_less n xs once)

-- If a connection has no entry, the queue isn't full.
pub queue_has_room : (entry : Entry) (n : ℕ) (xs : List Entry) → IsFree entry.conn xs → entry.conn < n → IsOnce xs → IsBelow n xs
    → length xs < n
queue_has_room entry n xs free lt once below =
    let most = entries_at_most n (entry ∷ xs) (free, once) (lt, below) in omega (arith, most)

-- ---- the first entry with a property is the oldest

abbrev pub HasEntryOf : ℕ → List Entry → Type 0
HasEntryOf c [] = ⊥
HasEntryOf c (x ∷ xs) = (x.conn ≡ c) ⊎ HasEntryOf c xs

pub entry_from_find : (c : ℕ) (xs : List Entry) → (entry_of c xs ≡ None → ⊥) → HasEntryOf c xs
entry_from_find c [] h = absurd (h refl)
entry_from_find c (x ∷ xs) h = elim (cases_Bool (eqb x.conn c)) [
  | inl e ↦ inl (eqb-true x.conn c e)
  | inr e ↦ inr (entry_from_find c xs (rw e at h))
]

later : (acts : List WaitAct) (n c : ℕ) (xs : List Entry) → AllByRecursion (λ x. n < arrival x.conn acts) xs → HasEntryOf c xs
    → n ≤ arrival c acts
later acts n c [] h k = absurd k
later acts n c (x ∷ xs) h (inl e) = rw (← e) (omega (arith, h.0))
later acts n c (x ∷ xs) h (inr k) = later acts n c xs h.1 k

first_oldest : (acts : List WaitAct) (IsSuch : ℕ → Type 0) (test : Entry → Bool)
    → ((x : Entry) → IsEntry acts x → test x ≡ true → IsSuch x.conn) → ((x : Entry) → IsEntry acts x → IsSuch x.conn → test x ≡ true)
    → (xs : List Entry) → AllByRecursion (IsEntry acts) xs → IsOrdered acts xs → ((c : ℕ) → IsSuch c → HasEntryOf c xs)
    → IsOldest acts IsSuch (option_map (λ x. x.conn) (find test xs))
first_oldest acts IsSuch test sound complete [] each ordered among = λ c such. among c such
first_oldest acts IsSuch test sound complete (x ∷ xs) each ordered among = elim (cases_Bool (test x)) [
  | inl e ↦ rw e (
    sound x each.0 e,
    λ d such. elim (among d such) [
      | inl same ↦ rw same (omega arith)
      | inr k ↦ later acts (arrival x.conn acts) d xs ordered.0 k
    ],
  )
  | inr e ↦ rw e (first_oldest acts IsSuch test sound complete xs each.1 ordered.1 (λ c such. elim (among c such) [
    | inl same ↦ absurd (true≢false (sym (complete x each.0 (rw same such)) ∙ e))
    | inr k ↦ k
  ]))
]

pub is_oldest_find : (acts : List WaitAct) (IsSuch : ℕ → Type 0) (test : Entry → Bool) (xs : List Entry)
    → ((x : Entry) → IsEntry acts x → test x ≡ true → IsSuch x.conn) → ((x : Entry) → IsEntry acts x → IsSuch x.conn → test x ≡ true)
    → ((c : ℕ) → IsSuch c → waits c acts ≡ None → ⊥) → IsQueue xs acts → IsOldest acts IsSuch (option_map (λ x. x.conn) (find test xs))
is_oldest_find acts IsSuch test xs sound complete does is = first_oldest acts IsSuch test sound complete xs is.each is.ordered
    (λ c such. entry_from_find c xs (λ none. does c such (is.all c ∙ ap (option_map (λ x. x.wait)) none)))

able_by_entry : (holder : Option ℕ) (can_write can_read : Bool) (acts : List WaitAct) (x : Entry) → IsEntry acts x
    → is_there holder can_write can_read (link x.conn acts) (waits x.conn acts) ≡ is_there holder can_write can_read x.lid (Some x.wait)
able_by_entry holder can_write can_read acts x each =
    ap (λ named. is_there holder can_write can_read named (waits x.conn acts)) each.2 ∙ ap (is_there holder can_write can_read x.lid) each.0

pub oldest_able : (holder : Option ℕ) (can_write can_read : Bool) (acts : List WaitAct) (xs : List Entry) → IsQueue xs acts
    → IsOldest acts (IsAble holder can_write can_read acts)
    (option_map (λ x. x.conn) (find (λ x. is_there holder can_write can_read x.lid (Some x.wait)) xs))
oldest_able holder can_write can_read acts xs is =
    is_oldest_find acts (IsAble holder can_write can_read acts) (λ x. is_there holder can_write can_read x.lid (Some x.wait)) xs
    (λ x each e. able_by_entry holder can_write can_read acts x each ∙ e)
    (λ x each such. sym (able_by_entry holder can_write can_read acts x each) ∙ such)
    (λ c such none. false≢true (rw none at such)) is

deadline_is_past : (clock : ℕ) (o : Option ℕ) → is_past clock o ≡ true → (last : ℕ) × (o ≡ Some last) × (last ≤ clock)
deadline_is_past clock None e = absurd (false≢true e)
deadline_is_past clock (Some last) e = (last, refl, leb-true last clock e)

some≢none : (wait : Wait) (o : Option Wait) → o ≡ Some wait → o ≡ None → ⊥
some≢none wait o some none = true≢false (ap is_some (sym some ∙ none))

pub oldest_expired : (clock : ℕ) (acts : List WaitAct) (xs : List Entry) → IsQueue xs acts
    → IsOldest acts (IsExpired clock acts) (option_map (λ x. x.conn) (find (λ x. is_past clock x.deadline) xs))
oldest_expired clock acts xs is = is_oldest_find acts (IsExpired clock acts) (λ x. is_past clock x.deadline) xs
    (λ x each e. let found = deadline_is_past clock x.deadline e in (x.wait, found.0, each.0, each.1 ∙ found.1, found.2))
    (λ x each such. rw (sym each.1 ∙ such.3) (le-leb such.1 clock such.4))
    (λ c such none. some≢none such.0 (waits c acts) such.2 none) is

-- ---- a loop that has changed each entry

pub written : (f : Entry → Entry) (n i : ℕ) (old start items : List Entry) → start ≡ old → length start ≡ n → length items ≡ length start
    → length start ≤ i → items ≡ map f (take i start) ++ drop i start → take n (items ++ drop (length items) old) ≡ map f old
written f n i old start items same long kept ends is =
    let all : items ≡ map f start = is ∙ rw (take_all i start ends, drop_all i start ends) (append-nil (map f start)) in
    let rest : drop (length items) old ≡ [] = drop_all (length items) old (rw (← same) (omega (arith, kept))) in
    rw (rest, append-nil items) (take_all n items (omega (arith, kept, long)) ∙ all ∙ ap (map f) same)
