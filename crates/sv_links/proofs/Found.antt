-- The first entry of the queue that passes a test.
use Rattle.std.proofs.Common.{◌≡◌, ◌≢◌, ℕ, ◌+◌, ◌<◌, ◌≤◌, Bool, true, eqb, List, [], ◌∷◌, length, Option, Some, None, refl, sym, arith, inl, inr, eq-eqb}
use Rattle.std.specs.Prelude.{filter, find, option_map, IfSome, MatchOption}
use Rattle.std.specs.List.{AllByRecursion}
use Rattle.std.proofs.lemmas.Bool.{cases_Bool, eqb-true, ne_eqb}
use Rattle.sv_links.specs.declared.waiting.Entry.{Entry}
use Rattle.sv_links.specs.Waiting.{WaitAct, waits}
use Rattle.sv_links.specs.Queue.{IsQueue, IsEntry, IsOnce, IsBelow, creates, creations, without, entry_of, queue_measure, wait_measure}
use Rattle.sv_links.proofs.Counted.{creations_without}

-- It passes the test, and has what all entries have.
found_has_property : (P : Entry → Type 0) (test : Entry → Bool) (xs : List Entry) → AllByRecursion P xs
    → IfSome (find test xs) (λ x. (test x ≡ true) × P x)
found_has_property P test [] h = tt
found_has_property P test (x ∷ xs) h =
    elim (cases_Bool (test x)) [ inl e ↦ rw e (e, h.0) | inr e ↦ rw e (found_has_property P test xs h.1) ]

weaker : (P Q : Entry → Type 0) → ((x : Entry) → P x → Q x) → (o : Option Entry) → IfSome o P → IfSome o Q
weaker P Q f None h = tt
weaker P Q f (Some x) h = f x h

pub found_each : (P : Entry → Type 0) (test : Entry → Bool) (xs : List Entry) → AllByRecursion P xs → IfSome (find test xs) P
found_each P test xs h = weaker (λ x. (test x ≡ true) × P x) P (λ x k. k.1) (find test xs) (found_has_property P test xs h)

-- The entry that is found is the one of its connection.
both_found : (P Q : Entry → Type 0) (o : Option Entry) → IfSome o P → IfSome o Q → IfSome o (λ x. P x × Q x)
both_found P Q None h k = tt
both_found P Q (Some x) h k = (h, k)

found_entry : (test : Entry → Bool) (xs : List Entry) → IsOnce xs → IfSome (find test xs) (λ y. entry_of y.conn xs ≡ Some y)
found_entry test [] once = tt
found_entry test (x ∷ xs) once = elim (cases_Bool (test x)) [
  | inl e ↦ rw e (rw (eq-eqb x.conn x.conn refl) refl)
  | inr e ↦ rw e (weaker (λ y. (y.conn ≢ x.conn) × (entry_of y.conn xs ≡ Some y)) (λ y. entry_of y.conn (x ∷ xs) ≡ Some y)
      (λ y h. rw (ne_eqb x.conn y.conn (λ same. h.0 (sym same))) h.1) (find test xs)
      (both_found (λ y. y.conn ≢ x.conn) (λ y. entry_of y.conn xs ≡ Some y) (find test xs)
      (found_each (λ y. y.conn ≢ x.conn) test xs once.0) (found_entry test xs once.1)))
]

pub found_within : (test : Entry → Bool) (n : ℕ) (xs : List Entry) → IsBelow n xs → IsOnce xs
    → IfSome (find test xs) (λ y. (y.conn < n) × (entry_of y.conn xs ≡ Some y))
found_within test n xs below once = both_found (λ y. y.conn < n) (λ y. entry_of y.conn xs ≡ Some y) (find test xs)
    (found_each (λ y. y.conn < n) test xs below) (found_entry test xs once)

-- The entry of a connection has the wait that the acts determine.
entry_for : (conn : ℕ) (acts : List WaitAct) (o : Option Entry) → waits conn acts ≡ option_map (λ x. x.wait) o
    → IfSome o (λ x. (eqb x.conn conn ≡ true) × IsEntry acts x)
    → MatchOption o (waits conn acts ≡ None) (λ x. (x.conn ≡ conn) × IsEntry acts x)
entry_for conn acts None all h = all
entry_for conn acts (Some x) all h = (eqb-true x.conn conn h.0, h.1)

pub entry_waits : (conn : ℕ) (acts : List WaitAct) (xs : List Entry) → IsQueue xs acts
    → MatchOption (entry_of conn xs) (waits conn acts ≡ None) (λ x. (x.conn ≡ conn) × IsEntry acts x)
entry_waits conn acts xs is =
    entry_for conn acts (entry_of conn xs) (is.all conn) (found_has_property (IsEntry acts) (λ x. eqb x.conn conn) xs is.each)

-- ---- by how much an entry's removal lowers the measures

pub measure_without : (c : ℕ) (xs : List Entry) → queue_measure (without c xs) ≤ queue_measure xs
measure_without c [] = omega arith
measure_without c (x ∷ xs) = elim (cases_Bool (eqb x.conn c)) [
  | inl e ↦ rw e (omega (arith, measure_without c xs))
  | inr e ↦ rw e (omega (arith, measure_without c xs))
]

rank_cons : (c : ℕ) (x : Entry) (xs : List Entry) → queue_measure (without c (x ∷ xs)) ≤ wait_measure x.wait + queue_measure (without c xs)
rank_cons c x xs = elim (cases_Bool (eqb x.conn c)) [ inl e ↦ rw e (omega arith) | inr e ↦ rw e (omega arith) ]

rank_itself : (x : Entry) (xs : List Entry) → queue_measure (without x.conn (x ∷ xs)) ≤ queue_measure xs
rank_itself x xs = rw (eq-eqb x.conn x.conn refl) (measure_without x.conn xs)

pub measure_after_found : (test : Entry → Bool) (xs : List Entry) → IfSome (find test xs) (λ x. queue_measure (without x.conn xs)
    + wait_measure x.wait ≤ queue_measure xs)
measure_after_found test [] = tt
measure_after_found test (x ∷ xs) = elim (cases_Bool (test x)) [
  | inl e ↦ rw e (omega (arith, rank_itself x xs))
  | inr e ↦ rw e (weaker (λ y. queue_measure (without y.conn xs) + wait_measure y.wait ≤ queue_measure xs)
      (λ y. queue_measure (without y.conn (x ∷ xs)) + wait_measure y.wait ≤ queue_measure (x ∷ xs))
      (λ y h. omega (arith, h, rank_cons y.conn x xs)) (find test xs) (measure_after_found test xs))
]

head : (p : Entry → Bool) (x : Entry) (xs : List Entry) → length (filter p (x ∷ xs)) ≡ length (filter p (x ∷ [])) + length (filter p xs)
head p x xs = elim (cases_Bool (p x)) [ inl e ↦ rw e (omega arith) | inr e ↦ rw e (omega arith) ]

creations_head : (x : Entry) (xs : List Entry) → creations (x ∷ xs) ≡ creations (x ∷ []) + creations xs
creations_head x xs = head creates x xs

creations_cons : (c : ℕ) (x : Entry) (xs : List Entry) → creations (without c (x ∷ xs)) ≤ creations (x ∷ []) + creations (without c xs)
creations_cons c x xs = elim (cases_Bool (eqb x.conn c)) [
  | inl e ↦ rw e (omega arith)
  | inr e ↦ rw e (omega (arith, creations_head x (without c xs)))
]

creations_one : (p : Entry → Bool) (x : Entry) → p x ≡ true → length (filter p (x ∷ [])) ≡ 1
creations_one p x e = rw e refl

creations_itself : (x : Entry) (xs : List Entry) → creates x ≡ true → creations (without x.conn (x ∷ xs)) + 1 ≤ creations (x ∷ xs)
creations_itself x xs e =
    rw (creations_head x xs, creations_one creates x e, eq-eqb x.conn x.conn refl) (omega (arith, creations_without x.conn xs))

pub creations_after_found : (test : Entry → Bool) (xs : List Entry)
    → IfSome (find test xs) (λ x. creates x ≡ true → creations (without x.conn xs) + 1 ≤ creations xs)
creations_after_found test [] = tt
creations_after_found test (x ∷ xs) = elim (cases_Bool (test x)) [
  | inl e ↦ rw e (creations_itself x xs)
  | inr e ↦ rw e (weaker (λ y. creates y ≡ true → creations (without y.conn xs) + 1 ≤ creations xs)
      (λ y. creates y ≡ true → creations (without y.conn (x ∷ xs)) + 1 ≤ creations (x ∷ xs))
      (λ y h k. omega (arith, h k, creations_cons y.conn x xs, creations_head x xs)) (find test xs) (creations_after_found test xs))
]
