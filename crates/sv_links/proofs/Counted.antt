-- How many suspended create_link calls the queue has, after a call enters or leaves it.
use Rattle.std.proofs.Common.{◌≡◌, ℕ, ◌+◌, ◌≤◌, Bool, true, false, cond, List, [], ◌∷◌, ◌++◌, length, ◌==◌, refl, arith, inl, inr}
use Rattle.std.specs.Prelude.{not, filter}
use Rattle.std.proofs.lemmas.Bool.{cases_Bool}
use Rattle.sv_links.specs.declared.waiting.Entry.{Entry}
use Rattle.sv_links.specs.Queue.{creates, creations, without}

pub length_filter_le : {A : Type 0} (p : A → Bool) (xs : List A) → length (filter p xs) ≤ length xs
length_filter_le p [] = omega arith
length_filter_le p (x ∷ xs) = elim (cases_Bool (p x)) [
  | inl e ↦ rw e (omega (arith, length_filter_le p xs))
  | inr e ↦ rw e (omega (arith, length_filter_le p xs))
]

fewer : (p q : Entry → Bool) (xs : List Entry) → length (filter p (filter q xs)) ≤ length (filter p xs)
fewer p q [] = omega arith
fewer p q (x ∷ xs) = elim (cases_Bool (q x)) [
  | inl e ↦ elim (cases_Bool (p x)) [
    | inl k ↦ rw (e, k) (omega (arith, fewer p q xs))
    | inr k ↦ rw (e, k) (fewer p q xs)
  ]
  | inr e ↦ elim (cases_Bool (p x)) [
    | inl k ↦ rw (e, k) (omega (arith, fewer p q xs))
    | inr k ↦ rw (e, k) (fewer p q xs)
  ]
]

pushed : (p : Entry → Bool) (xs : List Entry) (x : Entry) → length (filter p (xs ++ x ∷ [])) ≡ length (filter p xs) + cond (p x) 1 0
pushed p [] x = elim (cases_Bool (p x)) [ inl e ↦ rw e refl | inr e ↦ rw e refl ]
pushed p (y ∷ xs) x = elim (cases_Bool (p y)) [
  | inl e ↦ rw e (omega (arith, pushed p xs x))
  | inr e ↦ rw e (pushed p xs x)
]

at_most_one : (b : Bool) → cond b 1 0 ≤ 1
at_most_one true = omega arith
at_most_one false = omega arith

pub creations_without : (c : ℕ) (xs : List Entry) → creations (without c xs) ≤ creations xs
creations_without c xs = fewer creates (λ entry. not (entry.conn == c)) xs

-- A call that enters the queue adds at most one.
pub creations_after_entering : (xs : List Entry) (x : Entry) → creations (xs ++ x ∷ []) ≤ creations xs + 1
creations_after_entering xs x = omega (arith, pushed creates xs x, at_most_one (creates x))

-- It adds none if it isn't a create_link.
pub creations_after_other_call : (xs : List Entry) (x : Entry) → creates x ≡ false → creations (xs ++ x ∷ []) ≡ creations xs
creations_after_other_call xs x other = rw (pushed creates xs x, other) (omega arith)
