-- How many steps remain after a suspended call begins to wait for something else.
use Rattle.std.proofs.Common.{◌≡◌, ℕ, ◌+◌, ◌≤◌, Bool, true, false, eqb, List, [], ◌∷◌, length, Option, Some, refl, arith, inl, inr}
use Rattle.std.specs.Prelude.{not, filter, map}
use Rattle.std.proofs.lemmas.Bool.{cases_Bool, eqb-true, not-true, not-false}
use Rattle.sv_links.specs.declared.waiting.Entry.{Entry}
use Rattle.sv_links.specs.declared.waiting.Wait.{Wait}
use Rattle.sv_links.specs.declared.waiting.Wait.TheVariants.{Lock}
use Rattle.sv_links.specs.Waiting.{is_lock}
use Rattle.sv_links.specs.Queue.{IsFree, IsOnce, anew, creates, creations, without, queue_measure, wait_measure}
use Rattle.sv_links.proofs.Queues.{anew_none, without_free}

pub measure_after_anew : (conn : ℕ) (wait : Wait) (last : Option ℕ) (xs : List Entry) → IsOnce xs
    → queue_measure (map (anew conn wait last) xs) ≤ queue_measure (without conn xs) + wait_measure wait
measure_after_anew conn wait last [] once = omega arith
measure_after_anew conn wait last (x ∷ xs) once = elim (cases_Bool (eqb x.conn conn)) [
  | inl e ↦
      let free : IsFree conn xs = rw (← eqb-true x.conn conn e) once.0 in
      rw (e, anew_none conn wait last xs free, without_free conn xs free) (omega arith)
  | inr e ↦ rw e (omega (arith, measure_after_anew conn wait last xs once.1))
]

not_lock : (wait : Wait) → (wait ≡ Lock → ⊥) → is_lock (Some wait) ≡ false
not_lock Lock other = absurd (other refl)
not_lock _ other = refl

not_creates : (conn : ℕ) (wait : Wait) (last : Option ℕ) (x : Entry) → (wait ≡ Lock → ⊥)
    → creates (record x { wait = wait; deadline = last }) ≡ false
not_creates conn wait last x other = rw (not_lock wait other) refl

fewer : (p q : Entry → Bool) (f : Entry → Entry) → ((x : Entry) → q x ≡ true → f x ≡ x) → ((x : Entry) → q x ≡ false → p (f x) ≡ false)
    → (xs : List Entry) → length (filter p (map f xs)) ≤ length (filter p (filter q xs))
fewer p q f same other [] = omega arith
fewer p q f same other (x ∷ xs) = elim (cases_Bool (q x)) [
  | inl e ↦ elim (cases_Bool (p x)) [
    | inl k ↦ rw (e, same x e, k) (omega (arith, fewer p q f same other xs))
    | inr k ↦ rw (e, same x e, k) (fewer p q f same other xs)
  ]
  | inr e ↦ rw (e, other x e) (fewer p q f same other xs)
]

pub creations_anew : (conn : ℕ) (wait : Wait) (last : Option ℕ) (xs : List Entry) → (wait ≡ Lock → ⊥)
    → creations (map (anew conn wait last) xs) ≤ creations (without conn xs)
creations_anew conn wait last xs other = fewer creates (λ x. not (eqb x.conn conn)) (anew conn wait last)
    (λ x e. rw (not-true (eqb x.conn conn) e) refl)
    (λ x e. rw (not-false (eqb x.conn conn) e) (not_creates conn wait last x other)) xs
