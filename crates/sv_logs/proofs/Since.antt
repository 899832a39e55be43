-- Statements of the form "A held once, and B has held ever since": when they are true after one more
-- act of the log.
use Rattle.std.proofs.Common.{◌≡◌, ℕ, zero, suc, ◌≤◌, Bool, true, false, refl, List, [], ◌∷◌, length, drop, sym, subst, arith, ◌⊎◌, inl, inr}
use Rattle.std.specs.Prelude.{◌↔◌, ◌&&◌, ◌||◌}
use Rattle.std.proofs.lemmas.List.{drop_all}
use Rattle.sv_logs.specs.Since.{Since, is_since}

-- For the empty log, both properties have to hold of it.
pub since_empty : {A : Type 0} (F K : List A → Type 0) → Since F K [] ↔ (F [] × K [])
since_empty {A} F K = (
  (λ (s : Since F K []). (subst F (drop_all s.ago [] (omega arith)) s.found, s.kept 0 (omega arith))),
  (λ (h : F [] × K []). record {
    ago = 0;
    within = omega arith;
    found = h.0;
    kept =
        λ n le. subst K (sym (drop_all n [] (omega arith))) h.1;
  }),
)

-- `F` holds after the newest act, or the search succeeded before that act.
since_to_either : {A : Type 0} (F K : List A → Type 0) (a : A) (log : List A) (ago : ℕ) → ago ≤ length (a ∷ log) → F (drop ago (a ∷ log))
    → ((n : ℕ) → n ≤ ago → K (drop n (a ∷ log))) → F (a ∷ log) ⊎ Since F K log
since_to_either F K a log zero within found kept = inl found
since_to_either F K a log (suc ago) within found kept =
    inr (record { ago = ago; within = omega arith; found = found; kept = λ n le. kept (suc n) (omega arith) })

-- `K` holds after the newest act, and after each older act since the find.
kept_more : {A : Type 0} (K : List A → Type 0) (a : A) (log : List A) (ago : ℕ) → K (a ∷ log) → ((n : ℕ) → n ≤ ago → K (drop n log))
    → (n : ℕ) → n ≤ suc ago → K (drop n (a ∷ log))
kept_more K a log ago k kept zero le = k
kept_more K a log ago k kept (suc n) le = kept n (omega arith)

kept_here : {A : Type 0} (K : List A → Type 0) (a : A) (log : List A) → K (a ∷ log) → (n : ℕ) → n ≤ 0 → K (drop n (a ∷ log))
kept_here K a log k zero le = k
kept_here K a log k (suc n) le = absurd (omega arith)

since_from_either : {A : Type 0} (F K : List A → Type 0) (a : A) (log : List A) → K (a ∷ log) → F (a ∷ log) ⊎ Since F K log
    → Since F K (a ∷ log)
since_from_either F K a log k (inl f) = record { ago = 0; within = omega arith; found = f; kept = kept_here K a log k }
since_from_either F K a log k (inr s) = let within = s.within in
    record { ago = suc s.ago; within = omega arith; found = s.found; kept = kept_more K a log s.ago k s.kept }

-- One more act: `K` has to hold after it, and `F` holds after it or the search succeeded before.
pub since_step : {A : Type 0} (F K : List A → Type 0) (a : A) (log : List A)
    → Since F K (a ∷ log) ↔ (K (a ∷ log) × (F (a ∷ log) ⊎ Since F K log))
since_step F K a log = (
  (λ (s : Since F K (a ∷ log)). (s.kept 0 (omega arith), since_to_either F K a log s.ago s.within s.found s.kept)),
  (λ (h : K (a ∷ log) × (F (a ∷ log) ⊎ Since F K log)). since_from_either F K a log h.0 h.1),
)

-- If `K` holds after the act, the search succeeds if `F` holds, or if it succeeded before.
pub since_kept : {A : Type 0} (F K : List A → Type 0) (a : A) (log : List A) → K (a ∷ log)
    → Since F K (a ∷ log) ↔ (F (a ∷ log) ⊎ Since F K log)
since_kept F K a log k =
    let law = since_step F K a log in
    ((λ (s : Since F K (a ∷ log)). (law.0 s).1), (λ (h : F (a ∷ log) ⊎ Since F K log). law.1 (k, h)))

-- If `F` doesn't hold after the act, and `K` holds if something was found, the act changes nothing.
pub since_skips_act : {A : Type 0} (F K : List A → Type 0) (a : A) (log : List A) → (F (a ∷ log) → ⊥) → (Since F K log → K (a ∷ log))
    → Since F K (a ∷ log) ↔ Since F K log
since_skips_act F K a log none kept =
    let step = since_step F K a log in (
      (λ s. elim (step.0 s).1 [ inl f ↦ absurd (none f) | inr before ↦ before ]),
      (λ s. step.1 (kept s, inr s)),
    )

pub since_same : {A : Type 0} (F K : List A → Type 0) (a : A) (log : List A) → K (a ∷ log) → (F (a ∷ log) → ⊥)
    → Since F K (a ∷ log) ↔ Since F K log
since_same F K a log k none = since_skips_act F K a log none (λ before. k)

-- If two logs agree on `F` and `K` after an act and on the search before it, they agree after it.
pub since_agrees : {A : Type 0} (F K : List A → Type 0) (a : A) (log other : List A) → F (a ∷ log) ↔ F (a ∷ other)
    → K (a ∷ log) ↔ K (a ∷ other) → Since F K log ↔ Since F K other → Since F K (a ∷ log) ↔ Since F K (a ∷ other)
since_agrees F K a log other found kept before =
    let one = since_step F K a log in
    let two = since_step F K a other in (
      (λ s. let h = one.0 s in two.1 (kept.0 h.0, elim h.1 [ inl f ↦ inl (found.0 f) | inr b ↦ inr (before.0 b) ])),
      (λ s. let h = two.0 s in one.1 (kept.1 h.0, elim h.1 [ inl f ↦ inl (found.1 f) | inr b ↦ inr (before.1 b) ])),
    )

pub since_not_kept : {A : Type 0} (F K : List A → Type 0) (a : A) (log : List A) → (K (a ∷ log) → ⊥) → Since F K (a ∷ log) → ⊥
since_not_kept F K a log ends s = ends ((since_step F K a log).0 s).0

-- Any property with this recursion is equivalent to the search.
pub since_unique : {A : Type 0} (F K P : List A → Type 0) → P [] ↔ (F [] × K [])
    → ((a : A) (log : List A) → P (a ∷ log) ↔ (K (a ∷ log) × (F (a ∷ log) ⊎ P log))) → (log : List A) → P log ↔ Since F K log
since_unique F K P empty step [] =
    ((λ (p : P []). (since_empty F K).1 (empty.0 p)), (λ (s : Since F K []). empty.1 ((since_empty F K).0 s)))
since_unique F K P empty step (a ∷ log) =
    let behind = since_unique F K P empty step log in
    let law = since_step F K a log in
    let to : F (a ∷ log) ⊎ P log → F (a ∷ log) ⊎ Since F K log = λ h. elim h [ inl f ↦ inl f | inr p ↦ inr (behind.0 p) ] in
    let from : F (a ∷ log) ⊎ Since F K log → F (a ∷ log) ⊎ P log = λ h. elim h [ inl f ↦ inl f | inr s ↦ inr (behind.1 s) ] in (
      (λ (p : P (a ∷ log)). let h = (step a log).0 p in law.1 (h.0, to h.1)),
      (λ (s : Since F K (a ∷ log)). let h = law.0 s in (step a log).1 (h.0, from h.1)),
    )

-- ---- the step that `since_unique` needs: `P` after an act, from `Q` before it

-- `K` holds after the act.
pub step_kept : {F K P Q : Type 0} → K → P ↔ (F ⊎ Q) → P ↔ (K × (F ⊎ Q))
step_kept k same = ((λ p. (k, same.0 p)), (λ h. same.1 h.1))

-- `K` holds after the act, and `F` doesn't.
pub step_same : {F K P Q : Type 0} → K → (F → ⊥) → P ↔ Q → P ↔ (K × (F ⊎ Q))
step_same k none same = ((λ p. (k, inr (same.0 p))), (λ h. elim h.1 [ inl f ↦ absurd (none f) | inr q ↦ same.1 q ]))

-- `K` doesn't hold after the act.
pub step_ended : {F K P Q : Type 0} → (K → ⊥) → (P → ⊥) → P ↔ (K × (F ⊎ Q))
step_ended ends none = ((λ p. absurd (none p)), (λ h. absurd (ends h.0)))

pub iff_transitive : {P Q R : Type 0} → P ↔ Q → Q ↔ R → P ↔ R
iff_transitive f g = ((λ p. g.0 (f.0 p)), (λ r. f.1 (g.1 r)))

-- ---- the search as a test

pub both_true : (a b : Bool) → ((a && b) ≡ true) ↔ ((a ≡ true) × (b ≡ true))
both_true true b = ((λ e. (refl, e)), (λ h. h.1))
both_true false b = ((λ e. absurd cc), (λ h. h.0))

pub either_true : (a b : Bool) → ((a || b) ≡ true) ↔ ((a ≡ true) ⊎ (b ≡ true))
either_true true b = ((λ e. inl refl), (λ h. refl))
either_true false b = ((λ e. inr e), (λ h. elim h [ inl e ↦ absurd cc | inr e ↦ e ]))

-- The test returns whether the search succeeds.
pub is_since_is : {A : Type 0} (is_find keeps : List A → Bool) (log : List A)
    → (is_since is_find keeps log ≡ true) ↔ Since (λ (place : List A). is_find place ≡ true) (λ (place : List A). keeps place ≡ true) log
is_since_is {A} is_find keeps =
    since_unique (λ (place : List A). is_find place ≡ true) (λ (place : List A). keeps place ≡ true)
    (λ (log : List A). is_since is_find keeps log ≡ true)
    ((λ e. let h = (both_true (keeps []) (is_find [])).0 e in (h.1, h.0)), (λ h. (both_true (keeps []) (is_find [])).1 (h.1, h.0)))
    (λ act log.
    let both = both_true (keeps (act ∷ log)) (is_find (act ∷ log) || is_since is_find keeps log) in
    let either = either_true (is_find (act ∷ log)) (is_since is_find keeps log) in
    ((λ e. let h = both.0 e in (h.0, either.0 h.1)), (λ h. both.1 (h.0, either.1 h.1))))
