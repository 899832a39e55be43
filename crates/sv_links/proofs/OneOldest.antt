-- Of the suspended calls that have a given property, at most one is the oldest.
use Rattle.std.proofs.Common.{◌≡◌, ℕ, eqb, List, [], ◌∷◌, length, Option, Some, None, refl, sym, ap, ◌∙◌, arith, inl, inr, suc}
use Rattle.std.proofs.lemmas.Bool.{cases_Bool, eqb-true}
use Rattle.sv_links.specs.Waiting.{WaitAct, Entered, Again, Left, waits, arrival, enters, IsOldest}
use Rattle.sv_links.proofs.Queues.{newest_le}

-- No two calls were suspended by the same act.
arrival_unique : (acts : List WaitAct) (c d : ℕ) → (arrival c acts ≡ 0 → ⊥) → arrival c acts ≡ arrival d acts → c ≡ d
arrival_unique [] c d came same = absurd (came refl)
arrival_unique (Again conn wait last ∷ acts) c d came same = arrival_unique acts c d came same
arrival_unique (Left conn ∷ acts) c d came same = arrival_unique acts c d came same
arrival_unique (Entered conn link wait last ∷ acts) c d came same = elim (cases_Bool (eqb conn c)) [
  | inl e ↦ elim (cases_Bool (eqb conn d)) [
    | inl k ↦ sym (eqb-true conn c e) ∙ eqb-true conn d k
    | inr k ↦ let same : suc (length acts) ≡ arrival d acts = rw (e, k) at same in
        absurd (omega (arith, same, newest_le (enters d) acts))
  ]
  | inr e ↦ elim (cases_Bool (eqb conn d)) [
    | inl k ↦ let same : arrival c acts ≡ suc (length acts) = rw (e, k) at same in
        absurd (omega (arith, same, newest_le (enters c) acts))
    | inr k ↦ arrival_unique acts c d (rw e at came) (rw (e, k) at same)
  ]
]

one : (acts : List WaitAct) (IsSuch : ℕ → Type 0) (a b : Option ℕ)
    → ((c d : ℕ) → IsSuch c → IsSuch d → arrival c acts ≡ arrival d acts → c ≡ d) → IsOldest acts IsSuch a → IsOldest acts IsSuch b → a ≡ b
one acts IsSuch None None same h k = refl
one acts IsSuch None (Some d) same h k = absurd (h d k.0)
one acts IsSuch (Some c) None same h k = absurd (k c h.0)
one acts IsSuch (Some c) (Some d) same h k = ap Some (same c d h.0 k.0 (omega (arith, h.1 d k.0, k.1 c h.0)))

-- A suspended call was suspended by an act.
suspended_has_arrival : (c : ℕ) (acts : List WaitAct) → (waits c acts ≡ None → ⊥) → arrival c acts ≡ 0 → ⊥
suspended_has_arrival c [] does = λ e. does refl
suspended_has_arrival c (Entered conn link wait last ∷ acts) does = elim (cases_Bool (eqb conn c)) [
  | inl e ↦ rw e (λ none. omega (arith, none))
  | inr e ↦ rw e (suspended_has_arrival c acts (rw e at does))
]
suspended_has_arrival c (Again conn wait last ∷ acts) does = elim (cases_Bool (eqb conn c)) [
  | inl e ↦ suspended_has_arrival c acts (λ none. (rw (e, none) at does) refl)
  | inr e ↦ suspended_has_arrival c acts (rw e at does)
]
suspended_has_arrival c (Left conn ∷ acts) does = elim (cases_Bool (eqb conn c)) [
  | inl e ↦ absurd ((rw e at does) refl)
  | inr e ↦ suspended_has_arrival c acts (rw e at does)
]

-- If only suspended calls have the property, at most one of them is the oldest.
pub oldest_unique : (acts : List WaitAct) (IsSuch : ℕ → Type 0) (a b : Option ℕ) → ((c : ℕ) → IsSuch c → waits c acts ≡ None → ⊥)
    → IsOldest acts IsSuch a → IsOldest acts IsSuch b → a ≡ b
oldest_unique acts IsSuch a b does h k = one acts IsSuch a b
    (λ c d x y same. arrival_unique acts c d (suspended_has_arrival c acts (does c x)) same) h k
