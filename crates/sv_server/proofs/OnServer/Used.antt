-- How many connections were used, after acts of a connection or of the device.
use Rattle.std.proofs.Common.{◌≡◌, ◌≢◌, ℕ, suc, ◌+◌, ◌<◌, ◌≤◌, true, false, List, [], ◌∷◌, ◌++◌, sym, ap, subst, ◌∙◌, arith, inl, inr, Some}
use Rattle.std.specs.Prelude.{not, max, nat_lt}
use Rattle.std.proofs.lemmas.Bool.{cases_eq, or_right}
use Rattle.sv_history.specs.Act.{Act, ConnAct, On, of}
use Rattle.sv_history.specs.Connection.{is_open, pending_call}
use Rattle.sv_history.specs.History.{is_shut}
use Rattle.sv_history.specs.Queries.{IsUsed}
use Rattle.sv_history.proofs.Projections.{of_own_act, of_other_act}

-- A connection with a pending call has acts.
pub unanswered_used : (acts : List ConnAct) (call : List ℕ) → pending_call acts ≡ Some call → acts ≢ []
unanswered_used [] call known none = absurd cc
unanswered_used (act ∷ acts) call known none = absurd cc

pub unshut_used : (c : ℕ) (log : List Act) → is_shut c log ≡ false → of c log ≢ []
unshut_used c log unshut none =
    let shut : is_shut c log ≡ true = or_right (nat_lt 15 c) (not (is_open (of c log))) (ap (λ (l : List ConnAct). not (is_open l)) none) in
    let z : true ≡ false = sym shut ∙ unshut in absurd cc

pub nonempty_with_front : (front acts : List ConnAct) → acts ≢ [] → front ++ acts ≢ []
nonempty_with_front [] acts some none = some none
nonempty_with_front (act ∷ front) acts some none = absurd cc

-- A connection acts that was used before.
pub used_after_act : (n c : ℕ) (log new : List Act) → IsUsed n log → of c log ≢ [] → of c new ≢ []
    → ((d : ℕ) → d ≢ c → of d new ≡ of d log) → IsUsed n new
used_after_act n c log new (none, some) there still others = (
  λ d above. elim (cases_eq d c) [
    | inl e ↦ absurd (there (subst (λ (k : ℕ). of k log ≡ []) e (none d above)))
    | inr ne ↦ others d ne ∙ none d above
  ],
  λ d is. elim (cases_eq d c) [
    | inl e ↦ subst (λ (k : ℕ). of k new ≢ []) (sym e) still
    | inr ne ↦ λ z. some d is (sym (others d ne) ∙ z)
  ],
)

pub used_act : (n c : ℕ) (act : ConnAct) (log : List Act) → IsUsed n log → of c log ≢ [] → IsUsed n (On c act ∷ log)
used_act n c act log connections_used there = used_after_act n c log (On c act ∷ log) connections_used there
    (λ z. let e : act ∷ of c log ≡ [] = sym (of_own_act c act log) ∙ z in absurd cc) (λ d ne. of_other_act c d act log ne)

-- No connection acts.
pub used_same : (n : ℕ) (log new : List Act) → IsUsed n log → ((d : ℕ) → of d new ≡ of d log) → IsUsed n new
used_same n log new (none, some) same = ((λ d above. same d ∙ none d above), (λ d is z. some d is (sym (same d) ∙ z)))

-- A connection opens.
next_of : (n c m d : ℕ) → m ≡ max n (c + 1) → m ≡ suc d → d ≢ c → n ≡ suc d
next_of n c m d most is ne = grind (arith, most, is, ne)

above_of : (n c m d : ℕ) → m ≡ max n (c + 1) → m ≤ d → (n ≤ d) × (c < d)
above_of n c m d most above = (grind (arith, most, above), grind (arith, most, above))

pub used_opened : (n c m : ℕ) (act : ConnAct) (log : List Act) → m ≡ max n (c + 1) → IsUsed n log → IsUsed m (On c act ∷ log)
used_opened n c m act log most (none, some) = (
  λ d above.
      let (low, past) = above_of n c m d most above in
      of_other_act c d act log (λ e. absurd (omega (arith, e, past))) ∙ none d low,
  λ d is. elim (cases_eq d c) [
    | inl e ↦ λ z. let w : act ∷ of c log ≡ [] = sym (of_own_act c act log) ∙ subst (λ (k : ℕ). of k (On c act ∷ log) ≡ []) e z in absurd cc
    | inr ne ↦ λ z. some d (next_of n c m d most is ne) (sym (of_other_act c d act log ne) ∙ z)
  ],
)
