-- Equivalences of statements of the form "A or B": replacing one side, and reordering.
use Rattle.std.proofs.Common.{◌≡◌, Bool, true, ◌∙◌, sym, ◌⊎◌, inl, inr, arith}
use Rattle.std.specs.Prelude.{◌↔◌}

pub iff_refl : {P : Type 0} → P ↔ P
iff_refl = ((λ p. p), (λ p. p))

pub either_congruent : {P A B Q R : Type 0} → P ↔ (A ⊎ Q) → A ↔ B → Q ↔ R → P ↔ (B ⊎ R)
either_congruent law a q = (
  (λ p. elim (law.0 p) [ inl x ↦ inl (a.0 x) | inr y ↦ inr (q.0 y) ]),
  (λ h. law.1 (elim h [ inl x ↦ inl (a.1 x) | inr y ↦ inr (q.1 y) ])),
)

pub both_congruent : {A P Q : Type 0} → P ↔ Q → (A × P) ↔ (A × Q)
both_congruent same = ((λ h. (h.0, same.0 h.1)), (λ h. (h.0, same.1 h.1)))

pub iff_from_equal : (a b : Bool) → a ≡ b → (a ≡ true) ↔ (b ≡ true)
iff_from_equal a b same = ((λ e. sym same ∙ e), (λ e. same ∙ e))

pub four_reordered : {A B C Q R S T : Type 0} → T ↔ (C ⊎ S) → S ↔ (B ⊎ R) → R ↔ (A ⊎ Q) → T ↔ ((A ⊎ B ⊎ C) ⊎ Q)
four_reordered t s r = ((λ h. grind (arith, t.0, s.0, r.0, h)), (λ h. grind (arith, t.1, s.1, r.1, h)))
