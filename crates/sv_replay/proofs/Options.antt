-- How to reason from an optional result back to what it was computed from.
use Rattle.std.proofs.Common.{◌≡◌, ℕ, Bool, true, false, cond, List, Option, Some, None, option_map, refl, sym, ◌∙◌, inl, inr}
use Rattle.std.specs.Prelude.{bytes_eq}
use Rattle.std.proofs.lemmas.Bool.{cases_Bool, cond-true, cond-false}
use Rattle.std.proofs.lemmas.Option.{none-some, same_Some}
use Rattle.std.proofs.lemmas.Slice.Eq.{bytes_eq-Decides}

-- A value of a mapped option comes from a value of the option.
pub from_mapped_some : {A B P : Type 0} (f : A → B) (o : Option A) (y : B) → option_map f o ≡ Some y → ((x : A) → o ≡ Some x → f x ≡ y → P)
    → P
from_mapped_some f None y e then = absurd (none-some y e)
from_mapped_some f (Some x) y e then = then x refl (same_Some (f x) y e)

-- The result of a test comes from one of its two branches.
pub from_cond : {A P : Type 0} (b : Bool) (x y z : A) → cond b x y ≡ z → (b ≡ true → x ≡ z → P) → (b ≡ false → y ≡ z → P) → P
from_cond b x y z e same other = elim (cases_Bool b) [
  | inl is ↦ same is (sym (cond-true b x y is) ∙ e)
  | inr not ↦ other not (sym (cond-false b x y not) ∙ e)
]

-- The result of a comparison with a word comes from one of its two branches.
pub from_word_match : {A P : Type 0} (word w : List ℕ) (x y z : A) → cond (bytes_eq word w) x y ≡ z → (word ≡ w → x ≡ z → P) → (y ≡ z → P)
    → P
from_word_match word w x y z e same other = from_cond (bytes_eq word w) x y z e (λ is. same ((bytes_eq-Decides word w).0 is)) (λ not. other)
