-- Facts about lists, options and truth values.
use Rattle.std.proofs.Common.{◌≡◌, List, [], ◌∷◌, ◌++◌, Bool, true, false, Option, Some, None, sym, subst, ◌∙◌}
use Rattle.std.specs.List.{AllByRecursion}

pub some_injective : {A : Type 0} (a b : A) → Some a ≡ Some b → a ≡ b
some_injective a b e = cc

-- Nothing is both `None` and `Some`.
pub none_is_not_some : {A B : Type 0} (found : Option B) (b : B) → found ≡ None → found ≡ Some b → A
none_is_not_some {A} {B} found b none some = absurd (let z : None ≡ Some b = sym none ∙ some in cc)

-- Nothing is both true and false.
pub true_is_not_false : {A : Type 0} (b : Bool) → b ≡ true → b ≡ false → A
true_is_not_false {A} b on off = absurd (let z : true ≡ false = sym on ∙ off in cc)

-- What holds of all elements of two lists holds of all elements of one after the other.
pub all_append : {A : Type 0} (P : A → Type 0) (a b : List A) → AllByRecursion P a → AllByRecursion P b → AllByRecursion P (a ++ b)
all_append P [] b h k = k
all_append P (x ∷ a) b h k = (h.0, all_append P a b h.1 k)

-- A relation that holds of two values holds of values that are equal to them.
pub relation_of_equals : {A : Type 0} (AreSo : A → A → Type 0) (one two a b : A) → a ≡ one → b ≡ two → AreSo one two → AreSo a b
relation_of_equals {A} AreSo one two a b x y v = subst (λ (l : A). AreSo l b) (sym x) (subst (λ (l : A). AreSo one l) (sym y) v)
