-- A loop builds a list from the first elements of another list, one more at a time.
use Rattle.std.proofs.Common.{◌≡◌, ℕ, ◌+◌, ◌≤◌, List, [], ◌∷◌, ◌++◌, length, take, Some, None, sym, ap, ◌∙◌, inl, inr}
use Rattle.std.specs.Prelude.{map, slice_get}
use Rattle.std.proofs.lemmas.List.{take_more, take_all, map-append}
use Rattle.std.proofs.lemmas.Option.{slice_get_within, slice_get_cases, get_or_from_slice_get}

pub one_more : {A B : Type 0} (f : A → B) (xs : List A) (n : ℕ) (x : A) (found more : List B) → slice_get xs n ≡ Some x
    → more ≡ found ++ f x ∷ [] → found ≡ map f (take n xs) → more ≡ map f (take (n + 1) xs)
one_more {A} {B} f xs n x found more at new is =
    let longer : take (n + 1) xs ≡ take n xs ++ x ∷ [] = take_more xs n x (slice_get_within xs n x at)
    ∙ ap (λ (y : A). take n xs ++ y ∷ []) (get_or_from_slice_get xs n x x at) in
    new ∙ ap (λ (ys : List B). ys ++ f x ∷ []) is ∙ sym (map-append f (take n xs) (x ∷ []))
    ∙ ap (λ (ys : List A). map f ys) (sym longer)

pub all_found : {A B : Type 0} (f : A → B) (xs : List A) (n : ℕ) (found : List B) → length xs ≤ n → found ≡ map f (take n xs)
    → found ≡ map f xs
all_found {A} f xs n found le is = is ∙ ap (λ (ys : List A). map f ys) (take_all n xs le)

pub past_end : {A : Type 0} (xs : List A) (n : ℕ) → slice_get xs n ≡ None → length xs ≤ n
past_end xs n none = elim ((slice_get_cases xs n).1) [
  | inl w ↦ absurd (let z : None ≡ Some w.0 = sym none ∙ w.2 in cc)
  | inr w ↦ w.0
]
