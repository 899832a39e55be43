-- Comparing each text of a list with a wanted text decides whether the list contains it.
use Rattle.std.proofs.Common.{◌≡◌, subst, refl, true, ℕ, ◌<◌, List, length, Decides, slice_index_or}
use Rattle.std.specs.List.{Any, Contains, list_any}
use Rattle.std.specs.Str.{bytes_eq}
use Rattle.std.proofs.lemmas.List.Folds.{Any-from_list_any, list_any-from_Any}
use Rattle.std.proofs.lemmas.Slice.Eq.{bytes_eq-Decides}
use Rattle.clap.specs.Words.{Text}

contains_equal_text : (wanted : Text) (texts : List Text) → Any (λ text. bytes_eq text wanted ≡ true) texts → Contains texts wanted
contains_equal_text wanted texts (k, text, short, at, same) =
    subst (λ t. (k : ℕ) × (k < length texts) × (slice_index_or texts k t ≡ t)) ((bytes_eq-Decides text wanted).0 same) (k, short, at)

pub decides_contains : (wanted : Text) (texts : List Text) → Decides (list_any (λ text. bytes_eq text wanted) texts) (Contains texts wanted)
decides_contains wanted texts = (
  λ e. contains_equal_text wanted texts (Any-from_list_any _ texts e),
  λ is. list_any-from_Any _ texts (is.0, wanted, is.1, is.2, (bytes_eq-Decides wanted wanted).1 refl),
)
