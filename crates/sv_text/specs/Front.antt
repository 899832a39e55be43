-- Whether a text is empty, and whether it begins with a minus sign.
use Rattle.std.specs.Prelude.{ℕ, ◌==◌, Bool, true, false, List, [], ◌∷◌, slice_get}
use Rattle.std.specs.Option.{option_map_or}

-- whether the text is empty
abbrev pub is_empty : List ℕ → Bool
is_empty [] = true
is_empty (byte ∷ bytes) = false

-- whether the text begins with a minus sign
abbrev pub has_minus : List ℕ → Bool
has_minus text = option_map_or (λ b. b == 45) (slice_get text 0) false
