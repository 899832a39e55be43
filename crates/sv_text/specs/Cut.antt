-- Cutting bytes at separators.
use Rattle.std.specs.Prelude.{ℕ, ◌==◌, List}
use Rattle.std.specs.List.{slice_split}

-- the parts into which the separators cut the bytes; there is one part more than there are
-- separators
abbrev pub cut_at : ℕ → List ℕ → List (List ℕ)
cut_at separator = slice_split (λ b. b == separator)
