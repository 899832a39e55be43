-- White space (IEEE 488.2, 7.4.1.2), and text without white space at its ends.
use Rattle.std.specs.Prelude.{ℕ, ◌==◌, Bool, not, ◌&&◌, List, [], ◌∷◌, reverse, nat_lt, if◌then◌else◌}

-- whether a byte is white space: 0 to 9 and 11 to 32
abbrev pub is_white : ℕ → Bool
is_white b = nat_lt b 33 && not (b == 10)

-- the bytes without white space in front
abbrev pub trim_start : List ℕ → List ℕ
trim_start [] = []
trim_start (b ∷ bytes) = if is_white b then trim_start bytes else b ∷ bytes

-- the bytes without white space at the end
abbrev pub trim_end : List ℕ → List ℕ
trim_end bytes = reverse (trim_start (reverse bytes))

-- the bytes without white space at both ends
abbrev pub trim : List ℕ → List ℕ
trim bytes = trim_end (trim_start bytes)
