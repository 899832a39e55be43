-- A list of what is told of the connections, of which one entry is set.
use Rattle.std.specs.Prelude.{◌≡◌, ◌≢◌, ℕ, ◌+◌, max, List, length, slice_index_or}
use Rattle.sv_explain.specs.declared.shown.ConnShown.{ConnShown}
use Rattle.sv_explain.specs.Shown.{never_opened}

-- The list `new` tells this of connection `c`, and of the others what `old` tells.
abbrev pub IsPut : ℕ → ConnShown → List ConnShown → List ConnShown → Type 0
IsPut c shown old new = (slice_index_or new c never_opened ≡ shown)
    × ((other : ℕ) → other ≢ c → slice_index_or new other never_opened ≡ slice_index_or old other never_opened)
    × (length new ≡ max (length old) (c + 1))
