-- How many requests for service are raised between two logs.
use Rattle.std.specs.Prelude.{◌≡◌, ◌↔◌, ℕ, ◌+◌, Bool, true, List, [], ◌∷◌, ◌++◌}
use Rattle.sv_scan.specs.Condition.{bit}
use Rattle.sv_layers.specs.Act.{Act}
use Rattle.sv_layers.specs.StatusByte.{IsRaised}

-- Of these acts, which came after the log, `count` acts raise a request for service.
abbrev pub Raise : List Act → List Act → ℕ → Type 0
Raise [] log count = count ≡ 0
Raise (act ∷ acts) log count = (raised : Bool) × (before : ℕ) × ((raised ≡ true) ↔ IsRaised (act ∷ (acts ++ log))) × Raise acts log before
    × (count ≡ before + bit 0 raised)

-- Between `log` and `new`, `count` requests for service were raised.
pub record Raises (log new : List Act) (count : ℕ) : Type 0 where
  pub acts : List Act
  pub new_is : new ≡ acts ++ log
  pub count_is : Raise acts log count
