-- The order of the tokens of a unit.
use Rattle.std.specs.Prelude.{ℕ, ◌+◌, ◌<◌, ◌≤◌, List, length}
use Rattle.sv_lexer.specs.Unit.{header, header_place}
use Rattle.sv_lexer.specs.Parameters.{count, parameter, parameter_place}

-- Each parameter of a unit begins after the header. It also begins after each parameter with a
-- lower index, with at least one byte (the comma) between the two.
abbrev pub InOrder : Type 0
InOrder = ((unit : List ℕ) (index : ℕ) → header_place unit + length (header unit) ≤ parameter_place unit index)
    × ((unit : List ℕ) (first second : ℕ) → first < second → second < count unit
    → parameter_place unit first + length (parameter unit first) < parameter_place unit second)
