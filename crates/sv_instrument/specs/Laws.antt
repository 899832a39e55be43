-- Laws of how units are read, and of the steps of the instrument.
use Rattle.std.specs.Prelude.{◌≡◌, ℕ, List, Result}
use Rattle.sv_errors.specs.declared.code.Code.{Code}
use Rattle.sv_layers.specs.Act.{Act}
use Rattle.sv_instrument.specs.declared.command.order.Order.{Order}
use Rattle.sv_instrument.specs.Command.Unit.{IsReadAs}
use Rattle.sv_instrument.specs.Step.{IsStep}

-- A unit can be read relative to a path in only one way: as one order or one error, and with one
-- path for the next unit.
abbrev pub OneReading : Type 0
OneReading = (path : List (List ℕ)) (unit : List ℕ) (a b : Result Order Code) (p q : List (List ℕ)) → IsReadAs path unit a p
    → IsReadAs path unit b q → (a ≡ b) × (p ≡ q)

-- After each log at most one step of message exchange is due, and it leads to only one log.
abbrev pub OneStep : Type 0
OneStep = (log a b : List Act) → IsStep log a → IsStep log b → a ≡ b
