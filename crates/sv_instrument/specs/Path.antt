-- The path for the next unit of a message (SCPI-1999, volume 1, 6.2.4). It results from the units
-- that began: each unit is read relative to the path that the units before it leave.
use Rattle.std.specs.Prelude.{◌≡◌, ℕ, ◌+◌, List, [], ◌∷◌, Option, Some, None, Result, take, reverse}
use Rattle.sv_errors.specs.declared.code.Code.{Code}
use Rattle.sv_exchange.specs.Exchange.{units, message, units_done, current}
use Rattle.sv_instrument.specs.declared.command.order.Order.{Order}
use Rattle.sv_instrument.specs.Command.Unit.{IsReadAs}
use Rattle.sv_layers.specs.declared.change.Awaited.{Awaited}
use Rattle.sv_layers.specs.Act.{Act, exchange_acts}
use Rattle.sv_instrument.specs.HeldUnit.{held_unit}

-- These units, read one after the other, leave this path. The list has the last unit first.
abbrev pub Leaves : List (List ℕ) → List (List ℕ) → Type 0
Leaves [] path = path ≡ []
Leaves (unit ∷ before) path =
    (front : List (List ℕ)) × (outcome : Result Order Code) × Leaves before front × IsReadAs front unit outcome path

-- 1 if a unit is held, else 0
abbrev pub one_if_held : Option Awaited → ℕ
one_if_held None = 0
one_if_held (Some awaited) = 1

-- how many units of the current message began: the units that are done, and the held unit, if there
-- is one
abbrev pub units_begun : List Act → ℕ
units_begun log = units_done (current (exchange_acts log)) + one_if_held (held_unit log)

-- Those units of the current message that have begun leave this path.
abbrev pub IsPath : List Act → List (List ℕ) → Type 0
IsPath log path = Leaves (reverse (take (units_begun log) (units (message (exchange_acts log))))) path
