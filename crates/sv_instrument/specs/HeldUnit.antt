-- A held unit: a unit that began, but can end only when no measurement is under way. These are
-- `*WAI`, `*OPC?`, `READ?` and `MEASure?` (IEEE 488.2, 12.5).
use Rattle.std.specs.Prelude.{List, [], ◌∷◌, Option, Some, None}
use Rattle.sv_exchange.specs.Exchange.{UnitDone, TextDropped}
use Rattle.sv_layers.specs.declared.change.Awaited.{Awaited}
use Rattle.sv_layers.specs.Act.{Act, Exchanged, Purged, Held}

-- what the held unit will answer when the measurement ends; `None` if no unit is held. A unit is
-- held until it is done or the program text is dropped.
abbrev pub held_unit : List Act → Option Awaited
held_unit [] = None
held_unit (Held awaited ∷ log) = Some awaited
held_unit (Exchanged UnitDone ∷ log) = None
held_unit (Exchanged TextDropped ∷ log) = None
held_unit (Purged ∷ log) = None
held_unit (_ ∷ log) = held_unit log
