-- The place of a unit in its message.
use Rattle.std.specs.Prelude.{◌≡◌, ℕ, List, ◌++◌, length, take}
use Rattle.sv_exchange.specs.Exchange.{ExchangeAct, current, message, units, units_done}

-- The unit follows so many bytes of the current message: these bytes have exactly the units that
-- were executed.
abbrev pub IsPlaceOf : ℕ → List ℕ → List ExchangeAct → Type 0
IsPlaceOf place unit acts = (before after : List ℕ) × (message acts ≡ before ++ (unit ++ after)) × (place ≡ length before)
    × (units before ≡ take (units_done (current acts)) (units (message acts)))
