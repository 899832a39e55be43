-- Types of the code in sv_value, as plain data.
use Rattle.std.specs.Prelude.{◌≡◌, ℕ, ℤ, min, List, Option, Some, None, Result, Ok, if◌then◌else◌}
use Rattle.sv_errors.specs.declared.code.Code.{Code}
use Rattle.sv_value.specs.declared.amount.Amount.{Amount}
use Rattle.sv_value.specs.declared.decimal.Decimal.{Decimal}
use Rattle.sv_value.specs.declared.channels.Span.{Span}
use Rattle.sv_value.specs.Channels.{Span as Ends, is_number, number}
use Rattle.sv_value.specs.Decimal.{Parts}
use Rattle.sv_value.specs.Number.{signed}

-- a `Decimal` of the code, as the parts of a number
abbrev pub plain : Decimal → Parts
plain number = record {
  negative = number.negative;
  whole = number.whole.now;
  fraction = number.fraction.now;
  down = number.down;
  exponent = number.exponent.now;
  suffix = number.suffix.now;
}

-- `answer` is a number and not an error, and `amount` represents this number: `amount` has the
-- number's sign, and the number's magnitude, capped at 10 ^ 18.
abbrev pub StandsFor : Amount → Result ℤ Code → Type 0
StandsFor amount answer = (magnitude : ℕ) × (answer ≡ Ok (signed amount.negative magnitude))
    × (amount.magnitude ≡ min magnitude 1000000000000000000)

-- the value of a number in a channel list, capped at 10 ^ 18; `None` if the text isn't a number
abbrev pub number_up_to : List ℕ → Option ℕ
number_up_to text = if is_number text then Some (min (number text) 1000000000000000000) else None

-- the first and the last number of an item of a channel list, each capped at 10 ^ 18; `None` if the
-- text wasn't an item
abbrev pub ends_up_to : Option Ends → Option Span
ends_up_to None = None
ends_up_to (Some ends) = Some (record { first = min ends.first 1000000000000000000; last = min ends.last 1000000000000000000 })
