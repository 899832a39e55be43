-- How a voltage is printed.
use Rattle.std.specs.Prelude.{◌≡◌, ℕ, ◌-◌, ◌/◌, ◌%◌, ◌≤◌, ℤ, pos, negsuc, List, ◌∷◌, ◌++◌, length, replicate, decimal, unsigned_abs, Ok}
use Rattle.sv_lexer.specs.Token.{kind_of}
use Rattle.sv_value.specs.Value.{read_voltage}

-- the sign of a voltage: 0 has a plus
abbrev pub sign : ℤ → ℕ
sign (pos n) = 43
sign (negsuc n) = 45

-- a number in decimal, with leading zeros if it has fewer than six digits
abbrev pub six_digits : ℕ → List ℕ
six_digits n = replicate (6 - length (decimal n)) 48 ++ decimal n

-- a voltage in microvolts as text: a sign, whole volts, a point, and six digits
abbrev pub voltage_text : ℤ → List ℕ
voltage_text value = sign value ∷ (decimal (unsigned_abs value / 1000000) ++ 46 ∷ six_digits (unsigned_abs value % 1000000))

-- If a voltage of at most 1,000 V in magnitude is printed, and the text is read as a parameter, the
-- result is the same voltage.
abbrev pub PrintedIsRead : Type 0
PrintedIsRead = (value : ℤ) → unsigned_abs value ≤ 1000000000 → read_voltage (kind_of (voltage_text value)) (voltage_text value) ≡ Ok value
