-- The meaning of a line of a replay, defined as a relation between the line's bytes and the
-- meaning.
use Rattle.std.specs.Prelude.{◌≡◌, ◌≢◌, ◌⊎◌, ℕ, ◌+◌, ◌-◌, ◌*◌, ◌<◌, ◌≤◌, ℤ, pos, negsuc, Bool, true, false, List, [], ◌∷◌, ◌++◌, length, codes, fold}
use Rattle.std.specs.List.{AllByRecursion}
use Rattle.sv_history.specs.declared.event.Role.{Role}
use Rattle.sv_history.specs.declared.event.Role.TheVariants.{Core, Abort, Portmap}
use Rattle.sv_history.specs.declared.event.Port.TheVariants.{Conn, Intr}
use Rattle.sv_history.specs.Event.{PlainEvent, Open, Bytes, Turn, Refuse, Took, Close, Dialed, Input, External, Tick}

-- the meaning of a line: nothing, one event, or a number of ticks
pub data Line : Type 0 where
  Blank : Line
  One : PlainEvent → Line
  Ticks : ℕ → Line

-- the value of decimal digits
abbrev pub value_of : List ℕ → ℕ
value_of digits = fold (λ n digit. 10 * n + (digit - 48)) 0 digits

-- The text is one or more decimal digits, and their value is `n`.
abbrev pub IsNumber : List ℕ → ℕ → Type 0
IsNumber digits n = (digits ≢ []) × AllByRecursion (λ digit. (48 ≤ digit) × (digit ≤ 57)) digits × (n ≡ value_of digits)

-- The digits have no leading zero: the first of several digits isn't a zero.
abbrev pub HasNoLeadingZero : List ℕ → Type 0
HasNoLeadingZero (digit ∷ other ∷ digits) = digit ≢ 48
HasNoLeadingZero digits = Unit {0}

-- The digits are the number `n` without leading zeros, and `n` is at most `most`.
abbrev pub IsPlain : ℕ → List ℕ → ℕ → Type 0
IsPlain most digits n = IsNumber digits n × HasNoLeadingZero digits × (n ≤ most)

-- The character is a hexadecimal digit, in either case, whose value is `n`.
abbrev pub IsHexDigit : ℕ → ℕ → Type 0
IsHexDigit digit n = (n < 16) × (((n < 10) × (digit ≡ n + 48)) ⊎ (((10 ≤ n) × (digit ≡ n + 55)) ⊎ ((10 ≤ n) × (digit ≡ n + 87))))

-- The characters are two hexadecimal digits, and `byte` is their value.
abbrev pub IsPair : ℕ → ℕ → ℕ → Type 0
IsPair high low byte = (h l : ℕ) × IsHexDigit high h × IsHexDigit low l × (byte ≡ 16 * h + l)

-- The text is one or more bytes, each written as two hexadecimal digits, with at most one space
-- between two bytes.
abbrev pub IsHex : List ℕ → List ℕ → Type 0
IsHex text [] = ⊥
IsHex text (byte ∷ []) = (high low : ℕ) × IsPair high low byte × (text ≡ high ∷ low ∷ [])
IsHex text (byte ∷ other ∷ bytes) = (high low : ℕ) × (rest : List ℕ) × IsPair high low byte × IsHex rest (other ∷ bytes)
    × ((text ≡ high ∷ low ∷ rest) ⊎ (text ≡ high ∷ low ∷ 32 ∷ rest))

-- The text is a voltage in microvolts: 1 to 18 digits, with a minus sign before them if the voltage
-- is below zero. The digits may begin with zeros, and zero may have a minus sign.
abbrev pub IsVoltage : List ℕ → ℤ → Type 0
IsVoltage text (pos n) = (digits : List ℕ) × IsNumber digits n × (length digits ≤ 18) × ((text ≡ digits) ⊎ ((n ≡ 0) × (text ≡ 45 ∷ digits)))
IsVoltage text (negsuc n) = (digits : List ℕ) × IsNumber digits (n + 1) × (length digits ≤ 18) × (text ≡ 45 ∷ digits)

-- the word that a line uses for a role
abbrev pub role_word : Role → List ℕ
role_word Core = codes "core"
role_word Abort = codes "abort"
role_word Portmap = codes "portmap"

-- the word that a line uses for the result of connecting an interrupt channel
abbrev pub ok_word : Bool → List ℕ
ok_word true = codes "ok"
ok_word false = codes "failed"

-- The line describes this event. Between two words of a line there is one space.
abbrev pub SaysEvent : List ℕ → PlainEvent → Type 0
SaysEvent line (Open c role) = (number : List ℕ) × IsPlain 255 number c × (line ≡ codes "open " ++ (number ++ 32 ∷ role_word role))
SaysEvent line (Bytes c piece) = (number hex : List ℕ) × IsPlain 255 number c × IsHex hex piece
    × (line ≡ codes "bytes " ++ (number ++ 32 ∷ hex))
SaysEvent line (Turn c) = (number : List ℕ) × IsPlain 255 number c × (line ≡ codes "turn " ++ number)
SaysEvent line (Refuse c) = (number : List ℕ) × IsPlain 255 number c × (line ≡ codes "refuse " ++ number)
SaysEvent line (Took port count) = ⊥
SaysEvent line (Close (Conn c)) = (number : List ℕ) × IsPlain 255 number c × (line ≡ codes "close c" ++ number)
SaysEvent line (Close (Intr c)) = (number : List ℕ) × IsPlain 255 number c × (line ≡ codes "close i" ++ number)
SaysEvent line (Dialed c ok) = (number : List ℕ) × IsPlain 255 number c × (line ≡ codes "dialed " ++ (number ++ 32 ∷ ok_word ok))
SaysEvent line (Input channel microvolts) = (number voltage : List ℕ) × IsPlain 255 number channel × IsVoltage voltage microvolts
    × (line ≡ codes "input " ++ (number ++ 32 ∷ voltage))
SaysEvent line External = line ≡ codes "external"
SaysEvent line Tick = line ≡ codes "tick"

-- The line has this meaning: nothing, one event, or a number of ticks.
abbrev pub Says : List ℕ → Line → Type 0
Says line Blank = line ≡ []
Says line (One event) = SaysEvent line event
Says line (Ticks n) = (number : List ℕ) × IsPlain 1000000 number n × (0 < n) × (line ≡ codes "tick " ++ number)
