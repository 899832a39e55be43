-- The function that reads a line of a replay from left to right. The comment over each of its parts
-- says what the part reads. For any other text the part returns `None`.
use Rattle.std.specs.Prelude.{ℕ, ◌+◌, ◌-◌, ◌*◌, ℤ, pos, neg_ℤ, Bool, true, false, ◌&&◌, List, [], ◌∷◌, length, drop, codes, Option, Some, None, option_and_then, option_map, nat_le, nat_lt, ◌==◌, if◌then◌else◌}
use Rattle.sv_text.specs.Front.{has_minus}
use Rattle.std.specs.Char.{is_ascii_digit}
use Rattle.std.specs.Str.{bytes_eq}
use Rattle.sv_history.specs.declared.event.Role.{Role}
use Rattle.sv_history.specs.declared.event.Role.TheVariants.{Core, Abort, Portmap}
use Rattle.sv_history.specs.declared.event.Port.{Port}
use Rattle.sv_history.specs.declared.event.Port.TheVariants.{Conn, Intr}
use Rattle.sv_history.specs.Event.{PlainEvent, Open, Bytes, Turn, Refuse, Close, Dialed, Input, External, Tick}
use Rattle.sv_replay.specs.Line.{Line, Blank, One, Ticks}

-- reads a part of a line, and then a second part, which may depend on the value of the first part;
-- `None` if either part can't be read
infixl 10 ◌>>=◌
abbrev pub ◌>>=◌ : {A B : Type 0} → Option A → (A → Option B) → Option B
o >>= f = option_and_then f o

-- the number whose decimal digits are those of `n` and then these characters; `None` if it is above
-- `most`, or if one of the characters isn't a digit
unfoldable pub digits_onto : ℕ → ℕ → List ℕ → Option ℕ
digits_onto most n [] = Some n
digits_onto most n (digit ∷ digits) =
    if is_ascii_digit digit
    then (if nat_lt most (10 * n + (digit - 48)) then None else digits_onto most (10 * n + (digit - 48)) digits)
    else None

-- the value of a text of one or more decimal digits, if the value is at most `most`
unfoldable pub number_at : ℕ → List ℕ → Option ℕ
number_at most [] = None
number_at most (digit ∷ digits) = digits_onto most 0 (digit ∷ digits)

-- whether there are at least two digits, and the first is a zero
abbrev pub has_leading_zero : List ℕ → Bool
has_leading_zero [] = false
has_leading_zero (digit ∷ []) = false
has_leading_zero (digit ∷ other ∷ digits) = digit == 48

-- a number without leading zeros, if it is at most `most`
unfoldable pub plain_at : ℕ → List ℕ → Option ℕ
plain_at most digits = if has_leading_zero digits then None else number_at most digits

-- a number of at most 18 digits
unfoldable pub short_at : List ℕ → Option ℕ
short_at digits = if nat_lt 18 (length digits) then None else number_at 999999999999999999 digits

-- a voltage, with its sign
unfoldable pub voltage_at : List ℕ → Option ℤ
voltage_at text =
    if has_minus text then option_map (λ n. neg_ℤ (pos n)) (short_at (drop 1 text)) else option_map pos (short_at text)

-- the value of a hexadecimal digit
unfoldable pub hex_digit_at : ℕ → Option ℕ
hex_digit_at digit =
    if nat_le 48 digit && nat_le digit 57 then Some (digit - 48)
    else (if nat_le 65 digit && nat_le digit 70 then Some (digit - 55)
    else (if nat_le 97 digit && nat_le digit 102 then Some (digit - 87) else None))

-- the byte that two hexadecimal digits stand for
unfoldable pub pair_at : ℕ → ℕ → Option ℕ
pair_at high low = do
  h ← hex_digit_at high
  l ← hex_digit_at low
  Some (16 * h + l)

-- the text without its first character, if that character is a space; else the whole text
abbrev pub after_space : List ℕ → List ℕ
after_space [] = []
after_space (byte ∷ bytes) = if byte == 32 then bytes else (byte ∷ bytes)

-- bytes, written as two hexadecimal digits each, with at most one space between two bytes
unfoldable pub hex_at : List ℕ → Option (List ℕ)
hex_at [] = None
hex_at (high ∷ []) = None
hex_at (high ∷ low ∷ []) = pair_at high low >>= (λ byte. Some (byte ∷ []))
hex_at (high ∷ low ∷ next ∷ rest) =
    pair_at high low >>= (λ byte. option_map (λ bytes. byte ∷ bytes) (if next == 32 then hex_at rest else hex_at (next ∷ rest)))

-- the text before the first space, and the text after it; `None` if there is no space
unfoldable pub cut_at : List ℕ → Option (List ℕ × List ℕ)
cut_at [] = None
cut_at (byte ∷ bytes) = if byte == 32 then Some ([], bytes) else option_map (λ cut. (byte ∷ cut.0, cut.1)) (cut_at bytes)

-- a number of at most 255, followed by a space; and the text after the space
unfoldable pub numbered_at : List ℕ → Option (ℕ × List ℕ)
numbered_at text = do
  cut ← cut_at text
  n ← plain_at 255 cut.0
  Some (n, cut.1)

-- the role that this word means
unfoldable pub role_at : List ℕ → Option Role
role_at word =
    if bytes_eq word (codes "core") then Some Core
    else (if bytes_eq word (codes "abort") then Some Abort
    else (if bytes_eq word (codes "portmap") then Some Portmap else None))

-- the result that this word means: whether an interrupt channel was connected
unfoldable pub ok_at : List ℕ → Option Bool
ok_at word = if bytes_eq word (codes "ok") then Some true else (if bytes_eq word (codes "failed") then Some false else None)

-- a port, from a letter and a number
unfoldable pub port_at : List ℕ → Option Port
port_at [] = None
port_at (letter ∷ number) =
    if letter == 99 then option_map Conn (plain_at 255 number)
    else (if letter == 105 then option_map Intr (plain_at 255 number) else None)

-- a number of milliseconds, from 1 to 1,000,000
unfoldable pub ticks_at : List ℕ → Option Line
ticks_at number = do
  n ← plain_at 1000000 number
  if n == 0 then None else Some (Ticks n)

-- an Open event, read from the text after the word `open`
unfoldable pub open_at : List ℕ → Option PlainEvent
open_at text = do
  x ← numbered_at text
  role ← role_at x.1
  Some (Open x.0 role)

-- a Bytes event, read from the text after the word `bytes`
unfoldable pub bytes_at : List ℕ → Option PlainEvent
bytes_at text = do
  x ← numbered_at text
  piece ← hex_at x.1
  Some (Bytes x.0 piece)

-- a Dialed event, read from the text after the word `dialed`
unfoldable pub dialed_at : List ℕ → Option PlainEvent
dialed_at text = do
  x ← numbered_at text
  ok ← ok_at x.1
  Some (Dialed x.0 ok)

-- an Input event, read from the text after the word `input`
unfoldable pub input_at : List ℕ → Option PlainEvent
input_at text = do
  x ← numbered_at text
  microvolts ← voltage_at x.1
  Some (Input x.0 microvolts)

-- a Bytes, a Turn or a Refuse event, read from the first word of the line and the text after this
-- word
unfoldable pub traffic_at : List ℕ → List ℕ → Option PlainEvent
traffic_at word text =
    if bytes_eq word (codes "bytes") then bytes_at text
    else (if bytes_eq word (codes "turn") then option_map Turn (plain_at 255 text)
    else (if bytes_eq word (codes "refuse") then option_map Refuse (plain_at 255 text) else None))

-- an event of a connection or an interrupt channel, read from the first word of the line and the
-- text after this word
unfoldable pub event_at : List ℕ → List ℕ → Option PlainEvent
event_at word text =
    if bytes_eq word (codes "open") then open_at text
    else (if bytes_eq word (codes "close") then option_map Close (port_at text)
    else (if bytes_eq word (codes "dialed") then dialed_at text else traffic_at word text))

-- the meaning of a line that is empty or has one word
unfoldable pub lone_at : List ℕ → Option Line
lone_at word =
    if bytes_eq word [] then Some Blank
    else (if bytes_eq word (codes "external") then Some (One External)
    else (if bytes_eq word (codes "tick") then Some (One Tick) else None))

-- the meaning of a line of several words, read from the first word and the text after this word
unfoldable pub words_at : List ℕ → List ℕ → Option Line
words_at word text =
    if bytes_eq word (codes "tick") then ticks_at text
    else (if bytes_eq word (codes "input") then option_map One (input_at text) else option_map One (event_at word text))

-- the meaning of a line, read from the line; the second argument is the line cut at its first
-- space, or `None` if the line has no space
abbrev pub cut_line_at : List ℕ → Option (List ℕ × List ℕ) → Option Line
cut_line_at line None = lone_at line
cut_line_at line (Some cut) = words_at cut.0 cut.1

-- the meaning of a line; `None` if it isn't a line of a replay
unfoldable pub line_at : List ℕ → Option Line
line_at line = cut_line_at line (cut_at line)
