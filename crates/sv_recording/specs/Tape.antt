-- The script of a history, which a tape writes: a text that `scanvolt replay` reads.
use Rattle.std.specs.Prelude.{◌≡◌, ℕ, ◌+◌, ◌==◌, Bool, true, false, List, [], ◌∷◌, ◌++◌, Option, codes, decimal, if◌then◌else◌}
use Rattle.std.specs.Fmt.{signed_decimal}
use Rattle.hex.specs.Hex.{encode_lower}
use Rattle.sv_history.specs.declared.event.Role.{Role}
use Rattle.sv_history.specs.declared.event.Role.TheVariants.{Core, Abort, Portmap}
use Rattle.sv_history.specs.declared.event.Port.TheVariants.{Conn, Intr}
use Rattle.sv_history.specs.Event.{PlainEvent, Open, Bytes, Turn, Refuse, Took, Close, Dialed, Input, External, Tick}
use Rattle.sv_print.specs.Printed.{Prints}

-- the end of the line of a connection that opens
abbrev pub role_end : Role → List ℕ
role_end Core = codes " core\n"
role_end Abort = codes " abort\n"
role_end Portmap = codes " portmap\n"

-- the end of the line of an interrupt channel whose peer was dialed
abbrev pub ok_end : Bool → List ℕ
ok_end true = codes " ok\n"
ok_end false = codes " failed\n"

-- a line of a word, a number and an end
abbrev pub numbered : List ℕ → ℕ → List ℕ → List ℕ
numbered word number end = word ++ (decimal number ++ end)

-- the line of an event; a Took has none, since a replay sends everything at once, and a Tick has
-- none of its own
abbrev pub event_line : PlainEvent → List ℕ
event_line (Open c role) = numbered (codes "open ") c (role_end role)
event_line (Bytes c piece) = numbered (codes "bytes ") c (32 ∷ (encode_lower piece ++ 10 ∷ []))
event_line (Turn c) = numbered (codes "turn ") c (10 ∷ [])
event_line (Refuse c) = numbered (codes "refuse ") c (10 ∷ [])
event_line (Close (Conn c)) = numbered (codes "close c") c (10 ∷ [])
event_line (Close (Intr c)) = numbered (codes "close i") c (10 ∷ [])
event_line (Dialed c ok) = numbered (codes "dialed ") c (ok_end ok)
event_line (Input channel microvolts) = numbered (codes "input ") channel (32 ∷ (signed_decimal microvolts ++ 10 ∷ []))
event_line External = codes "external\n"
event_line (Took port count) = []
event_line Tick = []

-- the line of this many milliseconds; none for 0
abbrev pub ticks_line : ℕ → List ℕ
ticks_line n = if n == 0 then [] else numbered (codes "tick ") n (10 ∷ [])

-- how many milliseconds at the end of a history have no line yet; at 1,000,000 there is one
abbrev pub pending : List PlainEvent → ℕ
pending [] = 0
pending (Tick ∷ history) = if pending history + 1 == 1000000 then 0 else pending history + 1
pending (Took port count ∷ history) = pending history
pending (_ ∷ history) = 0

-- the script of a history, but for its last milliseconds (`pending`): a line for each event, and
-- before it a line for the milliseconds since the event before
abbrev pub script : List PlainEvent → List ℕ
script [] = []
script (Tick ∷ history) = if pending history + 1 == 1000000 then script history ++ ticks_line 1000000 else script history
script (Took port count ∷ history) = script history
script (event ∷ history) = (script history ++ ticks_line (pending history)) ++ event_line event

-- the state of a tape: its writer; how many milliseconds it has counted since its last line; and
-- whether its writer has failed
pub record TapeState (W : Type 0) : Type 0 where
  pub writer : W
  pub ticks : ℕ
  pub failed : Bool

-- Since its writer held `first`, the tape has written this text; or a prefix of it, if the writer
-- has failed. Else it has also counted this many milliseconds.
abbrev pub Writes : {W : Type 0} → (W → Option (List ℕ)) → Option (List ℕ) → List ℕ → ℕ → TapeState W → Type 0
Writes contents first text ticks tape =
    Prints first false (contents tape.writer) tape.failed text × (tape.failed ≡ false → tape.ticks ≡ ticks)

-- Since it was in the state `first`, a new tape was told this history: it has written the history's
-- script, and counted its last milliseconds; or its writer has failed, and took a prefix of the
-- script.
abbrev pub Notes : {W : Type 0} → (W → Option (List ℕ)) → TapeState W → List PlainEvent → TapeState W → Type 0
Notes contents first history now = Writes contents (contents first.writer) (script history) (pending history) now
