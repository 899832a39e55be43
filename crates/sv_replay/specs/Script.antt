-- The script of a text: the events that its lines describe. Also: what a replay prints for a list
-- of events, and what it prints if it is explained.
use Rattle.std.specs.Prelude.{◌≡◌, ◌⊎◌, ℕ, ◌+◌, ◌<◌, ◌≤◌, List, [], ◌∷◌, ◌++◌, length, replicate, Result, Ok, Err, ⊤}
use Rattle.sv_text.specs.Cut.{cut_at}
use Rattle.sv_history.specs.declared.event.Config.{Config}
use Rattle.sv_server.specs.declared.replay.ReplayFault.{ReplayFault}
use Rattle.sv_history.specs.Event.{PlainEvent, Tick}
use Rattle.sv_server.specs.Replay.Replays.{Replays}
use Rattle.sv_server.specs.Explain.Telling.{Explains}
use Rattle.sv_replay.specs.declared.mode.Mode.{Mode}
use Rattle.sv_replay.specs.declared.mode.Mode.TheVariants.{Plain, Explained}
use Rattle.sv_replay.specs.Line.{Line, Blank, One, Ticks, Says}

-- the text cut at each new line; the last part is the text after the last new line
abbrev pub parts : List ℕ → List (List ℕ)
parts text = cut_at 10 text

-- an event of a script, and the number of the line that describes it
pub record ScriptEvent : Type 0 where
  pub line : ℕ
  pub event : PlainEvent

-- the events of a line with this number, in order
abbrev pub events_of : ℕ → Line → List ScriptEvent
events_of number Blank = []
events_of number (One event) = (record { line = number; event = event }) ∷ []
events_of number (Ticks n) = replicate n (record { line = number; event = Tick })

-- The lines have at most 65,536 bytes each, and mean these events. The number of the first of the
-- lines is `number`, and each further line has the next number.
abbrev pub IsScript : ℕ → List (List ℕ) → List ScriptEvent → Type 0
IsScript number [] events = events ≡ []
IsScript number (line ∷ lines) events = (said : Line) × (others : List ScriptEvent) × (length line ≤ 65536) × Says line said
    × IsScript (number + 1) lines others × (events ≡ events_of number said ++ others)

-- The line is too long, or isn't a line of a replay.
abbrev pub IsBad : List ℕ → Type 0
IsBad line = (65536 < length line) ⊎ ((said : Line) → Says line said → ⊥)

-- What is printed for one event of the line with this number. A plain replay prints what the replay
-- of the event writes, whatever the number of the line. An explained replay prints what `explain`
-- writes for the event and the number.
abbrev pub PrintsOne : Mode → ℕ → Config → List PlainEvent → PlainEvent → Result ⊤ ReplayFault → List ℕ → List PlainEvent → Type 0
PrintsOne Plain number config history event result text after = Replays config history event result text after
PrintsOne Explained number config history event result text after = Explains config number history event result text after

-- These events happen in order after a history, and this text is printed for them.
abbrev pub Prints : Mode → Config → List PlainEvent → List ScriptEvent → List ℕ → List PlainEvent → Type 0
Prints mode config history [] text after = (text ≡ []) × (after ≡ history)
Prints mode config history (said ∷ events) text after =
    (first rest : List ℕ) × (middle : List PlainEvent) × PrintsOne mode said.line config history said.event (Ok tt) first middle
    × Prints mode config middle events rest after
    × (text ≡ first ++ rest)

-- These events happen in order after a history, up to an event at which the replay stops. The text
-- is what was written for the earlier events, and then the part of that event's output that was
-- still written.
abbrev pub Stops : Mode → Config → List PlainEvent → List ScriptEvent → ReplayFault → List ℕ → List PlainEvent → Type 0
Stops mode config history events fault text after =
    (done others : List ScriptEvent) × (said : ScriptEvent) × (events ≡ done ++ said ∷ others)
    × (first last : List ℕ) × (middle : List PlainEvent) × Prints mode config history done first middle
    × PrintsOne mode said.line config middle said.event (Err fault) last after × (text ≡ first ++ last)

-- After a history, these events happen: all of them, or only those up to an event at which the
-- replay stops. The text is what was printed for the events that happened.
abbrev pub Performs : Mode → Config → List PlainEvent → List ScriptEvent → Result ⊤ ReplayFault → List ℕ → List PlainEvent → Type 0
Performs mode config history events (Ok all) text after = Prints mode config history events text after
Performs mode config history events (Err fault) text after = Stops mode config history events fault text after
