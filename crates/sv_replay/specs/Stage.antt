-- How far the run of a replay has come, and what its next step does.
use Rattle.std.specs.Prelude.{◌≡◌, ℕ, ◌+◌, ◌*◌, ◌≤◌, List, [], ◌++◌, length, Bool, true, false, Option, Result, Ok, Err, ⊤}
use Rattle.std.specs.Io.KnownBytes.{Consumes, Appends, IsAtEnd}
use Rattle.sv_server.specs.declared.replay.ReplayFault.{ReplayFault}
use Rattle.sv_server.specs.declared.replay.ReplayFault.TheVariants.{NoMemory, Write}
use Rattle.sv_history.specs.declared.event.Config.{Config}
use Rattle.sv_history.specs.Event.{PlainEvent}
use Rattle.sv_server.specs.Server.State.{State, StandsFor}
use Rattle.sv_replay.specs.declared.mode.Mode.{Mode}
use Rattle.sv_replay.specs.declared.run_state.Run.{Run}
use Rattle.sv_replay.specs.declared.fault.RunFault.{RunFault}
use Rattle.sv_replay.specs.declared.fault.RunFault.TheVariants.{BadLine, Input, Output, Memory}
use Rattle.sv_replay.specs.Line.{Line, Says}
use Rattle.sv_replay.specs.Script.{ScriptEvent, parts, events_of, IsScript, IsBad, Prints, Stops}
use Rattle.sv_replay.specs.Run.{Runs, RunsIn}

-- The first `number` lines of the text that was read are executed, and all that they print was
-- written. `left` is the text after these lines.
abbrev pub IsStage : Config → Mode → State → List ℕ → ℕ → List ℕ → List ℕ → Type 0
IsStage config mode server left number read text = (lines : List (List ℕ)) × (events : List ScriptEvent) × (history : List PlainEvent)
    × (parts read ≡ lines ++ parts left) × (number ≡ length lines) × IsScript 1 lines events
    × Prints mode config [] events text history × StandsFor server config history

-- All lines of the text that was read are executed, and all that they print was written.
abbrev pub IsDone : Config → Mode → State → List ℕ → List ℕ → Type 0
IsDone config mode server read text = (events : List ScriptEvent) × (history : List PlainEvent) × IsScript 1 (parts read) events
    × Prints mode config [] events text history × StandsFor server config history

-- The line is a valid line of a script, and the replay stops with this fault at one of the events
-- that the line describes. `number` is the number of the line.
abbrev pub StopsAt : Config → Mode → List ℕ → ℕ → List PlainEvent → ReplayFault → List ℕ → List PlainEvent → Type 0
StopsAt config mode line number history fault text after = (said : Line) × (length line ≤ 65536) × Says line said
    × Stops mode config history (events_of number said) fault text after

-- What a line of a script does to the server's history, and what is printed for the line. `number`
-- is the number of the line.
abbrev pub LineRuns : Config → Mode → List ℕ → ℕ → List PlainEvent → Result ⊤ RunFault → List ℕ → List PlainEvent → Type 0
LineRuns config mode line number history (Ok all) text after =
    (said : Line) × (length line ≤ 65536) × Says line said × Prints mode config history (events_of number said) text after
LineRuns config mode line number history (Err (BadLine n)) text after = (n ≡ number) × IsBad line × (text ≡ [])
LineRuns config mode line number history (Err Input) text after = ⊥
LineRuns config mode line number history (Err Output) text after = StopsAt config mode line number history Write text after
LineRuns config mode line number history (Err Memory) text after = StopsAt config mode line number history NoMemory text after
    -- What holds after a step of a replay's run: the run goes on; or it is done, because all lines
    -- are executed and the reader is at its

-- end; or it stops with a fault.
abbrev pub Goes : Config → Mode → State → List ℕ → ℕ → Option (List ℕ) → Result Bool RunFault → List ℕ → List ℕ → Type 0
Goes config mode server left number rest (Ok true) read text = IsStage config mode server left number read text
Goes config mode server left number rest (Ok false) read text = IsAtEnd rest × IsDone config mode server read text
Goes config mode server left number rest (Err fault) read text = Runs config mode read rest (Err fault) text

-- If the step returned that the run goes on, `fact` holds.
abbrev pub WhileGoing : {E : Type 0} → Result Bool E → Type 0 → Type 0
WhileGoing (Ok true) fact = fact
WhileGoing answer fact = Unit {0}

-- More was read, between the reader's bytes `reader` and `after`; and more was printed, between the
-- writer's bytes `first` and `last`. If `was` held of all that was read and printed before,
-- `becomes` holds of all that is read and printed now.
abbrev pub Further : Option (List ℕ) → Option (List ℕ) → Option (List ℕ) → Option (List ℕ) → (List ℕ → List ℕ → Type 0)
    → (List ℕ → List ℕ → Type 0) → Type 0
Further reader after first last was becomes = (read text : List ℕ) → was read text
    → (more other : List ℕ) × Consumes reader after more × Appends first last other × becomes (read ++ more) (text ++ other)

-- A step of the run leads from `old` to `new`, reads the bytes between `reader` and `after`, and
-- prints those between `first` and `last`.
abbrev pub Moves : {A : Type 0} → Run A → Run A → Option (List ℕ) → Option (List ℕ) → Option (List ℕ) → Option (List ℕ)
    → Result Bool RunFault → Type 0
Moves old new reader after first last result = (config : Config)
    → Further reader after first last (IsStage config old.mode old.server old.text.text old.lines)
    (Goes config old.mode new.server new.text.text new.lines after result)

-- The progress of a step after which the run goes on, in the same mode. The step executes one line,
-- or makes one read. The step preserves two bounds: the number of executed lines plus the number of
-- stored bytes is at most 131,072 times the number of reads; and at most 4294967294 reads were
-- made.
pub record Progress {A : Type 0} (old new : Run A) : Type 0 where
  pub alike : new.mode ≡ old.mode
  pub counted : new.lines + new.text.reads ≡ old.lines + old.text.reads + 1
  pub bounded : old.lines + length old.text.text ≤ 131072 * old.text.reads → new.lines + length new.text.text ≤ 131072 * new.text.reads
  pub few : old.text.reads ≤ 4294967294 → new.text.reads ≤ 4294967294

-- What holds after all steps of a run: all lines are executed, or the run stops with a fault.
abbrev pub Ends : Config → Mode → State → List ℕ → Option (List ℕ) → Result ⊤ RunFault → List ℕ → Type 0
Ends config mode server read rest (Ok all) text = IsDone config mode server read text
Ends config mode server read rest (Err fault) text = Runs config mode read rest (Err fault) text

-- The steps of a run read the bytes between `reader` and `after`, and print those between `first`
-- and `last`. `server` is the server after them.
abbrev pub StepsRun : Config → Mode → State → Option (List ℕ) → Option (List ℕ) → Option (List ℕ) → Option (List ℕ) → Result ⊤ RunFault
    → Type 0
StepsRun config mode server reader after first last result =
    (read text : List ℕ) × Consumes reader after read × Appends first last text × Ends config mode server read after result text

-- A run from the first line of a script to its end, or to a fault, reads the bytes between `reader`
-- and `after`, and prints those between `first` and `last`.
abbrev pub ScriptRuns : Config → Mode → Option (List ℕ) → Option (List ℕ) → Option (List ℕ) → Option (List ℕ) → Result ⊤ RunFault → Type 0
ScriptRuns config mode reader after first last result =
    (read text : List ℕ) × Consumes reader after read × Appends first last text × RunsIn config mode read after result text
