-- What a run of a script prints and returns, depending on the text that it read.
use Rattle.std.specs.Prelude.{◌≡◌, ◌≢◌, ◌⊎◌, ℕ, ◌+◌, ◌<◌, List, [], ◌∷◌, ◌++◌, length, Option, Result, Ok, Err, ⊤}
use Rattle.std.specs.Io.KnownBytes.{IsAtEnd}
use Rattle.sv_print.specs.TakenByWriter.{IsFront}
use Rattle.sv_history.specs.declared.event.Config.{Config}
use Rattle.sv_history.specs.Event.{PlainEvent}
use Rattle.sv_history.specs.Act.{Act}
use Rattle.sv_history.specs.History.{IsLogOf}
use Rattle.sv_explain.specs.Steps.{end_line}
use Rattle.sv_server.specs.declared.replay.ReplayFault.{ReplayFault}
use Rattle.sv_server.specs.declared.replay.ReplayFault.TheVariants.{NoMemory, Write}
use Rattle.sv_server.specs.Explain.Telling.{clock_at}
use Rattle.sv_replay.specs.declared.fault.RunFault.{RunFault}
use Rattle.sv_replay.specs.declared.fault.RunFault.TheVariants.{BadLine, Input, Output, Memory}
use Rattle.sv_replay.specs.declared.mode.Mode.{Mode}
use Rattle.sv_replay.specs.declared.mode.Mode.TheVariants.{Plain, Explained}
use Rattle.sv_replay.specs.declared.ports.Ports.{Ports}
use Rattle.sv_replay.specs.Script.{ScriptEvent, parts, IsScript, IsBad, Prints, Stops}

-- the fault of a run, if the run stops because the replay of one event ended with this
-- `ReplayFault`
abbrev pub run_fault : ReplayFault → RunFault
run_fault NoMemory = Memory
run_fault Write = Output

-- the configuration of a new server with these ports: its clock starts at 0
abbrev pub config_of : Ports → Config
config_of ports = record { core = ports.core; abort = ports.abort; clock = 0 }

-- The text is what is printed on a new server of this configuration for the events of these lines,
-- which are numbered from 1.
abbrev pub Printed : Config → Mode → List (List ℕ) → List ℕ → Type 0
Printed config mode lines text =
    (events : List ScriptEvent) × (after : List PlainEvent) × IsScript 1 lines events × Prints mode config [] events text after

-- The text is what is printed on a new server of this configuration for the events of these lines,
-- up to an event at which the replay stops with this fault.
abbrev pub PrintedUpTo : Config → Mode → List (List ℕ) → ReplayFault → List ℕ → Type 0
PrintedUpTo config mode lines fault text =
    (events : List ScriptEvent) × (after : List PlainEvent) × IsScript 1 lines events × Stops mode config [] events fault text after

-- A line is complete: either lines follow it, or the reader is at its end.
abbrev pub IsWhole : List (List ℕ) → Option (List ℕ) → Type 0
IsWhole behind rest = (behind ≢ []) ⊎ IsAtEnd rest

-- What a run prints for the text that it read. On success: the output for all lines. At a bad line:
-- the output for the lines before it. If the reader failed: the output for all complete lines. If
-- memory was refused or the writer failed: the output for some lines from the beginning of the
-- text, perhaps for none; the output for the last of these lines can be incomplete. The writer can
-- also fail after another fault has stopped the run.
abbrev pub Runs : Config → Mode → List ℕ → Option (List ℕ) → Result ⊤ RunFault → List ℕ → Type 0
Runs config mode read rest (Ok all) text = Printed config mode (parts read) text
Runs config mode read rest (Err (BadLine n)) text = (lines behind : List (List ℕ)) × (line : List ℕ) × (parts read ≡ lines ++ line ∷ behind)
    × (n ≡ length lines + 1) × IsBad line
    × (IsWhole behind rest ⊎ (65536 < length line)) × Printed config mode lines text
Runs config mode read rest (Err Input) text =
    (lines : List (List ℕ)) × (last : List ℕ) × (parts read ≡ lines ++ last ∷ []) × Printed config mode lines text
Runs config mode read rest (Err Output) text = (lines behind : List (List ℕ)) × (parts read ≡ lines ++ behind) × IsWhole behind rest
    × (Printed config mode lines text ⊎ ((fault : ReplayFault) × PrintedUpTo config mode lines fault text))
Runs config mode read rest (Err Memory) text = ((read ≡ []) × (text ≡ []))
    ⊎ ((lines behind : List (List ℕ)) × (parts read ≡ lines ++ behind) × IsWhole behind rest × PrintedUpTo config mode lines NoMemory text)

-- An explained replay on a new server prints the text `front` for the events of these lines, and
-- `last` is the line with the clock after all of them.
abbrev pub PrintedToEnd : Config → List (List ℕ) → List ℕ → List ℕ → Type 0
PrintedToEnd config lines front last = (events : List ScriptEvent) × (after : List PlainEvent) × (log : List Act) × IsScript 1 lines events
    × Prints Explained config [] events front after × IsLogOf config after log × (last ≡ end_line (clock_at config log))

-- What an explained run prints for the text that it read. On success: the output for all lines, and
-- then the line with the clock. If the writer fails in that line: the output for all lines, and
-- then a prefix of that line. Else what `Runs` says.
abbrev pub RunsExplained : Config → List ℕ → Option (List ℕ) → Result ⊤ RunFault → List ℕ → Type 0
RunsExplained config read rest (Ok all) text = (front last : List ℕ) × PrintedToEnd config (parts read) front last × (text ≡ front ++ last)
RunsExplained config read rest (Err Output) text = Runs config Explained read rest (Err Output) text
    ⊎ ((front last part : List ℕ) × PrintedToEnd config (parts read) front last × IsFront part last × IsAtEnd rest × (text ≡ front ++ part))
RunsExplained config read rest (Err fault) text = Runs config Explained read rest (Err fault) text

-- what a run prints for the text that it read, in each mode
abbrev pub RunsIn : Config → Mode → List ℕ → Option (List ℕ) → Result ⊤ RunFault → List ℕ → Type 0
RunsIn config Plain read rest result text = Runs config Plain read rest result text
RunsIn config Explained read rest result text = RunsExplained config read rest result text
