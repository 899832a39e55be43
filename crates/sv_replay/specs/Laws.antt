-- Laws of lines, scenarios and runs.
use Rattle.std.specs.Prelude.{◌≡◌, ℕ, List, Option, Result, ⊤}
use Rattle.sv_history.specs.declared.event.Config.{Config}
use Rattle.sv_replay.specs.declared.entry.Entry.{Entry}
use Rattle.sv_replay.specs.declared.fault.RunFault.{RunFault}
use Rattle.sv_replay.specs.declared.mode.Mode.TheVariants.{Plain}
use Rattle.sv_replay.specs.Line.{Line, Says}
use Rattle.sv_replay.specs.Script.{parts}
use Rattle.sv_replay.specs.Run.{Runs, RunsExplained}
use Rattle.sv_replay.specs.Filtered.{filtered}
use Rattle.sv_replay.specs.Scenario.{Tells, IsScenario}

-- A line has at most one meaning.
abbrev pub OneLine : Type 0
OneLine = (line : List ℕ) (a b : Line) → Says line a → Says line b → a ≡ b

-- A text can be read as at most one list of entries.
abbrev pub OneScenario : Type 0
OneScenario = (text : List ℕ) (a b : List Entry) → Tells 0 (parts text) a → Tells 0 (parts text) b → a ≡ b

-- If a text is read as a list of entries, the list is a scenario: the server accepts each entry,
-- and no tick is lower than the tick before it.
abbrev pub ToldInOrder : Type 0
ToldInOrder = (text : List ℕ) (entries : List Entry) → Tells 0 (parts text) entries → IsScenario 0 entries

-- What an explained run prints, without the lines that begin with `@`, `-` or `=`, is what a replay
-- prints for the same text. So it is for every result, also if the writer fails within a line.
abbrev pub IsFiltered : Type 0
IsFiltered = (config : Config) (read : List ℕ) (rest : Option (List ℕ)) (result : Result ⊤ RunFault) (text : List ℕ)
    → RunsExplained config read rest result text → Runs config Plain read rest result (filtered text)
