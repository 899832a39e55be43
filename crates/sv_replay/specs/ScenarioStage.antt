-- How far the reading of a scenario has come, and which entry the next line adds.
use Rattle.std.specs.Prelude.{◌≡◌, ◌⊎◌, ℕ, List, [], ◌∷◌, ◌++◌, length, Result, Ok, Err}
use Rattle.sv_replay.specs.declared.entry.Entry.{Entry}
use Rattle.sv_replay.specs.declared.scenario.ScenarioFault.{ScenarioFault}
use Rattle.sv_replay.specs.declared.scenario.ScenarioFault.TheVariants.{BadLine, Memory}
use Rattle.sv_replay.specs.Script.{parts}
use Rattle.sv_replay.specs.Scenario.{SaysFrom, Tells, last_tick, IsBadFrom}

-- What reading one line of a scenario does. `number` is the number of the line, `least` is the tick
-- of the last entry before it, `old` are the scenario's entries before the line is read, and `new`
-- are those after it is read. A success returns the tick of the last entry in `new`.
abbrev pub Adds : ℕ → List ℕ → ℕ → List Entry → List Entry → Result ℕ ScenarioFault → Type 0
Adds least line number old new (Ok tick) = ((line ≡ []) × (new ≡ old) × (tick ≡ least))
    ⊎ ((entry : Entry) × SaysFrom least line entry × (new ≡ old ++ entry ∷ []) × (tick ≡ entry.tick))
Adds least line number old new (Err (BadLine n)) = (n ≡ number) × IsBadFrom least line
Adds least line number old new (Err Memory) = (entry : Entry) × SaysFrom least line entry

-- The first `number` lines of the text were read, and `left` is the text after them. The lines that
-- were read describe these entries, and `least` is the tick of the last entry. Without an entry,
-- `least` is 0.
abbrev pub IsRead : List ℕ → ℕ → List Entry → ℕ → List ℕ → Type 0
IsRead text number entries least left = (front : List (List ℕ)) × (parts text ≡ front ++ parts left) × (number ≡ length front)
    × Tells 0 front entries × (least ≡ last_tick 0 entries)
