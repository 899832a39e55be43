-- The entries that the lines of a scenario describe.
use Rattle.std.specs.Prelude.{◌≡◌, ◌≢◌, ◌⊎◌, ℕ, ◌+◌, ◌<◌, ◌≤◌, List, [], ◌∷◌, ◌++◌, length, Result, Ok, Err, fold, ⊤}
use Rattle.sv_replay.specs.declared.entry.Entry.{Entry}
use Rattle.sv_replay.specs.declared.scenario.ScenarioFault.{ScenarioFault}
use Rattle.sv_replay.specs.declared.scenario.ScenarioFault.TheVariants.{BadLine, Memory}
use Rattle.sv_replay.specs.Entry.{SaysEntry, IsAccepted}
use Rattle.sv_replay.specs.Script.{parts}

-- The line has at most 65,536 bytes, and describes this entry, whose tick is `least` or later.
abbrev pub SaysFrom : ℕ → List ℕ → Entry → Type 0
SaysFrom least line entry = (length line ≤ 65536) × SaysEntry line entry × (least ≤ entry.tick)

-- The lines that aren't empty describe these entries, one entry each. No entry is earlier than the
-- entry before it, and the first entry isn't earlier than the tick `least`.
abbrev pub Tells : ℕ → List (List ℕ) → List Entry → Type 0
Tells least [] entries = entries ≡ []
Tells least (line ∷ lines) entries = ((line ≡ []) × Tells least lines entries)
    ⊎ ((entry : Entry) × (others : List Entry) × SaysFrom least line entry × Tells entry.tick lines others × (entries ≡ entry ∷ others))

-- The server accepts each entry. No entry is earlier than the entry before it, and the first entry
-- isn't earlier than the tick `least`.
abbrev pub IsScenario : ℕ → List Entry → Type 0
IsScenario least [] = ⊤
IsScenario least (entry ∷ entries) = (least ≤ entry.tick) × IsAccepted entry.stimulus × IsScenario entry.tick entries

-- the tick of the last entry; `least` if there is no entry
abbrev pub last_tick : ℕ → List Entry → ℕ
last_tick least entries = fold (λ tick entry. entry.tick) least entries

-- The line is too long; or it isn't empty and describes no entry whose tick is `least` or later.
abbrev pub IsBadFrom : ℕ → List ℕ → Type 0
IsBadFrom least line = (65536 < length line) ⊎ ((line ≢ []) × ((entry : Entry) → SaysEntry line entry → entry.tick < least))

-- The result of reading a scenario's text. On success: the lines of the text describe these
-- entries. At a bad line: the lines before it describe entries, and the bad line isn't valid after
-- them. Out of memory: the first lines describe entries, the next line is valid after them, and
-- memory for the entry of this next line was refused.
abbrev pub Reads : List ℕ → Result (List Entry) ScenarioFault → Type 0
Reads text (Ok entries) = Tells 0 (parts text) entries
Reads text (Err (BadLine n)) = (front behind : List (List ℕ)) × (line : List ℕ) × (entries : List Entry)
    × (parts text ≡ front ++ line ∷ behind) × (n ≡ length front + 1) × Tells 0 front entries × IsBadFrom (last_tick 0 entries) line
Reads text (Err Memory) = (front behind : List (List ℕ)) × (line : List ℕ) × (entries : List Entry) × (entry : Entry)
    × (parts text ≡ front ++ line ∷ behind) × Tells 0 front entries × SaysFrom (last_tick 0 entries) line entry
