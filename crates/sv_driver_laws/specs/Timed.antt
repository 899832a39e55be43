-- The events that happen as time passes: ticks, the entries of a scenario, and the stimuli that are
-- handed in.
use Rattle.std.specs.Prelude.{ℕ, zero, suc, ◌+◌, min, nat_lt, ◌==◌, Bool, true, false, List, [], ◌∷◌, ◌++◌, if◌then◌else◌}
use Rattle.sv_history.specs.Event.{PlainEvent, Input, External, Tick}
use Rattle.sv_replay.specs.Entry.{stimulus_event}
use Rattle.sv_replay.specs.declared.entry.Entry.{Entry}
use Rattle.sv_serve.specs.Sweep.{Handed, Passing, Stimulated}

-- whether an event is an Input, the external trigger or a Tick
abbrev pub is_timed : PlainEvent → Bool
is_timed = elim [ Input channel microvolts ↦ true | External ↦ true | Tick ↦ true | _ ↦ false ]

-- the events of the scenario's entries for this millisecond, the newest first
abbrev pub entry_events : ℕ → List Entry → List PlainEvent
entry_events tick [] = []
entry_events tick (entry ∷ entries) = entry_events tick entries ++ (if entry.tick == tick then stimulus_event entry.stimulus ∷ [] else [])

-- the events of this many milliseconds, the newest first; the scenario's entries that are due come
-- before each Tick, and after the last one
abbrev pub time_events : ℕ → List Entry → List PlainEvent
time_events zero entries = entry_events 0 entries
time_events (suc n) entries = entry_events (suc n) entries ++ Tick ∷ time_events n entries

-- how many milliseconds pass in all sweeps together
abbrev pub handed_ticks : List Handed → ℕ
handed_ticks [] = 0
handed_ticks (Passing ticks ∷ handed) = handed_ticks handed + ticks
handed_ticks (Stimulated stimulus ∷ handed) = handed_ticks handed

-- a scenario with one more entry, which comes after all entries that aren't later
abbrev pub with_entry : Entry → List Entry → List Entry
with_entry entry [] = entry ∷ []
with_entry entry (other ∷ entries) =
    if nat_lt entry.tick other.tick then entry ∷ other ∷ entries else other ∷ with_entry entry entries

-- a scenario with one more entry for each stimulus that was handed in. The entry's millisecond is
-- the one at which the stimulus was handed in, but at most `most`.
abbrev pub with_handed : ℕ → List Handed → List Entry → List Entry
with_handed most [] entries = entries
with_handed most (Passing ticks ∷ handed) entries = with_handed most handed entries
with_handed most (Stimulated stimulus ∷ handed) entries =
    with_entry (record { tick = min (handed_ticks handed) most; stimulus = stimulus }) (with_handed most handed entries)
