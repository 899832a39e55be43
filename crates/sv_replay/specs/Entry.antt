-- The entries of a scenario: which entry a line describes, and which event the stimulus of an entry
-- causes.
use Rattle.std.specs.Prelude.{◌≡◌, ℕ, ◌≤◌, List, ◌∷◌, ◌++◌, length, None, ⊤}
use Rattle.sv_history.specs.Event.{PlainEvent, Input, External}
use Rattle.sv_history.specs.History.{input_refusal}
use Rattle.sv_replay.specs.declared.entry.Entry.{Entry}
use Rattle.sv_replay.specs.declared.entry.Stimulus.{Stimulus}
use Rattle.sv_replay.specs.declared.entry.Stimulus.TheVariants as stimuli
use Rattle.sv_replay.specs.Line.{IsNumber, SaysEvent}

-- the event that a stimulus causes at the server
abbrev pub stimulus_event : Stimulus → PlainEvent
stimulus_event (stimuli.Input channel microvolts) = Input channel microvolts
stimulus_event stimuli.External = External

-- The server doesn't refuse the stimulus: the channel of an input exists, and its voltage is in
-- range.
abbrev pub IsAccepted : Stimulus → Type 0
IsAccepted (stimuli.Input channel microvolts) = input_refusal channel microvolts ≡ None
IsAccepted stimuli.External = ⊤

-- The line is the entry's tick in at most 18 digits, a space, and the stimulus, written like an
-- event of a replay. The server accepts the stimulus.
abbrev pub SaysEntry : List ℕ → Entry → Type 0
SaysEntry line entry = (digits text : List ℕ) × IsNumber digits entry.tick × (length digits ≤ 18)
    × SaysEvent text (stimulus_event entry.stimulus) × IsAccepted entry.stimulus × (line ≡ digits ++ 32 ∷ text)
