-- The function that reads a line of a scenario from left to right. The comment over each of its
-- parts says what the part reads. For any other text the part returns `None`.
use Rattle.std.specs.Prelude.{ℕ, List, length, codes, Option, Some, None, is_none, nat_lt, if◌then◌else◌}
use Rattle.std.specs.Str.{bytes_eq}
use Rattle.sv_history.specs.History.{input_refusal}
use Rattle.sv_replay.specs.declared.entry.Entry.{Entry}
use Rattle.sv_replay.specs.declared.entry.Stimulus.{Stimulus}
use Rattle.sv_replay.specs.declared.entry.Stimulus.TheVariants.{Input, External}
use Rattle.sv_replay.specs.Reading.{◌>>=◌, cut_at, numbered_at, short_at, voltage_at}

-- an `input`, read from the text after this word: a channel and a voltage, if the server accepts
-- them
unfoldable pub accepted_at : List ℕ → Option Stimulus
accepted_at text = do
  x ← numbered_at text
  microvolts ← voltage_at x.1
  if is_none (input_refusal x.0 microvolts) then Some (Input x.0 microvolts) else None

-- a stimulus of one word
unfoldable pub lone_stimulus_at : List ℕ → Option Stimulus
lone_stimulus_at word = if bytes_eq word (codes "external") then Some External else None

-- a stimulus of several words, read from its first word and the text after this word
unfoldable pub worded_stimulus_at : List ℕ → List ℕ → Option Stimulus
worded_stimulus_at word text = if bytes_eq word (codes "input") then accepted_at text else None

-- a stimulus, read from its text; the second argument is the text cut at its first space, or `None`
-- if the text has no space
abbrev pub cut_stimulus_at : List ℕ → Option (List ℕ × List ℕ) → Option Stimulus
cut_stimulus_at text None = lone_stimulus_at text
cut_stimulus_at text (Some cut) = worded_stimulus_at cut.0 cut.1

-- a stimulus, read from its text
unfoldable pub stimulus_at : List ℕ → Option Stimulus
stimulus_at text = cut_stimulus_at text (cut_at text)

-- an entry, read from its line: a tick, a space, and a stimulus
unfoldable pub entry_at : List ℕ → Option Entry
entry_at line = do
  cut ← cut_at line
  tick ← short_at cut.0
  stimulus ← stimulus_at cut.1
  Some (record { tick = tick; stimulus = stimulus })

-- an entry at the tick `least` or later, from a line that isn't too long
unfoldable pub entry_from : ℕ → List ℕ → Option Entry
entry_from least line =
    if nat_lt 65536 (length line) then None
    else entry_at line >>= (λ entry. if nat_lt entry.tick least then None else Some entry)
