-- The text that a replay has read but not executed yet, and how this text is stored.
use Rattle.std.specs.Prelude.{◌≡◌, ℕ, ◌+◌, ◌==◌, ◌≤◌, Bool, true, false, List, [], ◌++◌, length, take, Option, Some, None, Result, Ok, Err, slice_range}
use Rattle.std.specs.List.{position, position_or_len}
use Rattle.std.specs.Io.KnownBytes.{Consumes, IsAtEnd}
use Rattle.sv_replay.specs.declared.input.InputFault.{InputFault}

-- the stored text, which was read but isn't used yet; and how many reads were made so far
pub record Held : Type 0 where
  pub text : List ℕ
  pub reads : ℕ

-- nothing stored, and no read made
abbrev pub nothing_held : Held
nothing_held = record { text = []; reads = 0 }

-- the position of the first new line in a text; `None` if the text has no new line
abbrev pub first_end : List ℕ → Option ℕ
first_end text = position (λ b. b == 10) text

-- A read that found the reader's end, or failed, returned no bytes: `more` is empty. If it found
-- the end, no bytes remain in the reader.
abbrev pub IsGiven : List ℕ → Option (List ℕ) → Result Bool InputFault → Type 0
IsGiven more rest (Ok true) = Unit {0}
IsGiven more rest (Ok false) = (more ≡ []) × IsAtEnd rest
IsGiven more rest (Err fault) = more ≡ []

-- The new text is the old text, followed by the bytes that the reader gave.
abbrev pub Filled : Option (List ℕ) → Option (List ℕ) → List ℕ → List ℕ → Result Bool InputFault → Type 0
Filled before rest old new result = (more : List ℕ) × Consumes before rest more × (new ≡ old ++ more) × IsGiven more rest result

-- What one read put at the front of a buffer's free part: `count` bytes; or no bytes, at the
-- reader's end or if the read failed.
abbrev pub IsBehind : Option (List ℕ) → Option (List ℕ) → List ℕ → Result (Option ℕ) InputFault → Type 0
IsBehind before rest free (Ok (Some count)) = (count ≤ length free) × Consumes before rest (take count free)
IsBehind before rest free (Ok None) = Consumes before rest [] × IsAtEnd rest
IsBehind before rest free (Err fault) = Consumes before rest []

-- the stored text and the number of reads, computed from the fields of a `Text`
abbrev pub held_of : List ℕ → ℕ → ℕ → ℕ → Held
held_of buffer start end reads = record { text = slice_range buffer start end; reads = reads }

-- how many bytes come before the first new line; the length of the text if it has no new line
abbrev pub line_size : List ℕ → ℕ
line_size text = position_or_len (λ b. b == 10) text

-- The invariant of the fields of a `Text`: the positions are in order; the buffer has its full
-- size; the stored text has no new line before the position `clean`; and at most 4294967294 reads
-- were made.
pub record IsKept (buffer : List ℕ) (start clean end reads : ℕ) : Type 0 where
  pub order : (start ≤ clean) × (clean ≤ end) × (end ≤ 131072)
  pub size : length buffer ≡ 131072
  pub unbroken : clean ≤ start + line_size (slice_range buffer start end)
  pub few : reads ≤ 4294967294
