-- Which part of a text a writer accepted: the whole text if the write succeeded, a prefix if it
-- failed.
use Rattle.std.specs.Prelude.{◌≡◌, ℕ, List, ◌++◌, Option, Result, Ok, Err, ⊤}
use Rattle.std.specs.Io.KnownBytes.{Appends}

-- The part is a prefix of the text.
abbrev pub IsFront : List ℕ → List ℕ → Type 0
IsFront part text = (rest : List ℕ) × (text ≡ part ++ rest)

-- The writer accepted the whole text. Or the write failed, and the writer accepted a prefix of the
-- text.
abbrev pub IsTakenByWriter : {E : Type 0} → Option (List ℕ) → Option (List ℕ) → Result ⊤ E → List ℕ → Type 0
IsTakenByWriter old new (Ok all) text = Appends old new text
IsTakenByWriter old new (Err fault) text = (part : List ℕ) × IsFront part text × Appends old new part
