-- What a writer has written so far, and what one write changes.
use Rattle.std.specs.Prelude.{◌≡◌, ℕ, ◌<◌, ◌≤◌, List, ◌∷◌, ◌++◌, length, take, drop, Result, Ok, Err}
use Rattle.std.specs.List.{concat}
use Rattle.sv_xdr.specs.declared.fault.XdrFault.{XdrFault}
use Rattle.sv_xdr.specs.declared.fault.XdrFault.TheVariants.{NoRoom}
use Rattle.sv_xdr.specs.declared.writer.Writer.{Writer}
use Rattle.sv_xdr.specs.Spelling.{Field, Spells}

-- the bytes that the writer has written: the front of its buffer
abbrev pub text_of : Writer → List ℕ
text_of writer = take writer.written writer.out.now

-- the rest of the writer's buffer, behind the bytes written so far: the room for later writes
abbrev pub rest_of : Writer → List ℕ
rest_of writer = drop writer.written writer.out.now

-- The write appended these bytes to what was written before. The buffer behind them is unchanged.
pub record Appends (bytes : List ℕ) (old new : Writer) : Type 0 where
  pub text : text_of new ≡ text_of old ++ bytes
  pub rest : rest_of old ≡ take (length bytes) (rest_of old) ++ rest_of new
  pub fits : length bytes ≤ length (rest_of old)

-- The write appended the encoding of this field to what was written before. The buffer behind the
-- encoding is unchanged.
abbrev pub AppendsField : Field → Writer → Writer → Type 0
AppendsField field old new = (bytes : List ℕ) × Spells bytes field × Appends bytes old new

-- Nothing was written.
pub record Stays (old new : Writer) : Type 0 where
  pub text : text_of new ≡ text_of old
  pub rest : rest_of new ≡ rest_of old

-- The bytes are written exactly if they fit. Else the result is the fault `NoRoom`, and nothing is
-- written.
abbrev pub Writes : List ℕ → Result Unit XdrFault → Writer → Writer → Type 0
Writes bytes (Ok done) old new = Appends bytes old new
Writes bytes (Err fault) old new = (fault ≡ NoRoom) × (length (rest_of old) < length bytes) × Stays old new

-- The pieces are written in order. If a piece doesn't fit, only the pieces before it are written.
abbrev pub WritesEach : List (List ℕ) → Result Unit XdrFault → Writer → Writer → Type 0
WritesEach pieces (Ok done) old new = Appends (concat pieces) old new
WritesEach pieces (Err fault) old new = (fault ≡ NoRoom) × (front behind : List (List ℕ)) × (piece : List ℕ)
    × (pieces ≡ front ++ piece ∷ behind)
    × Appends (concat front) old new × (length (rest_of new) < length piece)
