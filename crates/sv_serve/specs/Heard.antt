-- The calls of a wire's methods, with their answers; and traces, which are lists of these calls,
-- the newest first.
use Rattle.std.specs.Prelude.{◌≡◌, ℕ, ◌≤◌, Bool, List, [], ◌∷◌, length, take, Option, ⊤}
use Rattle.sv_history.specs.declared.event.Role.{Role}
use Rattle.sv_history.specs.declared.event.Port.{Port}
use Rattle.sv_history.specs.declared.event.Dial.{Dial}
use Rattle.sv_serve.specs.declared.wire.Answer.{Answer}
use Rattle.sv_serve.specs.declared.wire.Answer.TheVariants.{Got, Pending, Failed}

-- One call of a wire's method, with its answer. `most` is how many bytes a read can return at most.
-- A probe asks whether a connection's peer is gone, while the connection isn't read. With `drops`
-- the probe also discards the bytes that come on the connection.
pub data Heard : Type 0 where
  WasAccepted : (role : Role) (conn : Option ℕ) (answer : Answer ⊤) → Heard
  WasRead : (conn : ℕ) (most : ℕ) (answer : Answer (List ℕ)) → Heard
  WasProbed : (conn : ℕ) (drops : Bool) (answer : Answer ⊤) → Heard
  WasWritten : (port : Port) (bytes : List ℕ) (answer : Answer ℕ) → Heard
  WasDialed : (conn : ℕ) (dial : Dial) (answer : Answer ⊤) → Heard
  PeerAnswered : (conn : ℕ) (answer : Answer ⊤) → Heard
  WasClosed : (port : Port) → Heard

-- the answer to a read, where the number of bytes is replaced by the bytes that the read stored in
-- the buffer
abbrev pub bytes_of : Answer ℕ → List ℕ → Answer (List ℕ)
bytes_of (Got n) buffer = Got (take n buffer)
bytes_of Pending buffer = Pending
bytes_of Failed buffer = Failed

-- If the answer is a number of bytes, it is at most `most`.
abbrev pub IsWithin : Answer ℕ → ℕ → Type 0
IsWithin (Got n) most = n ≤ most
IsWithin answer most = ⊤

-- If the answer is the bytes that were read, there are at most `most` of them.
abbrev pub IsPiece : Answer (List ℕ) → ℕ → Type 0
IsPiece (Got bytes) most = length bytes ≤ most
IsPiece answer most = ⊤

-- The wire's methods were called as this trace says, and returned the answers of the trace.
abbrev pub Through : {W : Type 0} → (W → Heard → W → Type 0) → List Heard → W → W → Type 0
Through hears [] start now = now ≡ start
Through hears (heard ∷ trace) start now = (between : _) × Through hears trace start between × hears between heard now
