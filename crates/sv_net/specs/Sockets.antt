-- The sockets of a wire, as a list in which each port has a fixed index. Also: what each method of
-- the wire does to these sockets.
use Rattle.std.specs.Prelude.{◌≡◌, ℕ, ◌+◌, Bool, true, false, List, take, Option, Some, None, slice_set, slice_index_or}
use Rattle.std.specs.Io.KnownBytes.{Keeps, Appends, Consumes}
use Rattle.sv_history.specs.declared.event.Port.{Port}
use Rattle.sv_history.specs.declared.event.Port.TheVariants.{Conn, Intr}
use Rattle.sv_serve.specs.declared.wire.Answer.{Answer}
use Rattle.sv_serve.specs.declared.wire.Answer.TheVariants.{Got, Pending, Failed}
use Rattle.sv_serve.specs.Heard.{Heard, WasAccepted, WasRead, WasProbed, WasWritten, WasDialed, PeerAnswered, WasClosed}

-- the number of a port's socket: 0 to 15 for connections, then 16 to 31 for their interrupt
-- channels
abbrev pub socket_number : Port → ℕ
socket_number (Conn c) = c
socket_number (Intr c) = 16 + c

-- A read returns the next bytes that a stream still has, and removes them from it. If the read
-- returns no bytes, the stream doesn't change.
abbrev pub Gives : {S : Type 0} → (S → Option (List ℕ)) → Answer (List ℕ) → S → S → Type 0
Gives left (Got bytes) old new = Consumes (left old) (left new) bytes
Gives left answer old new = Keeps (left old) (left new)

-- A probe with `drops` (the flag is true) reads and discards bytes that came. A probe without
-- `drops` doesn't change the stream.
abbrev pub Skips : {S : Type 0} → (S → Option (List ℕ)) → Bool → S → S → Type 0
Skips left true old new = (dropped : Answer (List ℕ)) × Gives left dropped old new
Skips left false old new = Keeps (left old) (left new)

-- If a write returns that the stream took `n` bytes, the first `n` of the write's bytes are
-- appended to those that were sent on the stream. If it returns `Pending` or `Failed`, the stream
-- doesn't change.
abbrev pub Takes : {S : Type 0} → (S → Option (List ℕ)) → List ℕ → Answer ℕ → S → S → Type 0
Takes sent bytes (Got n) old new = Appends (sent old) (sent new) (take n bytes)
Takes sent bytes answer old new = Keeps (sent old) (sent new)

-- If the socket has a stream, the method changes this stream as `step` says. If the socket has no
-- stream, the method returns `Failed`.
abbrev pub Does : {S A : Type 0} → (S → S → Type 0) → Answer A → Option S → Option S → Type 0
Does step answer None after = (answer ≡ Failed) × (after ≡ None)
Does step answer (Some old) after = (new : _) × step old new × (after ≡ Some new)

-- The method changes the socket with number n as `Does` says. No other socket changes.
abbrev pub At : {S A : Type 0} → ℕ → (S → S → Type 0) → Answer A → List (Option S) → List (Option S) → Type 0
At n step answer before after =
    (place : Option _) × Does step answer (slice_index_or before n None) place × (after ≡ slice_set before n place)

-- What one call of a method of the wire does to the sockets, depending on the answer that the call
-- returned. Only the socket for which the method was called can change. Two things are known of a
-- stream: the bytes that can still be read from it (`left`), and the bytes that were written to it
-- (`sent`).
abbrev pub Hears : {S : Type 0} → (S → Option (List ℕ)) → (S → Option (List ℕ)) → List (Option S) → Heard → List (Option S) → Type 0
Hears left sent before (WasAccepted role (Some c) (Got all)) after = (stream : _) × (after ≡ slice_set before c (Some stream))
Hears left sent before (WasAccepted role number answer) after = after ≡ before
Hears left sent before (WasRead c most answer) after = At (socket_number (Conn c)) (Gives left answer) answer before after
Hears left sent before (WasProbed c drops answer) after = At (socket_number (Conn c)) (Skips left drops) answer before after
Hears left sent before (WasWritten port bytes answer) after = At (socket_number port) (Takes sent bytes answer) answer before after
Hears left sent before (WasDialed c dial (Got all)) after = ⊥
Hears left sent before (WasDialed c dial Pending) after =
    (stream : _) × (after ≡ slice_set before (socket_number (Intr c)) (Some stream))
Hears left sent before (WasDialed c dial Failed) after = after ≡ before
Hears left sent before (PeerAnswered c answer) after = after ≡ before
Hears left sent before (WasClosed port) after = after ≡ slice_set before (socket_number port) None
