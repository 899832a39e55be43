-- Laws of records, calls, replies and GETPORT.
use Rattle.std.specs.Prelude.{◌≡◌, ℕ, ◌<◌, List, All, Result}
use Rattle.sv_xdr.specs.Spelling.{BeginsAll}
use Rattle.sv_rpc.specs.declared.call.CallFault.{CallFault}
use Rattle.sv_rpc.specs.declared.reply.Reply.{Reply}
use Rattle.sv_rpc.specs.Record.{Tail, Splits}
use Rattle.sv_rpc.specs.Stream.{records_of, tail_of}
use Rattle.sv_rpc.specs.Call.{PlainCall, Auth, heading, CallIs, call_at}
use Rattle.sv_rpc.specs.declared.ports.Ports.{Ports}
use Rattle.sv_rpc.specs.Ports.{PortIs, port_at}
use Rattle.sv_rpc.specs.Reply.{reply_fields}

-- A stream splits in only one way into a list of records and a tail.
abbrev pub OneReading : Type 0
OneReading = (stream : List ℕ) (a b : List (List ℕ)) (s t : Tail) → Splits stream a s → Splits stream b t → (a ≡ b) × (s ≡ t)

-- Every stream of bytes splits into the records that `records_of` returns, followed by the tail
-- that `tail_of` returns.
abbrev pub ReadAsSplit : Type 0
ReadAsSplit = (stream : List ℕ) → All (λ byte. byte < 256) stream → Splits stream (records_of stream) (tail_of stream)

-- If a stream splits into records and a tail, these are the records that `records_of` returns and
-- the tail that `tail_of` returns.
abbrev pub ReadAlone : Type 0
ReadAlone = (stream : List ℕ) (records : List (List ℕ)) (tail : Tail) → Splits stream records tail
    → (records ≡ records_of stream) × (tail ≡ tail_of stream)

-- For any bytes, `call_at` returns what `CallIs` requires: the call that the bytes encode or, if
-- they encode none, the fault that says why.
abbrev pub CallAsSpelled : Type 0
CallAsSpelled = (bytes : List ℕ) → All (λ byte. byte < 256) bytes → CallIs bytes (call_at bytes)

-- For any bytes as arguments, `port_at` returns the answer that `PortIs` requires.
abbrev pub PortAsSpelled : Type 0
PortAsSpelled = (ports : Ports) (args : List ℕ) → All (λ byte. byte < 256) args → PortIs ports args (port_at ports args)

-- The same bytes can't encode two different calls, can't have two different faults, and can't both
-- encode a call and have a fault.
abbrev pub OneCall : Type 0
OneCall = (bytes : List ℕ) (a b : Result PlainCall CallFault) → CallIs bytes a → CallIs bytes b → a ≡ b

-- If the same bytes can be split in two ways into the header of a call and a rest, both headers are
-- equal, and so are both rests. So no header of a call is a proper prefix of another call's header.
abbrev pub CallsPrefixFree : Type 0
CallsPrefixFree = (x y : PlainCall) (c d v w : Auth) (bytes after behind : List ℕ) → BeginsAll bytes (heading x c v) after
    → BeginsAll bytes (heading y d w) behind
    → (heading x c v ≡ heading y d w) × (after ≡ behind)

-- Suppose that the same bytes can be split in two ways into the header of a reply and a rest. Then
-- both headers have the same xid and the same reply, and both rests are equal.
abbrev pub RepliesPrefixFree : Type 0
RepliesPrefixFree = (x y : ℕ) (r s : Reply) (bytes after behind : List ℕ) → BeginsAll bytes (reply_fields x r) after
    → BeginsAll bytes (reply_fields y s) behind
    → (x ≡ y) × (r ≡ s) × (after ≡ behind)
