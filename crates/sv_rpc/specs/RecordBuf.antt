-- What a record buffer holds of a stream, and how much room it has.
use Rattle.std.specs.Prelude.{◌≡◌, ℕ, ◌+◌, ◌-◌, ◌≤◌, List, [], ◌∷◌, length, drop, sum_by, Option, Some, None, Result, Ok, Err, option_map}
use Rattle.std.specs.Borrow.{Bor}
use Rattle.sv_rpc.specs.declared.record_buf.RpcFault.{RpcFault}
use Rattle.sv_rpc.specs.declared.record_buf.RpcFault.TheVariants.{RecordTooLong}
use Rattle.sv_rpc.specs.Limits.{capacity}
use Rattle.sv_rpc.specs.Record.{Tail, Header, Data, TooLong, Splits}

-- what a buffer holds: the complete records that weren't dropped, and the tail of the stream (what
-- follows the stream's complete records)
pub record Records : Type 0 where
  pub records : List (List ℕ)
  pub tail : Tail

-- an empty buffer
abbrev pub no_records : Records
no_records = record { records = []; tail = Header [] [] }

-- The buffer holds the complete records of the stream, without the first `dropped` ones, and the
-- stream's tail.
pub record StandsFor (held : Records) (stream : List ℕ) (dropped : ℕ) : Type 0 where
  pub all : List (List ℕ)
  pub splits : Splits stream all held.tail
  pub bounded : dropped ≤ length all
  pub kept : held.records ≡ drop dropped all

-- How many bytes of the capacity are used. Each complete record uses 4 bytes more than its length.
-- The unfinished record uses 4 bytes, even before its first byte has come, plus its data so far,
-- plus the bytes of an unfinished header. If a record is too long, the whole capacity is used.
abbrev pub used_by : List (List ℕ) → Tail → ℕ
used_by records (Header payload header) = sum_by (λ r. 4 + length r) records + (4 + length payload + length header)
used_by records (Data payload missing last) = sum_by (λ r. 4 + length r) records + (4 + length payload)
used_by records TooLong = capacity

-- how many more bytes can be pushed into the buffer
abbrev pub room_of : Records → ℕ
room_of held = capacity - used_by held.records held.tail

-- what `next` returns when the buffer has no complete record: `None`, or the fault that a record is
-- too long
abbrev pub at_end : Tail → Result (Option (List ℕ)) RpcFault
at_end (Header payload header) = Ok None
at_end (Data payload missing last) = Ok None
at_end TooLong = Err RecordTooLong

-- what `next` returns for a buffer with these records and this tail: the first record; if there is
-- none, what `at_end` returns for the tail
abbrev pub next_among : List (List ℕ) → Tail → Result (Option (List ℕ)) RpcFault
next_among [] tail = at_end tail
next_among (r ∷ rs) tail = Ok (Some r)

-- The answer is the record that follows the first `dropped` records of the stream. If this record
-- isn't complete, the answer is `None`. If this record is too long, the answer is the fault
-- `RecordTooLong`.
abbrev pub IsNext : List ℕ → ℕ → Result (Option (List ℕ)) RpcFault → Type 0
IsNext stream dropped answer = (all : List (List ℕ)) × (tail : Tail) × Splits stream all tail × (dropped ≤ length all)
    × (answer ≡ next_among (drop dropped all) tail)

-- `room` is the room of a buffer that holds the records of the stream without the first `dropped`
-- ones, and the tail of the stream.
abbrev pub IsRoom : List ℕ → ℕ → ℕ → Type 0
IsRoom stream dropped room = (all : List (List ℕ)) × (tail : Tail) × Splits stream all tail × (dropped ≤ length all)
    × (room ≡ capacity - used_by (drop dropped all) tail)

-- a record that the code returns, or its fault, as plain data
abbrev pub plain_record : Result (Option (Bor (List ℕ))) RpcFault → Result (Option (List ℕ)) RpcFault
plain_record (Ok found) = Ok (option_map (λ r. r.now) found)
plain_record (Err fault) = Err fault
