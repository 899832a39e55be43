-- A function that reads a stream fragment after fragment, and returns the stream's records and its
-- tail. Two laws relate the function to `Splits`: the stream splits into what the function returns,
-- and in no other way.
use Rattle.std.specs.Prelude.{ℕ, zero, suc, ◌+◌, ◌-◌, ◌%◌, ◌^◌, Bool, true, false, List, [], ◌∷◌, ◌++◌, length, take, drop, nat_le, nat_lt, if◌then◌else◌}
use Rattle.std.specs.Int.{w32, from_be_bytes}
use Rattle.sv_rpc.specs.Limits.{max_record}
use Rattle.sv_rpc.specs.Record.{Tail, Header, Data, TooLong}

-- the result of reading a stream: its complete records, and the tail that follows them
abbrev pub Reading : Type 0
Reading = List (List ℕ) × Tail

-- The records and the tail that are read if a fragment is complete. The flag says whether the
-- fragment is the last of its record. `payload` is the data of this record so far, including the
-- fragment's data. `next` reads `rest`, the bytes after the fragment.
abbrev pub read_on : (List ℕ → List ℕ → Reading) → List ℕ → Bool → List ℕ → Reading
read_on next payload true rest = (payload ∷ (next [] rest).0, (next [] rest).1)
read_on next payload false rest = next payload rest

-- what is read from `rest`, the bytes after a fragment's header: the record is too long; or `rest`
-- lacks data of the fragment; or the fragment is complete, and `next` reads the bytes after it
abbrev pub read_data : (List ℕ → List ℕ → Reading) → List ℕ → Bool → ℕ → List ℕ → Reading
read_data next payload last size rest =
    if nat_lt max_record (length payload + size) then ([], TooLong)
    else (if nat_lt (length rest) size then ([], Data (payload ++ rest) (size - length rest) last)
    else read_on next (payload ++ take size rest) last (drop size rest))

-- The records and the tail that are read from `bytes`, in at most `n` fragments. `payload` is the
-- part of the first record's data that stands in front of `bytes`.
unfoldable pub read : ℕ → List ℕ → List ℕ → Reading
read zero payload bytes = ([], TooLong)
read (suc n) payload bytes =
    if nat_lt (length bytes) 4 then ([], Header payload bytes)
    else (let word = from_be_bytes w32 bytes in
    read_data (read n) payload (nat_le (2 ^ 31) word) (word % 2 ^ 31) (drop 4 bytes))

-- the complete records of a whole stream, and its tail. The stream has at most as many fragments as
-- bytes.
abbrev pub reading : List ℕ → Reading
reading stream = read (length stream + 1) [] stream

-- the complete records of a stream
abbrev pub records_of : List ℕ → List (List ℕ)
records_of stream = (reading stream).0

-- what follows the complete records of a stream
abbrev pub tail_of : List ℕ → Tail
tail_of stream = (reading stream).1
