-- Record marking (RFC 5531, section 11), as a relation between a whole stream of bytes and its
-- records.
use Rattle.std.specs.Prelude.{◌≡◌, ℕ, ◌+◌, ◌<◌, ◌≤◌, ◌^◌, Bool, true, false, List, ◌++◌, length, map, if◌then◌else◌}
use Rattle.std.specs.List.{concat, flat_map, AllByRecursion}
use Rattle.sv_xdr.specs.Spelling.{Unsigned, spelling}
use Rattle.sv_rpc.specs.Limits.{max_record}

-- the header of a fragment, an encoded 32-bit number: the top bit marks the last fragment of a
-- record, and the low 31 bits are the length of the fragment's data
abbrev pub header_of : Bool → ℕ → List ℕ
header_of last size = spelling (Unsigned (if last then size + 2 ^ 31 else size))

-- a fragment: its header and its data
abbrev pub fragment : Bool → List ℕ → List ℕ
fragment last text = header_of last (length text) ++ text

-- a record as it is sent, in fragments: `front` has the data of each fragment before the last one,
-- `final` the data of the last fragment
pub record Sent : Type 0 where
  pub front : List (List ℕ)
  pub final : List ℕ

-- the bytes of a sent record on the stream, with the header of each fragment
abbrev pub bytes_of : Sent → List ℕ
bytes_of sent = flat_map (fragment false) sent.front ++ fragment true sent.final

-- the record that was sent: the data of its fragments, joined
abbrev pub record_of : Sent → List ℕ
record_of sent = concat sent.front ++ sent.final

-- The record has at most `max_record` bytes of data.
abbrev pub IsTaken : Sent → Type 0
IsTaken sent = length (record_of sent) ≤ max_record

-- what follows the last complete record of a stream: an unfinished record that lacks bytes of a
-- fragment's header (`Header`); an unfinished record that lacks bytes of a fragment's data
-- (`Data`); or a record that is too long (`TooLong`). `payload` is the part of the unfinished
-- record's data that has come.
pub data Tail : Type 0 where
  Header : (payload header : List ℕ) → Tail
  Data : (payload : List ℕ) (missing : ℕ) (last : Bool) → Tail
  TooLong : Tail

-- whether what follows the complete records is a record that is too long
abbrev pub ends_overlong : Tail → Bool
ends_overlong = elim [ TooLong ↦ true | _ ↦ false ]

-- The bytes are this tail. They begin with complete fragments, none of which is the last of its
-- record. After these follow: fewer bytes than a header has; a header and less data than the header
-- says; or a header that makes the record too long, and any bytes after it.
abbrev pub IsTail : List ℕ → Tail → Type 0
IsTail bytes (Header payload header) = (front : List (List ℕ)) × (bytes ≡ flat_map (fragment false) front ++ header)
    × (payload ≡ concat front) × (length header < 4) × (length payload ≤ max_record)
IsTail bytes (Data payload missing last) = (front : List (List ℕ)) × (text : List ℕ)
    × (bytes ≡ flat_map (fragment false) front ++ (header_of last (length text + missing) ++ text))
    × (payload ≡ concat front ++ text) × (0 < missing) × (length payload + missing ≤ max_record)
IsTail bytes TooLong = (front : List (List ℕ)) × (size : ℕ) × (last : Bool) × (more : List ℕ)
    × (bytes ≡ flat_map (fragment false) front ++ (header_of last size ++ more))
    × (length (concat front) ≤ max_record) × (size < 2 ^ 31) × (max_record < length (concat front) + size)

-- The stream consists of these records, followed by this tail.
pub record Splits (stream : List ℕ) (records : List (List ℕ)) (tail : Tail) : Type 0 where
  pub sent : List Sent
  pub rest : List ℕ
  pub whole : stream ≡ flat_map bytes_of sent ++ rest
  pub records_are : map record_of sent ≡ records
  pub taken : AllByRecursion IsTaken sent
  pub behind : IsTail rest tail
