-- How the fields of a record buffer represent its complete records and its tail, the unfinished
-- record after them. Also how pushed bytes change the records and the tail.
use Rattle.std.specs.Prelude.{◌≡◌, ℕ, ◌+◌, ◌-◌, ◌*◌, ◌%◌, ◌<◌, ◌≤◌, ◌^◌, Bool, List, [], ◌∷◌, ◌++◌, length, take, drop, sum, nat_lt, nat_le, if◌then◌else◌}
use Rattle.std.specs.Int.{w32, from_be_bytes}
use Rattle.sv_rpc.specs.declared.record_buf.Place.{Place}
use Rattle.sv_rpc.specs.declared.record_buf.Place.TheVariants as place
use Rattle.sv_rpc.specs.Limits.{capacity, max_records, max_record}
use Rattle.sv_rpc.specs.Record.{Tail, Header, Data, TooLong}
use Rattle.sv_rpc.specs.RecordBuf.{Records, StandsFor, used_by}

-- the bytes cut into pieces of these lengths
abbrev pub cut : List ℕ → List ℕ → List (List ℕ)
cut [] bytes = []
cut (n ∷ ns) bytes = take n bytes ∷ cut ns (drop n bytes)

-- the tail of a record buffer (its unfinished record) that the buffer's fields represent
abbrev pub tail_of : Place → List ℕ → List ℕ → Tail
tail_of place.Header payload header = Header payload header
tail_of (place.Data missing last) payload header = Data payload missing last
tail_of place.TooLong payload header = TooLong

-- the complete records and the unfinished one (the tail) that the fields of a record buffer
-- represent
abbrev pub held_of : List ℕ → List ℕ → List ℕ → Place → Records
held_of bytes lengths header place = record { records = cut lengths bytes; tail = tail_of place (drop (sum lengths) bytes) header }

-- how many bytes fit in addition to those that `used_by` leaves free. While the unfinished record
-- has no data, this is 4, because `used_by` already counts 4 bytes for this record, which aren't
-- used yet. Afterwards it is 0.
abbrev pub spare_of : List ℕ → ℕ
spare_of [] = 4
spare_of (b ∷ payload) = 0

-- `n` more bytes fit into a record buffer that holds these records and this tail. If a record
-- turned out to be too long, the rest of the pushed bytes fits, whatever its length, because it is
-- ignored; from then on the room is 0.
abbrev pub Fits : List (List ℕ) → Tail → ℕ → Type 0
Fits records (Header payload header) n = used_by records (Header payload header) + n ≤ capacity + spare_of payload
Fits records (Data payload missing last) n = used_by records (Data payload missing last) + n ≤ capacity
Fits records TooLong n = Unit {0}

-- `n` more bytes fit after what a buffer holds.
abbrev pub InRoom : Records → ℕ → Type 0
InRoom held n = Fits held.records held.tail n

-- how many bytes of the buffer's capacity an unfinished fragment header uses; the whole capacity if
-- a record is too long
abbrev pub begun_of : Place → ℕ → ℕ
begun_of place.Header header_len = header_len
begun_of (place.Data missing last) header_len = 0
begun_of place.TooLong header_len = capacity

-- This `Place` is possible after `payload` bytes of the unfinished record's data and `header_len`
-- bytes of an unfinished header have come. A `Place` says what the next byte of the stream belongs
-- to.
abbrev pub IsPlace : Place → ℕ → ℕ → Type 0
IsPlace place.Header payload header_len = (payload ≤ max_record) × (header_len < 4)
IsPlace (place.Data missing last) payload header_len = (0 < missing) × (payload + missing ≤ max_record) × (header_len ≡ 0)
IsPlace place.TooLong payload header_len = Unit {0}

-- the invariant of a record buffer's fields: the fields agree with each other, and the allocated
-- memory suffices for the buffer's capacity
pub record IsValid (bytes lengths header : List ℕ) (space slots payload header_len : ℕ) (place : Place) : Type 0 where
  pub whole : sum lengths + payload ≡ length bytes
  pub four : length header ≡ 4
  pub at : IsPlace place payload header_len
  pub enough : capacity ≤ space
  pub many : max_records ≤ slots
  pub counted : 4 * length lengths + length bytes ≤ capacity

-- The next byte of the stream belongs to a fragment header.
abbrev pub IsInHeader : Tail → Type 0
IsInHeader (Header payload header) = Unit {0}
IsInHeader (Data payload missing last) = ⊥
IsInHeader TooLong = ⊥

-- The next byte of the stream is the first byte of a fragment header.
abbrev pub IsBeforeHeader : Tail → Type 0
IsBeforeHeader (Header payload header) = header ≡ []
IsBeforeHeader (Data payload missing last) = ⊥
IsBeforeHeader TooLong = ⊥

-- The next byte of the stream is data of a fragment: `n` bytes of the fragment are missing, and `b`
-- says whether the fragment is the last of its record.
abbrev pub IsInData : Tail → ℕ → Bool → Type 0
IsInData (Header payload header) n b = ⊥
IsInData (Data payload missing last) n b = (missing ≡ n) × (last ≡ b)
IsInData TooLong n b = ⊥

-- the data of the unfinished record that have come so far
abbrev pub payload_of : Tail → List ℕ
payload_of (Header payload header) = payload
payload_of (Data payload missing last) = payload
payload_of TooLong = []

-- what the buffer holds after the unfinished record was completed
abbrev pub finish_record : List (List ℕ) → Tail → Records
finish_record records tail = record { records = records ++ payload_of tail ∷ []; tail = Header [] [] }

-- what the buffer holds after a header was completed. The header says that its fragment has `size`
-- bytes of data, and whether the fragment is the last of its record.
abbrev pub after_header : List (List ℕ) → Tail → ℕ → Bool → Records
after_header records tail size last =
    let payload = payload_of tail in
    if nat_lt max_record (length payload + size) then record { records = records; tail = TooLong }
    else (if nat_lt 0 size then record { records = records; tail = Data payload size last }
    else (if last then finish_record records tail else record { records = records; tail = Header payload [] }))

-- what the buffer holds after one more byte of a fragment's header has come
abbrev pub after_byte : List (List ℕ) → Tail → ℕ → Records
after_byte records (Header payload header) byte =
    if nat_lt (length header) 3 then record { records = records; tail = Header payload (header ++ byte ∷ []) }
    else (let word = from_be_bytes w32 (header ++ byte ∷ []) in
    after_header records (Header payload header) (word % 2 ^ 31) (nat_le (2 ^ 31) word))
after_byte records (Data payload missing last) byte = record { records = records; tail = Data payload missing last }
after_byte records TooLong byte = record { records = records; tail = TooLong }

-- what the buffer holds after more data of the unfinished fragment have come
abbrev pub after_data : List (List ℕ) → Tail → List ℕ → Records
after_data records (Header payload header) piece = record { records = records; tail = Header payload header }
after_data records (Data payload missing last) piece =
    if nat_lt (length piece) missing then record { records = records; tail = Data (payload ++ piece) (missing - length piece) last }
    else (if last then record { records = records ++ (payload ++ piece) ∷ []; tail = Header [] [] } else record {
      records = records;
      tail =
          Header (payload ++ piece) [];
    })
after_data records TooLong piece = record { records = records; tail = TooLong }

-- If the old buffer stands for a stream, the new buffer stands for this stream with the bytes
-- `front` appended.
abbrev pub GoesOn : Records → Records → List ℕ → Type 0
GoesOn old new front = (stream : List ℕ) (dropped : ℕ) → StandsFor old stream dropped → StandsFor new (stream ++ front) dropped

-- The new buffer has the records of the old buffer, and perhaps more records after them.
abbrev pub Keeps : Records → Records → Type 0
Keeps old new = (more : List (List ℕ)) × (new.records ≡ old.records ++ more)
