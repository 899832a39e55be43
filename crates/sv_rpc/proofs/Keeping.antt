-- Pushed bytes only add records to the buffer: those that are complete stay in front.
use Rattle.std.proofs.Common.{◌≡◌, ℕ, ◌+◌, ◌-◌, ◌%◌, ◌^◌, Bool, true, false, cond, leb, ltb, List, [], ◌∷◌, ◌++◌, length, refl, sym, ap, ◌∙◌, append_assoc, append-nil}
use Rattle.std.specs.Int.{w32, from_be_bytes}
use Rattle.sv_rpc.specs.Limits.{max_record}
use Rattle.sv_rpc.specs.Record.{Tail, Header, Data, TooLong}
use Rattle.sv_rpc.specs.RecordBuf.{Records}
use Rattle.sv_rpc.specs.Representation.{Keeps, payload_of, after_byte, after_header, after_data, finish_record}

abbrev held : List (List ℕ) → Tail → Records
held records tail = record { records = records; tail = tail }

pub keeps_transitive : (old mid new : Records) → Keeps old mid → Keeps mid new → Keeps old new
keeps_transitive old mid new a b =
    (a.0 ++ b.0, b.1 ∙ ap (λ (rs : List (List ℕ)). rs ++ b.0) a.1 ∙ append_assoc old.records a.0 b.0)

-- The records, possibly followed by more.
abbrev BeginsWithRecords : List (List ℕ) → Records → Type 0
BeginsWithRecords records new = (more : List (List ℕ)) × (new.records ≡ records ++ more)

header_cases : (records : List (List ℕ)) (tail : Tail) (size : ℕ) (long some last : Bool)
    → BeginsWithRecords records (cond long (held records TooLong) (cond some (held records (Data (payload_of tail) size last))
    (cond last (finish_record records tail) (held records (Header (payload_of tail) [])))))
header_cases records tail size true some last = ([], sym (append-nil records))
header_cases records tail size false true last = ([], sym (append-nil records))
header_cases records tail size false false true = (payload_of tail ∷ [], refl)
header_cases records tail size false false false = ([], sym (append-nil records))

byte_cases : (records : List (List ℕ)) (t : Tail) (whole : Records) (more : Bool) → BeginsWithRecords records whole
    → BeginsWithRecords records (cond more (held records t) whole)
byte_cases records t whole true kept = ([], sym (append-nil records))
byte_cases records t whole false kept = kept

pub byte_keeps : (records : List (List ℕ)) (tail : Tail) (byte : ℕ) → Keeps (held records tail) (after_byte records tail byte)
byte_keeps records (Header payload header) byte =
    let word = from_be_bytes w32 (header ++ byte ∷ []) in
    byte_cases records (Header payload (header ++ byte ∷ []))
    (after_header records (Header payload header) (word % 2 ^ 31) (leb (2 ^ 31) word))
    (ltb (length header) 3)
    (header_cases records (Header payload header) (word % 2 ^ 31) (ltb max_record (length payload + word % 2 ^ 31))
    (ltb 0 (word % 2 ^ 31))
    (leb (2 ^ 31) word))
byte_keeps records (Data payload missing last) byte = ([], sym (append-nil records))
byte_keeps records TooLong byte = ([], sym (append-nil records))

data_cases : (records : List (List ℕ)) (payload : List ℕ) (t : Tail) (less last : Bool)
    → BeginsWithRecords records (cond less (held records t) (cond last (held (records ++ payload ∷ []) (Header [] []))
    (held records (Header payload []))))
data_cases records payload t true last = ([], sym (append-nil records))
data_cases records payload t false true = (payload ∷ [], refl)
data_cases records payload t false false = ([], sym (append-nil records))

pub data_keeps : (records : List (List ℕ)) (tail : Tail) (piece : List ℕ) → Keeps (held records tail) (after_data records tail piece)
data_keeps records (Header payload header) piece = ([], sym (append-nil records))
data_keeps records (Data payload missing last) piece = data_cases records (payload ++ piece)
    (Data (payload ++ piece) (missing - length piece) last) (ltb (length piece) missing) last
data_keeps records TooLong piece = ([], sym (append-nil records))
