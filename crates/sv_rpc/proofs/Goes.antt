-- Each byte that is pushed into a buffer extends the stream for which the buffer stands.
use Rattle.std.proofs.Common.{◌≡◌, ℕ, ◌+◌, ◌-◌, ◌%◌, ◌<◌, ◌≤◌, ◌^◌, Bool, true, false, cond, leb, List, [], ◌∷◌, ◌++◌, length, take, drop, set, refl, sym, ap, subst, ◌∙◌, append-nil, arith, inl, inr}
use Rattle.std.specs.Prelude.{sum}
use Rattle.std.specs.Int.{w32, from_be_bytes}
use Rattle.std.proofs.lemmas.Bool.{cases_lt, le-ltb, lt-ltb}
use Rattle.std.proofs.lemmas.List.{length-append, length-take-le, take_more_set, drop-append-le, append_assoc}
use Rattle.sv_rpc.specs.Limits.{max_record}
use Rattle.sv_rpc.specs.Record.{Tail, Header, Data, TooLong, Splits, header_of}
use Rattle.sv_rpc.specs.RecordBuf.{Records, StandsFor}
use Rattle.sv_rpc.specs.declared.record_buf.Place.{Place}
use Rattle.sv_rpc.specs.declared.record_buf.Place.TheVariants as place
use Rattle.sv_rpc.specs.Representation.{IsPlace, IsInHeader, held_of, tail_of, cut, GoesOn, after_byte, after_header, after_data}
use Rattle.sv_rpc.proofs.Steps.{header_grows, header_ends, empty_ends, empty_last_ends, header_too_long, still_long, data_grows, data_ends, data_last_ends}

abbrev held : List (List ℕ) → Tail → Records
held records tail = record { records = records; tail = tail }

-- The records stay, and the stream ends in another tail.
tail_extends : (records : List (List ℕ)) (s t : Tail) (stream piece : List ℕ) (dropped : ℕ) (st : StandsFor (held records s) stream dropped)
    → Splits (stream ++ piece) st.all t → StandsFor (held records t) (stream ++ piece) dropped
tail_extends records s t stream piece dropped st splits = record { all = st.all; splits = splits; bounded = st.bounded; kept = st.kept }

-- The stream has one more complete record.
record_extends : (records : List (List ℕ)) (r : List ℕ) (s t : Tail) (stream piece : List ℕ) (dropped : ℕ)
    (st : StandsFor (held records s) stream dropped)
    → Splits (stream ++ piece) (st.all ++ r ∷ []) t → StandsFor (held (records ++ r ∷ []) t) (stream ++ piece) dropped
record_extends records r s t stream piece dropped st splits = record {
  all = st.all ++ r ∷ [];
  splits = splits;
  bounded = omega (arith, length-append st.all (r ∷ []), st.bounded);
  kept = ap (λ (rs : List (List ℕ)). rs ++ r ∷ []) st.kept ∙ sym (drop-append-le dropped st.all (r ∷ []) st.bounded);
}

-- A byte that completes a header extends the stream.
header_goes : (records : List (List ℕ)) (payload header : List ℕ) (byte size : ℕ) (last : Bool) → header ++ byte ∷ [] ≡ header_of last size
    → size < 2 ^ 31 → GoesOn (held records (Header payload header)) (after_header records (Header payload header) size last) (byte ∷ [])
header_goes records payload header byte size last whole small stream dropped st =
    elim (cases_lt max_record (length payload + size)) [
      | inl long ↦ rw (lt-ltb max_record (length payload + size) long)
          (tail_extends records (Header payload header) TooLong stream (byte ∷ []) dropped st
          (header_too_long stream st.all payload header byte size last st.splits whole small long))
      | inr short ↦ rw (le-ltb max_record (length payload + size) short) (elim (cases_lt 0 size) [
        | inl some ↦ rw (lt-ltb 0 size some)
            (tail_extends records (Header payload header) (Data payload size last) stream (byte ∷ []) dropped st
            (header_ends stream st.all payload header byte size last st.splits whole some short))
        | inr none ↦
            rw (le-ltb 0 size none) (empty last (subst (λ (n : ℕ). header ++ byte ∷ [] ≡ header_of last n) (zero_size size none) whole))
      ])
    ]
  where
    zero_size : (n : ℕ) → n ≤ 0 → n ≡ 0
    zero_size n h = omega arith

    empty : (b : Bool) → header ++ byte ∷ [] ≡ header_of b 0
        → StandsFor (cond b (held (records ++ payload ∷ []) (Header [] [])) (held records (Header payload [])))
        (stream ++ byte ∷ []) dropped
    empty true e = record_extends records payload (Header payload header) (Header [] []) stream (byte ∷ []) dropped st
        (empty_last_ends stream st.all payload header byte st.splits e)
    empty false e = tail_extends records (Header payload header) (Header payload []) stream (byte ∷ []) dropped st
        (empty_ends stream st.all payload header byte st.splits e)

-- A byte of a header, whether it completes the header or not, extends the stream.
pub byte_goes : (records : List (List ℕ)) (payload header : List ℕ) (byte : ℕ)
    → (3 ≤ length header → let word = from_be_bytes w32 (header ++ byte ∷ []) in
    header ++ byte ∷ [] ≡ header_of (leb (2 ^ 31) word) (word % 2 ^ 31))
    → GoesOn (held records (Header payload header)) (after_byte records (Header payload header) byte) (byte ∷ [])
byte_goes records payload header byte whole stream dropped st =
    elim (cases_lt (length header) 3) [
      | inl less ↦ rw (lt-ltb (length header) 3 less)
          (tail_extends records (Header payload header) (Header payload (header ++ byte ∷ [])) stream (byte ∷ []) dropped st
          (header_grows stream st.all payload header byte st.splits (omega arith)))
      | inr three ↦ rw (le-ltb (length header) 3 three)
          (header_goes records payload header byte _ _ (whole three) (omega arith) stream dropped st)
    ]

-- A piece of a fragment's data extends the stream.
pub data_goes : (records : List (List ℕ)) (payload piece : List ℕ) (missing : ℕ) (last : Bool) → length piece ≤ missing
    → GoesOn (held records (Data payload missing last)) (after_data records (Data payload missing last) piece) piece
data_goes records payload piece missing last within stream dropped st =
    elim (cases_lt (length piece) missing) [
      | inl less ↦ rw (lt-ltb (length piece) missing less)
          (tail_extends records (Data payload missing last) (Data (payload ++ piece) (missing - length piece) last) stream piece dropped st
          (data_grows stream piece st.all payload missing last st.splits less))
      | inr all ↦ rw (le-ltb (length piece) missing all) (ends last (omega arith) st)
    ]
  where
    ends : (b : Bool) → length piece ≡ missing → (st : StandsFor (held records (Data payload missing b)) stream dropped)
        → StandsFor (cond b (held (records ++ (payload ++ piece) ∷ []) (Header [] [])) (held records (Header (payload ++ piece) [])))
        (stream ++ piece) dropped
    ends true e st = record_extends records (payload ++ piece) (Data payload missing true) (Header [] []) stream piece dropped st
        (data_last_ends stream piece st.all payload missing st.splits e)
    ends false e st = tail_extends records (Data payload missing false) (Header (payload ++ piece) []) stream piece dropped st
        (data_ends stream piece st.all payload missing st.splits e)

-- Two extensions of the stream make one.
pub goes_on_transitive : (old mid new : Records) (a b : List ℕ) → GoesOn old mid a → GoesOn mid new b → GoesOn old new (a ++ b)
goes_on_transitive old mid new a b first second stream dropped st =
    subst (λ (l : List ℕ). StandsFor new l dropped) (append_assoc stream a b) (second (stream ++ a) dropped (first stream dropped st))

pub goes_on_reflexive : (held : Records) → GoesOn held held []
goes_on_reflexive held stream dropped st = rw (append-nil stream) st

-- Once nothing of the piece is left, the whole piece has extended the stream.
pub goes_on_whole_piece : (old new : Records) (piece rest : List ℕ) → length rest ≡ 0
    → (taken : List ℕ) × (piece ≡ taken ++ rest) × GoesOn old new taken → GoesOn old new piece
goes_on_whole_piece old new piece [] e stands =
    subst (λ (l : List ℕ). GoesOn old new l) (sym (stands.1 ∙ append-nil stands.0)) stands.2
goes_on_whole_piece old new piece (b ∷ rest) e stands = absurd (omega arith)

-- The same as `byte_goes`, for the fields of a buffer.
pub header_goes_on : (bytes lengths header : List ℕ) (spot : Place) (old new : Records) (byte : ℕ) → held_of bytes lengths header spot ≡ old
    → IsInHeader old.tail → new ≡ after_byte old.records old.tail byte
    → (3 ≤ length header → let word = from_be_bytes w32 (header ++ byte ∷ []) in
    header ++ byte ∷ [] ≡ header_of (leb (2 ^ 31) word) (word % 2 ^ 31))
    → GoesOn old new (byte ∷ [])
header_goes_on bytes lengths header spot old new byte is in_header value whole =
    rw value (subst (λ (h : Records). IsInHeader h.tail → GoesOn h (after_byte h.records h.tail byte) (byte ∷ [])) is (at spot) in_header)
  where
    at : (p : Place) → IsInHeader (tail_of p (drop (sum lengths) bytes) header)
        → GoesOn (held_of bytes lengths header p) (after_byte (cut lengths bytes) (tail_of p (drop (sum lengths) bytes) header) byte)
        (byte ∷ [])
    at place.Header h = byte_goes (cut lengths bytes) (drop (sum lengths) bytes) header byte whole
    at (place.Data missing last) h = absurd h
    at place.TooLong h = absurd h

set_last : (header : List ℕ) (n byte : ℕ) → length header ≡ 4 → n ≡ 3 → set header n byte ≡ take n header ++ byte ∷ []
set_last (a ∷ b ∷ c ∷ d ∷ []) n byte four is = rw is refl
set_last _ n byte four is = absurd (omega arith)

-- The four bytes of a complete header are those of the fragment that their word describes.
pub completed_header_word : (header : List ℕ) (n byte word : ℕ) → length header ≡ 4 → n ≡ 3 → word ≡ from_be_bytes w32 (set header n byte)
    → set header n byte ≡ header_of (leb (2 ^ 31) word) (word % 2 ^ 31)
    → let w = from_be_bytes w32 (take n header ++ byte ∷ []) in take n header ++ byte ∷ [] ≡ header_of (leb (2 ^ 31) w) (w % 2 ^ 31)
completed_header_word header n byte word four is value whole =
    subst (λ (h : List ℕ). let w = from_be_bytes w32 h in h ≡ header_of (leb (2 ^ 31) w) (w % 2 ^ 31)) (set_last header n byte four is)
    (subst (λ (w : ℕ). set header n byte ≡ header_of (leb (2 ^ 31) w) (w % 2 ^ 31)) value whole)

pub three_header_bytes_came : (spot : Place) (payload n : ℕ) (p h : List ℕ) → IsPlace spot payload n → IsInHeader (tail_of spot p h) → 3 ≤ n
    → n ≡ 3
three_header_bytes_came place.Header payload n p h at in_header le = omega (arith, at.1)
three_header_bytes_came _ payload n p h at in_header le = absurd in_header

-- A byte that doesn't complete the header is stored after the others.
pub header_byte_stored : (bytes lengths header : List ℕ) (n byte : ℕ) (spot : Place) (old : Records)
    → held_of bytes lengths (take n header) spot ≡ old → IsInHeader old.tail → n < 3 → length header ≡ 4
    → held_of bytes lengths (take (n + 1) (set header n byte)) spot ≡ after_byte old.records old.tail byte
header_byte_stored bytes lengths header n byte spot old is in_header less four =
    subst (λ (h : Records). IsInHeader h.tail
    → held_of bytes lengths (take (n + 1) (set header n byte)) spot ≡ after_byte h.records h.tail byte) is (at spot) in_header
  where
    at : (p : Place) → IsInHeader (tail_of p (drop (sum lengths) bytes) (take n header))
        → held_of bytes lengths (take (n + 1) (set header n byte)) p
        ≡ after_byte (cut lengths bytes) (tail_of p (drop (sum lengths) bytes) (take n header)) byte
    at place.Header h =
        rw (take_more_set header n byte (omega arith), length-take-le n header (omega arith), lt-ltb n 3 less) refl
    at (place.Data missing last) h = absurd h
    at place.TooLong h = absurd h

-- A byte that completes the header opens the fragment that the header describes.
pub header_byte_opens_fragment : (bytes lengths header : List ℕ) (n byte word : ℕ) (spot : Place) (old new : Records)
    → held_of bytes lengths (take n header) spot ≡ old → IsInHeader old.tail → length header ≡ 4 → n ≡ 3
    → word ≡ from_be_bytes w32 (set header n byte)
    → new ≡ after_header (cut lengths bytes) (tail_of spot (drop (sum lengths) bytes) []) (word % 2 ^ 31) (leb (2 ^ 31) word)
    → new ≡ after_byte old.records old.tail byte
header_byte_opens_fragment bytes lengths header n byte word spot old new is in_header four whole word_is value =
    value ∙ subst (λ (h : Records). IsInHeader h.tail
    → after_header (cut lengths bytes) (tail_of spot (drop (sum lengths) bytes) []) (word % 2 ^ 31) (leb (2 ^ 31) word)
    ≡ after_byte h.records h.tail byte) is (at spot) in_header
  where
    at : (p : Place) → IsInHeader (tail_of p (drop (sum lengths) bytes) (take n header))
        → after_header (cut lengths bytes) (tail_of p (drop (sum lengths) bytes) []) (word % 2 ^ 31) (leb (2 ^ 31) word)
        ≡ after_byte (cut lengths bytes) (tail_of p (drop (sum lengths) bytes) (take n header)) byte
    at place.Header h =
        rw (length-take-le n header (omega arith), le-ltb n 3 (omega arith), ← set_last header n byte four whole, ← word_is) refl
    at (place.Data missing last) h = absurd h
    at place.TooLong h = absurd h

-- The same as `data_goes`, for the fields of a buffer.
pub data_goes_on : (bytes lengths header : List ℕ) (spot : Place) (old new : Records) (missing : ℕ) (last : Bool) (piece : List ℕ)
    → held_of bytes lengths header spot ≡ old
    → spot ≡ place.Data missing last → new ≡ after_data old.records old.tail piece → length piece ≤ missing → GoesOn old new piece
data_goes_on bytes lengths header spot old new missing last piece is at value within =
    let old_is : held_of bytes lengths header (place.Data missing last) ≡ old = ap (held_of bytes lengths header) (sym at) ∙ is in
    rw value (subst (λ (h : Records). GoesOn h (after_data h.records h.tail piece) piece) old_is
    (data_goes (cut lengths bytes) (drop (sum lengths) bytes) piece missing last within))

-- After a record that is too long, any bytes leave the buffer as it is.
long_goes : (records : List (List ℕ)) (piece : List ℕ) → GoesOn (held records TooLong) (held records TooLong) piece
long_goes records piece stream dropped st =
    tail_extends records TooLong TooLong stream piece dropped st (still_long stream piece st.all st.splits)

-- The same for the fields of a buffer.
pub long_goes_on : (bytes lengths header : List ℕ) (spot : Place) (old : Records) (piece : List ℕ)
    → held_of bytes lengths header spot ≡ old → spot ≡ place.TooLong → GoesOn old old piece
long_goes_on bytes lengths header spot old piece is at =
    subst (λ (h : Records). GoesOn h h piece) (ap (held_of bytes lengths header) (sym at) ∙ is) (long_goes (cut lengths bytes) piece)
