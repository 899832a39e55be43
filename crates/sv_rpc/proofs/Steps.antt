-- How a stream's records and tail change with one more byte of a fragment's header, or with one
-- more piece of its data.
use Rattle.std.proofs.Common.{◌≡◌, ℕ, ◌+◌, ◌-◌, ◌%◌, ◌<◌, ◌≤◌, ◌^◌, Bool, true, false, leb, List, [], ◌∷◌, ◌++◌, length, get_or, refl, sym, ap, ◌∙◌, append_assoc, arith}
use Rattle.std.specs.List.{concat, AllByRecursion}
use Rattle.std.specs.Int.{w32, to_be_bytes, from_be_bytes}
use Rattle.std.proofs.lemmas.Bool.{leb-true, leb-false}
use Rattle.std.proofs.lemmas.Nat.{be_bytes_4}
use Rattle.std.proofs.lemmas.List.{append-nil, length-append, map_push}
use Rattle.std.proofs.lemmas.List.Concat.{flat_map-append}
use Rattle.std.proofs.lemmas.List.Folds.{concat-append}
use Rattle.sv_rpc.specs.Limits.{max_record}
use Rattle.sv_rpc.specs.Record.{header_of, fragment, Sent, bytes_of, record_of, IsTaken, Tail, Header, Data, TooLong, IsTail, Splits}

pub all_push : {A : Type 0} (P : A → Type 0) (xs : List A) (x : A) → AllByRecursion P xs → P x → AllByRecursion P (xs ++ x ∷ [])
all_push P [] x all one = (one, tt)
all_push P (y ∷ xs) x all one = (all.0, all_push P xs x all.1 one)

-- The stream has the same records and another tail.
splits_with_tail : (stream piece : List ℕ) (all : List (List ℕ)) (s t : Tail) (splits : Splits stream all s)
    → IsTail (splits.rest ++ piece) t → Splits (stream ++ piece) all t
splits_with_tail stream piece all s t splits behind = record {
  sent = splits.sent;
  rest = splits.rest ++ piece;
  whole = rw (splits.whole, append_assoc) refl;
  records_are = splits.records_are;
  taken = splits.taken;
  behind = behind;
}

-- The stream has one more complete record, and nothing follows it.
splits_with_record : (stream piece : List ℕ) (all : List (List ℕ)) (text : List ℕ) (s : Tail) (splits : Splits stream all s) (sent : Sent)
    → splits.rest ++ piece ≡ bytes_of sent
    → text ≡ record_of sent → length text ≤ max_record → Splits (stream ++ piece) (all ++ text ∷ []) (Header [] [])
splits_with_record stream piece all text s splits sent is text_is taken = record {
  sent = splits.sent ++ sent ∷ [];
  rest = [];
  whole = rw (splits.whole, append_assoc, is, flat_map-append bytes_of splits.sent (sent ∷ [])) (simp append-nil);
  records_are = rw (map_push record_of splits.sent sent, splits.records_are, text_is) refl;
  taken = all_push IsTaken splits.sent sent splits.taken (rw (← text_is) taken);
  behind = ([], refl, refl, omega arith, omega arith);
}

-- The byte doesn't complete the header.
pub header_grows : (stream : List ℕ) (all : List (List ℕ)) (payload header : List ℕ) (byte : ℕ) → Splits stream all (Header payload header)
    → length header + 1 < 4 → Splits (stream ++ byte ∷ []) all (Header payload (header ++ byte ∷ []))
header_grows stream all payload header byte splits short =
    let b = splits.behind in
    splits_with_tail stream (byte ∷ []) all (Header payload header) _ splits (
      b.0,
      rw (b.1, append_assoc) refl,
      b.2,
      omega (arith, length-append header (byte ∷ [])),
      b.4,
    )

-- The byte completes the header of a fragment that has data, which fit into the record.
pub header_ends : (stream : List ℕ) (all : List (List ℕ)) (payload header : List ℕ) (byte size : ℕ) (last : Bool)
    → Splits stream all (Header payload header) → header ++ byte ∷ [] ≡ header_of last size → 0 < size → length payload + size ≤ max_record
    → Splits (stream ++ byte ∷ []) all (Data payload size last)
header_ends stream all payload header byte size last splits is some fits =
    let b = splits.behind in
    let none : 0 + size ≡ size = omega arith in
    splits_with_tail stream (byte ∷ []) all (Header payload header) _ splits
    (b.0, [], rw (b.1, append_assoc, is, none, append-nil (header_of last size)) refl, b.2 ∙ sym (append-nil (concat b.0)), some, fits)

-- The byte completes the header of an empty fragment that isn't the last one of its record.
pub empty_ends : (stream : List ℕ) (all : List (List ℕ)) (payload header : List ℕ) (byte : ℕ) → Splits stream all (Header payload header)
    → header ++ byte ∷ [] ≡ header_of false 0 → Splits (stream ++ byte ∷ []) all (Header payload [])
empty_ends stream all payload header byte splits is =
    let b = splits.behind in
    splits_with_tail stream (byte ∷ []) all (Header payload header) _ splits (
      b.0 ++ [] ∷ [],
      rw (b.1, append_assoc, is, flat_map-append (fragment false) b.0 ([] ∷ [])) (simp append-nil),
      rw (b.2, concat-append b.0 ([] ∷ [])) (simp append-nil),
      omega arith,
      b.4,
    )

-- The byte completes the header of an empty fragment that is the last one of its record.
pub empty_last_ends : (stream : List ℕ) (all : List (List ℕ)) (payload header : List ℕ) (byte : ℕ)
    → Splits stream all (Header payload header)
    → header ++ byte ∷ [] ≡ header_of true 0 → Splits (stream ++ byte ∷ []) (all ++ payload ∷ []) (Header [] [])
empty_last_ends stream all payload header byte splits is =
    let b = splits.behind in
    let sent : Sent = record { front = b.0; final = [] } in
    splits_with_record stream (byte ∷ []) all payload (Header payload header) splits sent (rw (b.1, append_assoc, is) refl)
    (b.2 ∙ sym (append-nil (concat b.0))) b.4

-- The byte completes the header of a fragment that makes the record too long.
pub header_too_long : (stream : List ℕ) (all : List (List ℕ)) (payload header : List ℕ) (byte size : ℕ) (last : Bool)
    → Splits stream all (Header payload header)
    → header ++ byte ∷ [] ≡ header_of last size → size < 2 ^ 31 → max_record < length payload + size
    → Splits (stream ++ byte ∷ []) all TooLong
header_too_long stream all payload header byte size last splits is small long =
    let b = splits.behind in
    splits_with_tail stream (byte ∷ []) all (Header payload header) _ splits
    (b.0, size, last, [], rw (b.1, append_assoc, is, append-nil (header_of last size)) refl, rw (← b.2) b.4, small, rw (← b.2) long)

-- Once a record is too long, nothing that follows changes this.
pub still_long : (stream piece : List ℕ) (all : List (List ℕ)) → Splits stream all TooLong → Splits (stream ++ piece) all TooLong
still_long stream piece all splits =
    let b = splits.behind in
    splits_with_tail stream piece all TooLong _ splits (b.0, b.1, b.2, b.3 ++ piece, rw b.4 (simp append_assoc), b.5, b.6, b.7)

-- The piece is shorter than the fragment's missing data.
pub data_grows : (stream piece : List ℕ) (all : List (List ℕ)) (payload : List ℕ) (missing : ℕ) (last : Bool)
    → Splits stream all (Data payload missing last)
    → length piece < missing → Splits (stream ++ piece) all (Data (payload ++ piece) (missing - length piece) last)
data_grows stream piece all payload missing last splits less =
    let b = splits.behind in
    let size : length (b.1 ++ piece) + (missing - length piece) ≡ length b.1 + missing = omega (arith, length-append b.1 piece) in
    splits_with_tail stream piece all (Data payload missing last) _ splits (
      b.0,
      b.1 ++ piece,
      rw (b.2, size) (simp append_assoc),
      rw (b.3, append_assoc) refl,
      omega arith,
      omega (arith, length-append payload piece),
    )

-- The piece completes a fragment that isn't the last one of its record.
pub data_ends : (stream piece : List ℕ) (all : List (List ℕ)) (payload : List ℕ) (missing : ℕ)
    → Splits stream all (Data payload missing false) → length piece ≡ missing → Splits (stream ++ piece) all (Header (payload ++ piece) [])
data_ends stream piece all payload missing splits ends =
    let b = splits.behind in
    let size : length b.1 + missing ≡ length (b.1 ++ piece) = omega (arith, length-append b.1 piece) in
    splits_with_tail stream piece all (Data payload missing false) _ splits (
      b.0 ++ (b.1 ++ piece) ∷ [],
      rw (b.2, size, flat_map-append (fragment false) b.0 ((b.1 ++ piece) ∷ [])) (simp (append_assoc, append-nil)),
      rw (b.3, concat-append b.0 ((b.1 ++ piece) ∷ [])) (simp (append_assoc, append-nil)),
      omega arith,
      omega (arith, length-append payload piece),
    )

-- The piece completes the last fragment of a record.
pub data_last_ends : (stream piece : List ℕ) (all : List (List ℕ)) (payload : List ℕ) (missing : ℕ)
    → Splits stream all (Data payload missing true)
    → length piece ≡ missing → Splits (stream ++ piece) (all ++ (payload ++ piece) ∷ []) (Header [] [])
data_last_ends stream piece all payload missing splits ends =
    let b = splits.behind in
    let size : length b.1 + missing ≡ length (b.1 ++ piece) = omega (arith, length-append b.1 piece) in
    let sent : Sent = record { front = b.0; final = b.1 ++ piece } in
    splits_with_record stream piece all (payload ++ piece) (Data payload missing true) splits sent (rw (b.2, size) (simp append_assoc))
    (rw (b.3, append_assoc) refl)
    (omega (arith, length-append payload piece))

-- Each 32-bit word is encoded as the header of a fragment.
word_is_header : (word : ℕ) (last : Bool) → leb (2 ^ 31) word ≡ last → word < 2 ^ 32 → to_be_bytes w32 word ≡ header_of last (word % 2 ^ 31)
word_is_header word true is small = ap (to_be_bytes w32) (omega (arith, leb-true (2 ^ 31) word is))
word_is_header word false is small = ap (to_be_bytes w32) (omega (arith, leb-false (2 ^ 31) word is))

-- Four bytes are the header that their word stands for: its top bit marks the last fragment, and
-- the other bits are the length.
pub header_of_word : (header : List ℕ) (word : ℕ) → length header ≡ 4 → ((i : ℕ) → get_or header i 0 < 256)
    → word ≡ from_be_bytes w32 header → word < 2 ^ 32 → header ≡ header_of (leb (2 ^ 31) word) (word % 2 ^ 31)
header_of_word header word four bytes is small = sym (be_bytes_4 header word four bytes is)
    ∙ word_is_header word (leb (2 ^ 31) word) refl small
