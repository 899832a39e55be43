-- A byte stream splits into records and a tail in only one way.
use Rattle.std.proofs.Common.{◌≡◌, ℕ, zero, suc, ◌+◌, ◌-◌, ◌%◌, ◌<◌, ◌≤◌, ◌^◌, Bool, true, false, leb, List, [], ◌∷◌, ◌++◌, length, drop, map, refl, sym, ap, subst, ◌∙◌, append_assoc, arith, lt-ltb, le-ltb}
use Rattle.std.specs.List.{concat, flat_map, AllByRecursion}
use Rattle.std.specs.Int.{w32, from_be_bytes}
use Rattle.std.proofs.lemmas.Bool.{le-leb, lt-leb}
use Rattle.std.proofs.lemmas.Nat.{from_be_bytes-to_be_bytes_4}
use Rattle.std.proofs.lemmas.List.{append-nil, length-append, take_at, drop_at}
use Rattle.sv_rpc.specs.Limits.{max_record}
use Rattle.sv_rpc.specs.Record.{header_of, fragment, Sent, bytes_of, record_of, IsTaken, Tail, Header, Data, TooLong, IsTail, Splits}
use Rattle.sv_rpc.specs.Stream.{Reading, read_on, read_data, read, reading}
use Rattle.sv_rpc.specs.Laws.{OneReading, ReadAlone}

-- After `payload` of the record came, the bytes are read as `reading`, if `n` is large enough.
abbrev IsReadAs : List ℕ → List ℕ → Reading → Type 0
IsReadAs payload bytes reading = (n : ℕ) → length bytes < n → read n payload bytes ≡ reading

-- A header's word has the mark of the last fragment as its top bit, and the length in the others.
header_word : (last : Bool) (size : ℕ) (rest : List ℕ) → size < 2 ^ 31
    → (leb (2 ^ 31) (from_be_bytes w32 (header_of last size ++ rest)) ≡ last)
    × (from_be_bytes w32 (header_of last size ++ rest) % 2 ^ 31 ≡ size)
    × (drop 4 (header_of last size ++ rest) ≡ rest) × (length (header_of last size ++ rest) ≡ 4 + length rest)
header_word true size rest small =
    let word : from_be_bytes w32 (header_of true size ++ rest) ≡ size + 2 ^ 31 =
    from_be_bytes-to_be_bytes_4 (size + 2 ^ 31) (omega arith) in
    (le-leb _ _ (omega arith), omega arith, refl, omega arith)
header_word false size rest small =
    let word : from_be_bytes w32 (header_of false size ++ rest) ≡ size = from_be_bytes-to_be_bytes_4 size (omega arith) in
    (lt-leb _ _ (omega arith), omega arith, refl, omega arith)

-- Fewer than four bytes are an unfinished header.
short_reads : (payload header : List ℕ) → length header < 4 → IsReadAs payload header ([], Header payload header)
unfolding read
short_reads payload header short zero more = absurd (omega arith)
short_reads payload header short (suc n) more = rw (lt-ltb (length header) 4 short) refl

-- After a header, its fragment's data are read.
header_reads : (last : Bool) (size : ℕ) (payload rest : List ℕ) (reading : Reading) → size < 2 ^ 31
    → ((n : ℕ) → length rest < n → read_data (read n) payload last size rest ≡ reading)
    → IsReadAs payload (header_of last size ++ rest) reading
unfolding read
header_reads last size payload rest reading small next zero more = absurd (omega arith)
header_reads last size payload rest reading small next (suc n) more =
    let w = header_word last size rest small in
    rw (le-ltb (length (header_of last size ++ rest)) 4 (omega (arith, w)), w.0, w.1, w.2) (next n (omega (arith, w)))

-- A header that makes the record too long ends the reading.
long_reads : (last : Bool) (size : ℕ) (payload rest : List ℕ) → size < 2 ^ 31 → max_record < length payload + size
    → IsReadAs payload (header_of last size ++ rest) ([], TooLong)
long_reads last size payload rest small long = header_reads last size payload rest ([], TooLong) small
    (λ n more. rw (lt-ltb max_record (length payload + size) long) refl)

-- A header with too few bytes after it is a fragment with missing data.
part_reads : (last : Bool) (missing : ℕ) (payload text : List ℕ) → 0 < missing → length payload + (length text + missing) ≤ max_record
    → IsReadAs payload (header_of last (length text + missing) ++ text) ([], Data (payload ++ text) missing last)
part_reads last missing payload text some fits =
    let left : length text + missing - length text ≡ missing = omega arith in
    header_reads last (length text + missing) payload text ([], Data (payload ++ text) missing last) (omega arith)
    (λ n more. rw (
      le-ltb max_record (length payload + (length text + missing)) fits,
      lt-ltb (length text) (length text + missing) (omega arith),
      left,
    ) refl)

-- After a complete fragment, the next one is read.
fragment_reads : (last : Bool) (payload text rest : List ℕ) (reading : Reading) → length payload + length text ≤ max_record
    → ((n : ℕ) → length rest < n → read_on (read n) (payload ++ text) last rest ≡ reading)
    → IsReadAs payload (fragment last text ++ rest) reading
fragment_reads last payload text rest reading fits next =
    let long : length text ≤ length (text ++ rest) = omega (arith, length-append text rest) in
    rw (append_assoc (header_of last (length text)) text rest)
    (header_reads last (length text) payload (text ++ rest) reading (omega arith)
    (λ n more. rw (
      le-ltb max_record (length payload + length text) fits,
      le-ltb (length (text ++ rest)) (length text) long,
      take_at text rest (length text) refl,
      drop_at text rest (length text) refl,
    )
    (next n (omega (arith, length-append text rest)))))

reads_of_equal_bytes : (payload a b : List ℕ) (reading : Reading) → b ≡ a → IsReadAs payload a reading → IsReadAs payload b reading
reads_of_equal_bytes payload a b reading same reads = subst (λ bytes. IsReadAs payload bytes reading) (sym same) reads

-- Fragments before the last one add their data to the record.
first_fragments_read : (front : List (List ℕ)) (payload rest : List ℕ) (reading : Reading)
    → length payload + length (concat front) ≤ max_record → IsReadAs (payload ++ concat front) rest reading
    → IsReadAs payload (flat_map (fragment false) front ++ rest) reading
first_fragments_read [] payload rest reading fits next = rw append-nil at next
first_fragments_read (text ∷ front) payload rest reading fits next =
    let size = length-append text (concat front) in
    let again = first_fragments_read front (payload ++ text) rest reading (omega (arith, length-append payload text)) (rw append_assoc next)
    in
    reads_of_equal_bytes payload _ _ reading (append_assoc (fragment false text) (flat_map (fragment false) front) rest)
    (fragment_reads false payload text (flat_map (fragment false) front ++ rest) reading (omega arith) again)

-- Complete records are read one after the other, and then the tail.
records_read : (sent : List Sent) (rest : List ℕ) (tail : Tail) → AllByRecursion IsTaken sent → IsReadAs [] rest ([], tail)
    → IsReadAs [] (flat_map bytes_of sent ++ rest) (map record_of sent, tail)
records_read [] rest tail taken next = next
records_read (first ∷ sent) rest tail taken next =
    let others = records_read sent rest tail taken.1 next in
    let size = length-append (concat first.front) first.final in
    let bytes = flat_map bytes_of sent ++ rest in
    let final = fragment_reads true (concat first.front) first.final bytes (map record_of (first ∷ sent), tail) (omega (arith, taken.0))
    (λ n more. rw (others n more) refl) in
    reads_of_equal_bytes [] _ _ (map record_of (first ∷ sent), tail) (simp append_assoc)
    (first_fragments_read first.front [] (fragment true first.final ++ bytes) (map record_of (first ∷ sent), tail) (omega (arith, taken.0))
    final)

-- A tail is read as this tail.
tail_reads : (rest : List ℕ) (tail : Tail) → IsTail rest tail → IsReadAs [] rest ([], tail)
tail_reads rest (Header payload header) is =
    let size = ap length is.2 in
    rw (is.1, is.2) (first_fragments_read is.0 [] header _ (omega (arith, size, is.4)) (short_reads (concat is.0) header is.3))
tail_reads rest (Data payload missing last) is =
    let size = ap length is.3 ∙ length-append (concat is.0) is.1 in
    rw (is.2, is.3)
    (first_fragments_read is.0 [] (header_of last (length is.1 + missing) ++ is.1) _ (omega (arith, size, is.5))
    (part_reads last missing (concat is.0) is.1 is.4 (omega (arith, size, is.5))))
tail_reads rest TooLong is =
    rw is.4 (first_fragments_read is.0 [] (header_of is.2 is.1 ++ is.3) _ (omega (arith, is.5))
    (long_reads is.2 is.1 (concat is.0) is.3 is.6 is.7))

-- A stream is read as the records and the tail into which it splits.
splits_read : (stream : List ℕ) (all : List (List ℕ)) (tail : Tail) → Splits stream all tail → IsReadAs [] stream (all, tail)
splits_read stream all tail splits = rw (splits.whole, ← splits.records_are)
    (records_read splits.sent splits.rest tail splits.taken (tail_reads splits.rest tail splits.behind))

-- A stream that splits in two ways is read as both, so they are equal.
pub one_reading : OneReading
one_reading stream a b s t one other =
    let size : length stream < length stream + 1 = omega arith in
    let same = sym (splits_read stream a s one (length stream + 1) size) ∙ splits_read stream b t other (length stream + 1) size in
    (ap (λ (r : Reading). r.0) same, ap (λ (r : Reading). r.1) same)

pub read_alone : ReadAlone
read_alone stream records tail splits =
    let same = splits_read stream records tail splits (length stream + 1) (omega arith) in
    (sym (ap (λ (r : Reading). r.0) same), sym (ap (λ (r : Reading). r.1) same))
