-- What is read of a stream to which bytes are appended: the records of the stream, and then what is
-- read from its tail on.
use Rattle.std.proofs.Common.{◌≡◌, ℕ, zero, suc, ◌+◌, ◌-◌, ◌%◌, ◌<◌, ◌^◌, Bool, true, false, leb, List, [], ◌∷◌, ◌++◌, length, take, drop, refl, sym, ap, ◌∙◌, inl, inr, append_assoc, arith, lt-ltb, le-ltb}
use Rattle.std.specs.Prelude.{nat_lt, if◌then◌else◌}
use Rattle.std.specs.Int.{w32, from_be_bytes}
use Rattle.std.proofs.lemmas.Bool.{cases_lt}
use Rattle.std.proofs.lemmas.List.{length-append, length-drop, take-append-le, drop-append-le, drop_at}
use Rattle.std.proofs.Math.Seq.{take-append-add, drop-append-add}
use Rattle.sv_rpc.specs.Record.{Tail, Header, Data, TooLong}
use Rattle.sv_rpc.specs.Stream.{Reading, read_on, read_data, read, reading, records_of, tail_of}
use Rattle.sv_rpc.specs.Limits.{max_record}

-- ---- the limit on fragments makes no difference if it is large enough

abbrev SameRead : ℕ → ℕ → Type 0
SameRead n m = (payload bytes : List ℕ) → length bytes < n → length bytes < m → read n payload bytes ≡ read m payload bytes

on_any : (n m : ℕ) (payload : List ℕ) (last : Bool) (rest : List ℕ) → SameRead n m → length rest < n → length rest < m
    → read_on (read n) payload last rest ≡ read_on (read m) payload last rest
on_any n m payload true rest same less also = rw (same [] rest less also) refl
on_any n m payload false rest same less also = same payload rest less also

data_any : (n m : ℕ) (payload : List ℕ) (last : Bool) (size : ℕ) (rest : List ℕ) → SameRead n m → length rest < n → length rest < m
    → read_data (read n) payload last size rest ≡ read_data (read m) payload last size rest
data_any n m payload last size rest same less also = elim (cases_lt max_record (length payload + size)) [
  | inl long ↦ rw (lt-ltb max_record (length payload + size) long) refl
  | inr within ↦ rw (le-ltb max_record (length payload + size) within) (elim (cases_lt (length rest) size) [
    | inl part ↦ rw (lt-ltb (length rest) size part) refl
    | inr whole ↦ rw (le-ltb (length rest) size whole) (on_any n m (payload ++ take size rest) last (drop size rest) same
        (omega (arith, length-drop size rest)) (omega (arith, length-drop size rest)))
  ])
]

read_limit_does_not_matter : (n m : ℕ) → SameRead n m
unfolding read
read_limit_does_not_matter zero m payload bytes less also = absurd (omega (arith, less))
read_limit_does_not_matter (suc n) zero payload bytes less also = absurd (omega (arith, also))
read_limit_does_not_matter (suc n) (suc m) payload bytes less also = elim (cases_lt (length bytes) 4) [
  | inl short ↦ rw (lt-ltb (length bytes) 4 short) refl
  | inr four ↦ rw (le-ltb (length bytes) 4 four) (data_any n m payload (leb (2 ^ 31) (from_be_bytes w32 bytes))
      (from_be_bytes w32 bytes % 2 ^ 31) (drop 4 bytes) (read_limit_does_not_matter n m) (omega (arith, length-drop 4 bytes))
      (omega (arith, length-drop 4 bytes)))
]

-- ---- more bytes

-- The records and the tail that are read from a tail and the bytes after it.
abbrev pub resumed_at : Tail → List ℕ → Reading
resumed_at (Header payload header) more = read (length (header ++ more) + 1) payload (header ++ more)
resumed_at (Data payload missing last) more =
    if nat_lt (length more) missing then ([], Data (payload ++ more) (missing - length more) last)
    else read_on (read (length more + 1)) (payload ++ take missing more) last (drop missing more)
resumed_at TooLong more = ([], TooLong)

-- The records and the tail that are read from a reading and the bytes after it.
abbrev pub resumed : Reading → List ℕ → Reading
resumed part more = (part.0 ++ (resumed_at part.1 more).0, (resumed_at part.1 more).1)

abbrev Resumes : ℕ → List ℕ → Type 0
Resumes n more = (payload bytes : List ℕ) → length (bytes ++ more) < n
    → read n payload (bytes ++ more) ≡ resumed (read n payload bytes) more

on_more : (n : ℕ) (payload : List ℕ) (last : Bool) (rest more : List ℕ) → Resumes n more → length (rest ++ more) < n
    → read_on (read n) payload last (rest ++ more) ≡ resumed (read_on (read n) payload last rest) more
on_more n payload true rest more again less = rw (again [] rest less) refl
on_more n payload false rest more again less = again payload rest less

-- The case that the bytes after a header are fewer than the fragment's data.
part_more : (n : ℕ) (payload : List ℕ) (last : Bool) (size : ℕ) (rest more : List ℕ) → length (rest ++ more) < n → length rest < size
    → (if nat_lt (length (rest ++ more)) size then ([], Data (payload ++ (rest ++ more)) (size - length (rest ++ more)) last)
    else read_on (read n) (payload ++ take size (rest ++ more)) last (drop size (rest ++ more)))
    ≡ resumed_at (Data (payload ++ rest) (size - length rest) last) more
part_more n payload last size rest more less part = elim (cases_lt (length more) (size - length rest)) [
  | inl few ↦
      let left : size - length (rest ++ more) ≡ size - length rest - length more = omega (arith, length-append rest more) in
      rw (
        lt-ltb (length more) (size - length rest) few,
        lt-ltb (length (rest ++ more)) size (omega (arith, length-append rest more)),
        append_assoc payload rest more,
        left,
      ) refl
  | inr enough ↦
      let same : length rest + (size - length rest) ≡ size = omega (arith, part) in
      let taken : take size (rest ++ more) ≡ rest ++ take (size - length rest) more =
      ap (λ (m : ℕ). take m (rest ++ more)) (sym same) ∙ take-append-add rest more (size - length rest) in
      let behind : drop size (rest ++ more) ≡ drop (size - length rest) more =
      ap (λ (m : ℕ). drop m (rest ++ more)) (sym same) ∙ drop-append-add rest more (size - length rest) in
      rw (
        le-ltb (length more) (size - length rest) enough,
        le-ltb (length (rest ++ more)) size (omega (arith, length-append rest more)),
        taken,
        behind,
        append_assoc payload rest (take (size - length rest) more),
      )
      (on_any n (length more + 1) (payload ++ (rest ++ take (size - length rest) more)) last (drop (size - length rest) more)
      (read_limit_does_not_matter n (length more + 1)) (omega (arith, length-drop (size - length rest) more, length-append rest more))
      (omega (arith, length-drop (size - length rest) more)))
]

data_more : (n : ℕ) (payload : List ℕ) (last : Bool) (size : ℕ) (rest more : List ℕ) → Resumes n more → length (rest ++ more) < n
    → read_data (read n) payload last size (rest ++ more) ≡ resumed (read_data (read n) payload last size rest) more
data_more n payload last size rest more again less = elim (cases_lt max_record (length payload + size)) [
  | inl long ↦ rw (lt-ltb max_record (length payload + size) long) refl
  | inr within ↦ rw (le-ltb max_record (length payload + size) within) (elim (cases_lt (length rest) size) [
    | inl part ↦ rw (lt-ltb (length rest) size part) (part_more n payload last size rest more less part)
    | inr whole ↦ rw (
      le-ltb (length rest) size whole,
      le-ltb (length (rest ++ more)) size (omega (arith, whole, length-append rest more)),
      take-append-le size rest more whole,
      drop-append-le size rest more whole,
    ) (on_more n (payload ++ take size rest) last (drop size rest) more again
        (omega (arith, length-append (drop size rest) more, length-append rest more, length-drop size rest)))
  ])
]

short_more : (n : ℕ) (payload bytes more : List ℕ) → length bytes < 4 → length (bytes ++ more) < suc n
    → read (suc n) payload (bytes ++ more) ≡ resumed (read (suc n) payload bytes) more
unfolding read
short_more n payload bytes more short less = rw (lt-ltb (length bytes) 4 short)
    (read_limit_does_not_matter (suc n) (length (bytes ++ more) + 1) payload (bytes ++ more) less (omega arith))

read_append : (n : ℕ) (more : List ℕ) → Resumes n more
unfolding read
read_append zero more payload bytes less = absurd (omega (arith, less))
read_append (suc n) more payload [] less = short_more n payload [] more (omega arith) less
read_append (suc n) more payload (a ∷ []) less = short_more n payload (a ∷ []) more (omega arith) less
read_append (suc n) more payload (a ∷ b ∷ []) less = short_more n payload (a ∷ b ∷ []) more (omega arith) less
read_append (suc n) more payload (a ∷ b ∷ c ∷ []) less = short_more n payload (a ∷ b ∷ c ∷ []) more (omega arith) less
read_append (suc n) more payload (a ∷ b ∷ c ∷ d ∷ rest) less =
    let word = from_be_bytes w32 (a ∷ b ∷ c ∷ d ∷ rest) in
    rw (le-ltb (length (a ∷ b ∷ c ∷ d ∷ rest)) 4 (omega arith), le-ltb (length (a ∷ b ∷ c ∷ d ∷ (rest ++ more))) 4 (omega arith))
    (data_more n payload (leb (2 ^ 31) word) (word % 2 ^ 31) rest more (read_append n more) (omega (arith, less)))

reading_append : (stream more : List ℕ) → reading (stream ++ more) ≡ resumed (reading stream) more
reading_append stream more =
    let size = length (stream ++ more) + 1 in
    read_append size more [] stream (omega arith)
    ∙ ap (λ (r : Reading). resumed r more)
    (read_limit_does_not_matter size (length stream + 1) [] stream (omega (arith, length-append stream more)) (omega arith))

pub records_of_append : (stream more : List ℕ) → records_of (stream ++ more) ≡ records_of stream ++ (resumed_at (tail_of stream) more).0
records_of_append stream more = ap (λ (r : Reading). r.0) (reading_append stream more)

-- If the same is read of two streams, the same is read of both after the same bytes are appended.
pub same_reading_append : (one two more : List ℕ) → reading one ≡ reading two → reading (one ++ more) ≡ reading (two ++ more)
same_reading_append one two more same = reading_append one more ∙ ap (λ (r : Reading). resumed r more) same ∙ sym (reading_append two more)

-- If two streams have the same tail, the same further records are read of both after the same bytes
-- are appended.
pub same_tail_same_records : (one two : List ℕ) (n m : ℕ) → length (records_of one) ≡ n → length (records_of two) ≡ m
    → tail_of one ≡ tail_of two → (more : List ℕ) → drop n (records_of (one ++ more)) ≡ drop m (records_of (two ++ more))
same_tail_same_records one two n m first second same more =
    ap (λ (l : List (List ℕ)). drop n l) (records_of_append one more)
    ∙ drop_at (records_of one) (resumed_at (tail_of one) more).0 n first
    ∙ ap (λ (t : Tail). (resumed_at t more).0) same
    ∙ sym (drop_at (records_of two) (resumed_at (tail_of two) more).0 m second)
    ∙ sym (ap (λ (l : List (List ℕ)). drop m l) (records_of_append two more))
