-- Reading a byte stream gives its complete records, and its tail, which is what follows them.
use Rattle.std.proofs.Common.{◌≡◌, ℕ, zero, suc, ◌+◌, ◌-◌, ◌%◌, ◌<◌, ◌≤◌, ◌^◌, Bool, true, false, leb, List, [], ◌∷◌, ◌++◌, length, take, drop, refl, sym, ap, subst, ◌∙◌, inl, inr, append_assoc, arith, lt-ltb, le-ltb}
use Rattle.std.specs.List.{concat, flat_map}
use Rattle.std.specs.Int.{w32, from_be_bytes}
use Rattle.std.proofs.lemmas.Bool.{cases_lt}
use Rattle.std.proofs.lemmas.List.{append-nil, length-append, length-drop, length-take-le, take-append-drop, get_or-drop}
use Rattle.sv_xdr.proofs.Fields.{IsBytes, bytes_are}
use Rattle.sv_rpc.specs.Limits.{max_record}
use Rattle.sv_rpc.specs.Record.{header_of, fragment, Sent, Tail, Header, Data, TooLong, IsTail, Splits}
use Rattle.sv_rpc.specs.Stream.{Reading, read_on, read_data, read, reading, records_of, tail_of}
use Rattle.sv_rpc.specs.Laws.{ReadAsSplit}
use Rattle.sv_rpc.proofs.Steps.{header_of_word}

-- The unfinished record begins with the fragments `front`, none of which is its last. `bytes`
-- follow them, and the whole splits into the records and the tail of `reading`.
abbrev pub SplitsAfter : List (List ℕ) → List ℕ → Reading → Type 0
SplitsAfter front bytes reading = Splits (flat_map (fragment false) front ++ bytes) reading.0 reading.1

-- Bytes without a complete record are a tail.
splits_as_tail : (front : List (List ℕ)) (bytes : List ℕ) (tail : Tail) → IsTail (flat_map (fragment false) front ++ bytes) tail
    → SplitsAfter front bytes ([], tail)
splits_as_tail front bytes tail is = record {
  sent = [];
  rest = flat_map (fragment false) front ++ bytes;
  whole = refl;
  records_are = refl;
  taken = tt;
  behind = is;
}

fragments_append : (front : List (List ℕ)) (text rest : List ℕ)
    → flat_map (fragment false) (front ++ text ∷ []) ++ rest ≡ flat_map (fragment false) front ++ (fragment false text ++ rest)
fragments_append [] text rest = ap (λ (l : List ℕ). l ++ rest) (append-nil (fragment false text))
fragments_append (first ∷ front) text rest =
    append_assoc (fragment false first) (flat_map (fragment false) (front ++ text ∷ [])) rest
    ∙ ap (λ (l : List ℕ). fragment false first ++ l) (fragments_append front text rest)
    ∙ sym (append_assoc (fragment false first) (flat_map (fragment false) front) (fragment false text ++ rest))

pub concat_more : (front : List (List ℕ)) (text : List ℕ) → concat (front ++ text ∷ []) ≡ concat front ++ text
concat_more [] text = append-nil text
concat_more (first ∷ front) text = ap (λ (l : List ℕ). first ++ l) (concat_more front text) ∙ sym (append_assoc first (concat front) text)

-- A last fragment completes the record; the stream after it splits on its own.
splits_after_last_fragment : (front : List (List ℕ)) (text rest : List ℕ) (all : List (List ℕ)) (tail : Tail)
    → length (concat front ++ text) ≤ max_record
    → Splits rest all tail → SplitsAfter front (fragment true text ++ rest) ((concat front ++ text) ∷ all, tail)
splits_after_last_fragment front text rest all tail short splits =
    let first : Sent = record { front = front; final = text } in
    record {
      sent = first ∷ splits.sent;
      rest = splits.rest;
      whole = ap (λ (l : List ℕ). flat_map (fragment false) front ++ (fragment true text ++ l)) splits.whole ∙ (simp append_assoc);
      records_are = ap (λ (l : List (List ℕ)). (concat front ++ text) ∷ l) splits.records_are;
      taken = (short, splits.taken);
      behind = splits.behind;
    }

bytes_after_drop : (n : ℕ) (bytes : List ℕ) → IsBytes bytes → IsBytes (drop n bytes)
bytes_after_drop n bytes fits i = subst (λ (b : ℕ). b < 256) (sym (get_or-drop n bytes i 0)) (fits (n + i))

first_four : (a b c d : ℕ) → a < 256 → b < 256 → c < 256 → d < 256 → IsBytes (a ∷ b ∷ c ∷ d ∷ [])
first_four a b c d e f g h zero = e
first_four a b c d e f g h (suc zero) = f
first_four a b c d e f g h (suc (suc zero)) = g
first_four a b c d e f g h (suc (suc (suc zero))) = h
first_four a b c d e f g h (suc (suc (suc (suc i)))) = omega arith

word_small : (a b c d : ℕ) (rest : List ℕ) → a < 256 → b < 256 → c < 256 → d < 256 → from_be_bytes w32 (a ∷ b ∷ c ∷ d ∷ rest) < 2 ^ 32
word_small a b c d rest e f g h = omega arith

part_of : (front : List (List ℕ)) (last : Bool) (size : ℕ) (rest : List ℕ) → length rest < size
    → flat_map (fragment false) front ++ (header_of last size ++ rest)
    ≡ flat_map (fragment false) front ++ (header_of last (length rest + (size - length rest)) ++ rest)
part_of front last size rest less =
    let same : length rest + (size - length rest) ≡ size = omega (arith, less) in
    ap (λ (m : ℕ). flat_map (fragment false) front ++ (header_of last m ++ rest)) (sym same)

-- Any four bytes are the header of a fragment.
four_bytes_are_header : (bytes : List ℕ) → 4 ≤ length bytes → IsBytes bytes
    → bytes ≡ header_of (leb (2 ^ 31) (from_be_bytes w32 bytes)) (from_be_bytes w32 bytes % 2 ^ 31) ++ drop 4 bytes
four_bytes_are_header (a ∷ b ∷ c ∷ d ∷ rest) four fits =
    ap (λ (l : List ℕ). l ++ rest) (header_of_word (a ∷ b ∷ c ∷ d ∷ []) (from_be_bytes w32 (a ∷ b ∷ c ∷ d ∷ rest)) refl
    (first_four a b c d (fits 0) (fits 1) (fits 2) (fits 3)) refl (word_small a b c d rest (fits 0) (fits 1) (fits 2) (fits 3)))
four_bytes_are_header _ four fits = absurd (omega arith)

-- The bytes after a fragment's header split as they are read.
pub data_splits : (n : ℕ) (front : List (List ℕ)) (last : Bool) (size : ℕ) (rest : List ℕ)
    → ((others : List (List ℕ)) (bytes : List ℕ) → length bytes < n → IsBytes bytes → length (concat others) ≤ max_record
    → SplitsAfter others bytes (read n (concat others) bytes))
    → length rest < n → IsBytes rest → length (concat front) ≤ max_record → size < 2 ^ 31
    → SplitsAfter front (header_of last size ++ rest) (read_data (read n) (concat front) last size rest)
data_splits n front last size rest again short fits kept small = elim (cases_lt max_record (length (concat front) + size)) [
  | inl long ↦ rw (lt-ltb max_record (length (concat front) + size) long)
      (splits_as_tail front (header_of last size ++ rest) TooLong (front, size, last, rest, refl, kept, small, long))
  | inr within ↦ rw (le-ltb max_record (length (concat front) + size) within) (elim (cases_lt (length rest) size) [
    | inl less ↦ rw (lt-ltb (length rest) size less) (splits_as_tail front (header_of last size ++ rest)
        (Data (concat front ++ rest) (size - length rest) last) (
          front,
          rest,
          part_of front last size rest less,
          refl,
          omega (arith, less),
          omega (arith, length-append (concat front) rest),
        ))
    | inr whole ↦ rw (le-ltb (length rest) size whole) (whole_fragment last whole within)
  ])
]
  where
    -- The fragment's data, and the bytes after them.
    cut : rest ≡ take size rest ++ drop size rest
    cut = sym (take-append-drop size rest)

    taken_size : size ≤ length rest → length (take size rest) ≡ size
    taken_size whole = length-take-le size rest whole

    is_fragment : (b : Bool) → size ≤ length rest → header_of b size ++ rest ≡ fragment b (take size rest) ++ drop size rest
    is_fragment b whole = ap (λ (l : List ℕ). header_of b size ++ l) cut
        ∙ ap (λ (m : ℕ). header_of b m ++ (take size rest ++ drop size rest)) (sym (taken_size whole))
        ∙ sym (append_assoc (header_of b (length (take size rest))) (take size rest) (drop size rest))

    fewer : length (drop size rest) < n
    fewer = omega (arith, length-drop size rest)

    whole_fragment : (b : Bool) → size ≤ length rest → length (concat front) + size ≤ max_record
        → SplitsAfter front (header_of b size ++ rest) (read_on (read n) (concat front ++ take size rest) b (drop size rest))
    whole_fragment true whole within =
        subst (λ (l : List ℕ). SplitsAfter front l (read_on (read n) (concat front ++ take size rest) true (drop size rest)))
        (sym (is_fragment true whole))
        (splits_after_last_fragment front (take size rest) (drop size rest) _ _
        (omega (arith, length-append (concat front) (take size rest), taken_size whole))
        (again [] (drop size rest) fewer (bytes_after_drop size rest fits) (omega arith)))
    whole_fragment false whole within =
        let joined = concat_more front (take size rest) in
        let next = again (front ++ take size rest ∷ []) (drop size rest) fewer (bytes_after_drop size rest fits)
        (omega (arith, ap length joined, length-append (concat front) (take size rest), taken_size whole)) in
        subst (λ (l : List ℕ). SplitsAfter front l (read n (concat front ++ take size rest) (drop size rest)))
        (sym (is_fragment false whole))
        (subst (λ (l : List ℕ). Splits l (read n (concat front ++ take size rest) (drop size rest)).0
        (read n (concat front ++ take size rest) (drop size rest)).1) (fragments_append front (take size rest) (drop size rest))
        (subst (λ (p : List ℕ). SplitsAfter (front ++ take size rest ∷ []) (drop size rest) (read n p (drop size rest))) joined next))

-- After fragments that don't complete their record, the bytes split as they are read.
pub read_splits : (n : ℕ) (front : List (List ℕ)) (bytes : List ℕ) → length bytes < n → IsBytes bytes → length (concat front) ≤ max_record
    → SplitsAfter front bytes (read n (concat front) bytes)
unfolding read
read_splits zero front bytes less fits kept = absurd (omega arith)
read_splits (suc n) front bytes less fits kept = elim (cases_lt (length bytes) 4) [
  | inl short ↦ rw (lt-ltb (length bytes) 4 short)
      (splits_as_tail front bytes (Header (concat front) bytes) (front, refl, refl, short, kept))
  | inr four ↦ rw (le-ltb (length bytes) 4 four)
      (subst (λ (l : List ℕ). SplitsAfter front l (read_data (read n) (concat front) (leb (2 ^ 31) (from_be_bytes w32 bytes))
      (from_be_bytes w32 bytes % 2 ^ 31) (drop 4 bytes))) (sym (four_bytes_are_header bytes four fits))
      (data_splits n front (leb (2 ^ 31) (from_be_bytes w32 bytes)) (from_be_bytes w32 bytes % 2 ^ 31) (drop 4 bytes)
      (read_splits n) (omega (arith, length-drop 4 bytes)) (bytes_after_drop 4 bytes fits) kept (omega arith)))
]

pub every_stream : (stream : List ℕ) → IsBytes stream → Splits stream (records_of stream) (tail_of stream)
every_stream stream fits = read_splits (length stream + 1) [] stream (omega arith) fits (omega arith)

pub read_as_split : ReadAsSplit
read_as_split stream all = every_stream stream (bytes_are stream all)
