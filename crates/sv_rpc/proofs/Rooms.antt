-- Bytes that fit into the room of a buffer still fit while they are pushed one by one.
use Rattle.std.proofs.Common.{◌≡◌, ℕ, ◌+◌, ◌-◌, ◌<◌, ◌≤◌, Bool, true, false, cond, List, [], ◌∷◌, ◌++◌, length, drop, ap, subst, ◌∙◌, arith, inl, inr}
use Rattle.std.specs.Prelude.{sum, sum_by}
use Rattle.std.proofs.lemmas.Bool.{cases_lt, le-ltb, lt-ltb}
use Rattle.std.proofs.lemmas.List.{length-append}
use Rattle.std.proofs.lemmas.List.Sums.{sum_by-append, sum_by-cons}
use Rattle.sv_rpc.specs.declared.record_buf.Place.{Place}
use Rattle.sv_rpc.specs.declared.record_buf.Place.TheVariants as place
use Rattle.sv_rpc.specs.Limits.{capacity, max_record}
use Rattle.sv_rpc.specs.Record.{Tail, Header, Data, TooLong}
use Rattle.sv_rpc.specs.RecordBuf.{Records, used_by, room_of}
use Rattle.sv_rpc.specs.Representation.{InRoom, Fits, IsInHeader, IsInData, held_of, tail_of, spare_of, after_byte, after_header, after_data}

counted_push : (records : List (List ℕ)) (r : List ℕ)
    → sum_by (λ (r : List ℕ). 4 + length r) (records ++ r ∷ []) ≡ sum_by (λ (r : List ℕ). 4 + length r) records + (4 + length r)
counted_push records r = sum_by-append (λ r. 4 + length r) records (r ∷ [])
    ∙ ap (λ (n : ℕ). sum_by (λ (r : List ℕ). 4 + length r) records + n) (sum_by-cons (λ (r : List ℕ). 4 + length r) r [] ∙ omega arith)

spare_is_small : (payload : List ℕ) → spare_of payload ≤ 4
spare_is_small [] = omega arith
spare_is_small (b ∷ payload) = omega arith

-- After a complete header, the bytes that follow it still fit.
header_room : (records : List (List ℕ)) (payload header : List ℕ) (size n : ℕ) (last : Bool) → Fits records (Header payload []) (4 + n)
    → InRoom (after_header records (Header payload header) size last) n
header_room records payload header size n last fits =
    elim (cases_lt max_record (length payload + size)) [
      | inl long ↦ rw (lt-ltb max_record (length payload + size) long) tt
      | inr short ↦ rw (le-ltb max_record (length payload + size) short) (elim (cases_lt 0 size) [
        | inl some ↦ rw (lt-ltb 0 size some) (omega (arith, spare_is_small payload))
        | inr none ↦ rw (le-ltb 0 size none) (empty last)
      ])
    ]
  where
    empty : (b : Bool)
        → InRoom (cond b (record { records = records ++ payload ∷ []; tail = Header [] [] })
        (record { records = records; tail = Header payload [] })) n
    empty true = omega (arith, counted_push records payload, spare_is_small payload, fits)
    empty false = omega (arith, fits)

-- After a byte of a header, the other bytes still fit.
pub byte_room : (held new : Records) (byte n : ℕ) → IsInHeader held.tail → new ≡ after_byte held.records held.tail byte → InRoom held
    (1 + n)
    → InRoom new n
byte_room held new byte n in_header value fits = rw value (at held.tail in_header fits)
  where
    at : (tail : Tail) → IsInHeader tail → Fits held.records tail (1 + n) → InRoom (after_byte held.records tail byte) n
    at (Header payload header) h f =
        elim (cases_lt (length header) 3) [
          | inl less ↦ rw (lt-ltb (length header) 3 less) (omega (arith, f, length-append header (byte ∷ [])))
          | inr three ↦ rw (le-ltb (length header) 3 three) (header_room held.records payload header _ n _ (omega (arith, f)))
        ]
    at (Data payload missing last) h f = absurd h
    at TooLong h f = absurd h

-- Bytes that don't exceed the room fit.
pub room_fits : (held : Records) (n : ℕ) → n ≤ room_of held → 0 < n → InRoom held n
room_fits held n le some = at held.tail le
  where
    at : (tail : Tail) → n ≤ capacity - used_by held.records tail → Fits held.records tail n
    at (Header payload header) h = omega (arith, h, some)
    at (Data payload missing last) h = omega (arith, h, some)
    at TooLong h = tt

-- A header that is complete frees the room that its four bytes took.
pub header_fits : (bytes lengths header : List ℕ) (spot : Place) (old : Records) → held_of bytes lengths header spot ≡ old
    → IsInHeader old.tail → length header ≡ 3 → InRoom old 1 → InRoom (held_of bytes lengths [] spot) 4
header_fits bytes lengths header spot old is in_header three fits =
    subst (λ (h : Records). IsInHeader h.tail → InRoom h 1 → InRoom (held_of bytes lengths [] spot) 4) is (at spot) in_header fits
  where
    at : (p : Place) → IsInHeader (tail_of p (drop (sum lengths) bytes) header) → InRoom (held_of bytes lengths header p) 1
        → InRoom (held_of bytes lengths [] p) 4
    at place.Header h f = omega (arith, f)
    at (place.Data missing last) h f = absurd h
    at place.TooLong h f = absurd h

-- If more bytes fit, so do fewer.
pub fewer_fit : (held : Records) (n m : ℕ) → n ≤ m → InRoom held m → InRoom held n
fewer_fit held n m le fits = at held.tail fits
  where
    at : (tail : Tail) → Fits held.records tail m → Fits held.records tail n
    at (Header payload header) f = omega (arith, f, le)
    at (Data payload missing last) f = omega (arith, f, le)
    at TooLong f = tt

-- After a piece of a fragment's data, the other bytes still fit.
data_room : (records : List (List ℕ)) (payload piece : List ℕ) (missing : ℕ) (last : Bool) (n m : ℕ) → length piece + m ≡ n
    → Fits records (Data payload missing last) n → InRoom (after_data records (Data payload missing last) piece) m
data_room records payload piece missing last n m all fits =
    elim (cases_lt (length piece) missing) [
      | inl less ↦ rw (lt-ltb (length piece) missing less) (omega (arith, fits, length-append payload piece))
      | inr whole ↦ rw (le-ltb (length piece) missing whole) (ends last)
    ]
  where
    ends : (b : Bool) → InRoom (cond b (record { records = records ++ (payload ++ piece) ∷ []; tail = Header [] [] })
        (record { records = records; tail = Header (payload ++ piece) [] })) m
    ends true = omega (arith, counted_push records (payload ++ piece), length-append payload piece, fits)
    ends false = omega (arith, length-append payload piece, fits)

-- The same for any tail that is within a fragment's data.
pub piece_room : (held new : Records) (piece : List ℕ) (missing : ℕ) (last : Bool) (n m : ℕ) → IsInData held.tail missing last
    → length piece + m ≡ n → new ≡ after_data held.records held.tail piece → InRoom held n → InRoom new m
piece_room held new piece missing last n m in_data all value fits = rw value (at held.tail in_data fits)
  where
    at : (tail : Tail) → IsInData tail missing last → Fits held.records tail n → InRoom (after_data held.records tail piece) m
    at (Header payload header) h f = absurd h
    at (Data payload left ends) h f = data_room held.records payload piece left ends n m all f
    at TooLong h f = absurd h
