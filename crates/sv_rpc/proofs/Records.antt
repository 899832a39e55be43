-- How each change of a buffer's fields changes the records and the tail that the buffer holds.
use Rattle.std.proofs.Common.{◌≡◌, ◌≢◌, ℕ, ◌+◌, ◌-◌, ◌*◌, ◌<◌, ◌≤◌, Bool, true, false, List, [], ◌∷◌, ◌++◌, length, take, drop, get_or, set, refl, sym, ap, subst, ◌∙◌, arith, inl, inr}
use Rattle.std.proofs.lemmas.Bool.{cases_lt, lt-ltb, le-ltb}
use Rattle.std.specs.Prelude.{sum}
use Rattle.std.proofs.lemmas.List.{length-append, length-set, length-drop, length-take-le, drop-drop, drop-append-le, drop_all}
use Rattle.std.proofs.lemmas.List.Sums.{sum_by-append}
use Rattle.sv_rpc.specs.declared.record_buf.Place.{Place}
use Rattle.sv_rpc.specs.declared.record_buf.Place.TheVariants as place
use Rattle.sv_rpc.specs.Limits.{capacity}
use Rattle.sv_rpc.specs.Record.{Header, Data}
use Rattle.sv_rpc.specs.RecordBuf.{Records, StandsFor, IsRoom, used_by, room_of}
use Rattle.sv_rpc.specs.Representation.{IsValid, InRoom, IsPlace, IsInHeader, IsBeforeHeader, IsInData, held_of, cut, tail_of, finish_record, begun_of, after_data}
use Rattle.sv_rpc.proofs.Cuts.{sum_push, cut_append, cut_push, used_at_header, used_in_data}

-- The room computed from the buffer is the room that the stream leaves.
pub room_is_of_stream : (held : Records) (stream : List ℕ) (dropped room : ℕ) → room ≡ room_of held → StandsFor held stream dropped
    → IsRoom stream dropped room
room_is_of_stream held stream dropped room e s = (
  s.all,
  held.tail,
  s.splits,
  s.bounded,
  e ∙ ap (λ (rs : List (List ℕ)). capacity - used_by rs held.tail) s.kept,
)

-- Dropping the first record leaves a buffer for the same stream, with one more record dropped.
pub stands_after_drop : (old new : Records) (stream : List ℕ) (dropped : ℕ) → new ≡ record { records = drop 1 old.records; tail = old.tail }
    → old.records ≢ [] → StandsFor old stream dropped → StandsFor new stream (dropped + 1)
stands_after_drop old new stream dropped e some s =
    let kept : drop 1 old.records ≡ drop (dropped + 1) s.all = ap (drop 1) s.kept ∙ drop-drop 1 dropped s.all in
    let few : dropped + 1 ≤ length s.all = elim (cases_lt dropped (length s.all)) [
      | inl lt ↦ omega arith
      | inr le ↦
          absurd (some (s.kept ∙ drop_all dropped s.all le))
    ] in
    rw e (record { all = s.all; splits = s.splits; bounded = few; kept = kept })

-- The buffer stores a length for each complete record.
pub record_has_length : (bytes lengths : List ℕ) → cut lengths bytes ≢ [] → 0 < length lengths
record_has_length bytes [] some = absurd (some refl)
record_has_length bytes (n ∷ lengths) some = omega arith

first_counted : (n size : ℕ) (lengths bytes : List ℕ) (payload : ℕ) → size ≡ n → sum (n ∷ lengths) + payload ≡ length bytes
    → size + sum lengths + payload ≡ length bytes
first_counted n size lengths bytes payload e whole = omega (arith, sum_by-append (λ (m : ℕ). m) (n ∷ []) lengths)

-- Dropping the first record keeps the fields valid.
pub valid_without_first : (bytes bytes' lengths lengths' header : List ℕ) (space space' slots slots' payload header_len size : ℕ)
    (spot : Place)
    → IsValid bytes lengths header space slots payload header_len spot → 0 < length lengths → size ≡ get_or lengths 0 size
    → lengths' ≡ drop 1 lengths → bytes' ≡ drop size bytes → space' ≡ space → slots' ≡ slots
    → IsValid bytes' lengths' header space' slots' payload header_len spot
valid_without_first bytes bytes' [] lengths' header space space' slots slots' payload header_len size spot k some is e f g h =
    absurd (omega arith)
valid_without_first bytes bytes' (n ∷ lengths) lengths' header space space' slots slots' payload header_len size spot k some is e f g h =
    let whole = first_counted n size lengths bytes payload is k.whole in
    let left : length bytes' ≡ length bytes - size = ap length f ∙ length-drop size bytes in
    let fewer : length lengths' ≡ length lengths = ap length e in
    record {
      whole = omega (arith, ap sum e, whole, left);
      four = k.four;
      at = k.at;
      enough = omega (arith, k.enough);
      many = omega (arith, k.many);
      counted = omega (arith, k.counted, left, fewer);
    }

-- Dropping the first length, and as many bytes, drops the first record.
pub held_without_first : (bytes bytes' lengths lengths' header : List ℕ) (payload size : ℕ) (spot : Place) (old : Records)
    → held_of bytes lengths header spot ≡ old → sum lengths + payload ≡ length bytes → 0 < length lengths → size ≡ get_or lengths 0 size
    → lengths' ≡ drop 1 lengths → bytes' ≡ drop size bytes
    → held_of bytes' lengths' header spot ≡ record { records = drop 1 old.records; tail = old.tail }
held_without_first bytes bytes' [] lengths' header payload size spot old is whole some first e f = absurd (omega arith)
held_without_first bytes bytes' (n ∷ lengths) lengths' header payload size spot old is whole some first e f =
    let rest : drop (sum lengths') bytes' ≡ drop (sum (n ∷ lengths)) bytes =
    rw (e, f) (drop-drop (sum lengths) size bytes ∙ ap (λ (m : ℕ). drop m bytes)
    (omega (arith, first, sum_by-append (λ (m : ℕ). m) (n ∷ []) lengths))) in
    rw (← is, rest, e, f, first) refl

-- The room, computed from the lengths of the fields.
pub room_by_parts : (bytes lengths header : List ℕ) (space slots payload header_len begun : ℕ) (spot : Place)
    → IsValid bytes lengths header space slots payload header_len spot
    → begun ≡ begun_of spot header_len → capacity - (4 * length lengths + length bytes + 4 + begun)
    ≡ room_of (held_of bytes lengths (take header_len header) spot)
room_by_parts bytes lengths header space slots payload header_len begun place.Header k e =
    omega (
      arith,
      used_at_header lengths bytes (take header_len header) payload k.whole,
      length-take-le header_len header (omega (arith, k.at.1)),
    )
room_by_parts bytes lengths header space slots payload header_len begun (place.Data missing last) k e =
    omega (arith, used_in_data lengths bytes payload missing last k.whole)
room_by_parts bytes lengths header space slots payload header_len begun place.TooLong k e = omega arith

-- Where a record ends, the buffer has room for its length.
pub finish_room : (bytes lengths header : List ℕ) (space slots payload header_len : ℕ) (spot : Place)
    → IsValid bytes lengths header space slots payload header_len spot
    → IsBeforeHeader (tail_of spot (drop (sum lengths) bytes) (take header_len header))
    → used_by (cut lengths bytes) (tail_of spot (drop (sum lengths) bytes) (take header_len header)) ≤ capacity
    → 4 * length lengths + length bytes + 4 ≤ capacity
finish_room bytes lengths header space slots payload header_len place.Header k h room =
    omega (arith, used_at_header lengths bytes (take header_len header) payload k.whole)
finish_room bytes lengths header space slots payload header_len (place.Data missing last) k h room = absurd h
finish_room bytes lengths header space slots payload header_len place.TooLong k h room = absurd h

-- Storing the record's length completes the record and keeps the fields valid.
pub finish_keeps : (bytes lengths lengths' header : List ℕ) (space slots slots' payload header_len : ℕ) (spot : Place)
    → IsValid bytes lengths header space slots payload header_len spot
    → IsBeforeHeader (tail_of spot (drop (sum lengths) bytes) (take header_len header)) → 4 * length lengths + length bytes + 4 ≤ capacity
    → lengths' ≡ lengths ++ payload ∷ [] → slots' ≡ slots → IsValid bytes lengths' header space slots' 0 header_len spot
finish_keeps bytes lengths lengths' header space slots slots' payload header_len place.Header k h room e f = record {
  whole = omega (arith, ap sum e, sum_push lengths payload, k.whole);
  four = k.four;
  at = (omega arith, k.at.1);
  enough = k.enough;
  many = omega (arith, k.many);
  counted = omega (arith, ap length e, length-append lengths (payload ∷ []));
}
finish_keeps bytes lengths lengths' header space slots slots' payload header_len (place.Data missing last) k h room e f = absurd h
finish_keeps bytes lengths lengths' header space slots slots' payload header_len place.TooLong k h room e f = absurd h

pub finish_holds : (bytes lengths lengths' header : List ℕ) (space slots payload header_len : ℕ) (spot : Place)
    → IsValid bytes lengths header space slots payload header_len spot
    → IsBeforeHeader (tail_of spot (drop (sum lengths) bytes) (take header_len header)) → lengths' ≡ lengths ++ payload ∷ []
    → held_of bytes lengths' (take header_len header) spot
    ≡ finish_record (cut lengths bytes) (tail_of spot (drop (sum lengths) bytes) (take header_len header))
finish_holds bytes lengths lengths' header space slots payload header_len place.Header k h e =
    let records : cut lengths' bytes ≡ cut lengths bytes ++ drop (sum lengths) bytes ∷ [] =
    ap (λ (ns : List ℕ). cut ns bytes) e ∙ cut_push lengths bytes payload k.whole in
    let size : sum lengths' ≡ length bytes = omega (arith, ap sum e, sum_push lengths payload, k.whole) in
    let rest : drop (sum lengths') bytes ≡ [] = drop_all (sum lengths') bytes (omega arith) in
    let made : List (List ℕ) → List ℕ → List ℕ → Records = λ rs payload header. record { records = rs; tail = Header payload header } in
    ap (λ (rs : List (List ℕ)). made rs (drop (sum lengths') bytes) (take header_len header)) records
    ∙ ap (λ (p : List ℕ). made (cut lengths bytes ++ drop (sum lengths) bytes ∷ []) p (take header_len header)) rest
    ∙ ap (λ (p : List ℕ). made (cut lengths bytes ++ drop (sum lengths) bytes ∷ []) [] p) h
finish_holds bytes lengths lengths' header space slots payload header_len (place.Data missing last) k h e = absurd h
finish_holds bytes lengths lengths' header space slots payload header_len place.TooLong k h e = absurd h

-- If the tail lacks data, the buffer is within a fragment's data.
pub place_is_in_data : (spot : Place) (payload header : List ℕ) (missing : ℕ) (last : Bool)
    → IsInData (tail_of spot payload header) missing last → spot ≡ place.Data missing last
place_is_in_data place.Header payload header missing last h = absurd h
place_is_in_data (place.Data m l) payload header missing last h = let m_is = h.0 in let l_is = h.1 in cc
place_is_in_data place.TooLong payload header missing last h = absurd h

-- The bytes with the next piece of data stay within the capacity.
pub data_piece_fits : (bytes lengths header : List ℕ) (space slots payload header_len n missing : ℕ) (last : Bool) (spot : Place)
    → IsValid bytes lengths header space slots payload header_len spot
    → spot ≡ place.Data missing last → InRoom (held_of bytes lengths (take header_len header) spot) n
    → 4 * length lengths + length bytes + 4 + n ≤ capacity
data_piece_fits bytes lengths header space slots payload header_len n missing last place.Header k e room = absurd cc
data_piece_fits bytes lengths header space slots payload header_len n missing last (place.Data m l) k e room =
    omega (arith, used_in_data lengths bytes payload m l k.whole)
data_piece_fits bytes lengths header space slots payload header_len n missing last place.TooLong k e room = absurd cc

-- A byte that doesn't complete the header keeps the fields valid.
pub header_keeps : (bytes lengths header : List ℕ) (space slots payload header_len byte : ℕ) (spot : Place)
    → IsValid bytes lengths header space slots payload header_len spot
    → IsInHeader (tail_of spot (drop (sum lengths) bytes) (take header_len header)) → header_len < 3
    → IsValid bytes lengths (set header header_len byte) space slots payload (header_len + 1) spot
header_keeps bytes lengths header space slots payload header_len byte place.Header k h less = record {
  whole = k.whole;
  four = length-set header header_len byte ∙ k.four;
  at = (k.at.0, omega arith);
  enough = k.enough;
  many = k.many;
  counted = k.counted;
}
header_keeps bytes lengths header space slots payload header_len byte (place.Data missing last) k h less = absurd h
header_keeps bytes lengths header space slots payload header_len byte place.TooLong k h less = absurd h

-- A piece of data keeps the fields valid.
pub data_keeps : (bytes bytes' lengths header piece : List ℕ) (space space' slots payload header_len : ℕ) (spot spot' : Place)
    → IsValid bytes lengths header space slots payload header_len spot → bytes' ≡ bytes ++ piece → space ≤ space'
    → 4 * length lengths + length bytes + 4 + length piece ≤ capacity → IsPlace spot' (payload + length piece) header_len
    → IsValid bytes' lengths header space' slots (payload + length piece) header_len spot'
data_keeps bytes bytes' lengths header piece space space' slots payload header_len spot spot' k e f room at =
    let size : length bytes' ≡ length bytes + length piece = ap length e ∙ length-append bytes piece in
    record {
      whole = omega (arith, k.whole);
      four = k.four;
      at = at;
      enough = omega (arith, k.enough);
      many = k.many;
      counted = omega arith;
    }

-- A piece of data is appended to the unfinished record.
pub data_holds : (bytes bytes' lengths header piece : List ℕ) (n : ℕ) (spot' : Place) → sum lengths + n ≡ length bytes
    → bytes' ≡ bytes ++ piece → held_of bytes' lengths header spot' ≡ record {
      records = cut lengths bytes;
      tail =
          tail_of spot' (drop (sum lengths) bytes ++ piece) header;
    }
data_holds bytes bytes' lengths header piece n spot' whole e =
    let le : sum lengths ≤ length bytes = omega arith in
    let records : cut lengths bytes' ≡ cut lengths bytes = ap (cut lengths) e ∙ cut_append lengths bytes piece le in
    let payload : drop (sum lengths) bytes' ≡ drop (sum lengths) bytes ++ piece =
    ap (drop (sum lengths)) e ∙ drop-append-le (sum lengths) bytes piece le in
    let made : List (List ℕ) → List ℕ → Records = λ rs p. record { records = rs; tail = tail_of spot' p header } in
    ap (λ (rs : List (List ℕ)). made rs (drop (sum lengths) bytes')) records ∙ ap (made (cut lengths bytes)) payload

-- A piece that doesn't end its fragment leaves fewer bytes missing.
pub data_grown : (bytes bytes' lengths header piece : List ℕ) (n missing : ℕ) (last : Bool) (spot : Place) (old : Records)
    → held_of bytes lengths header spot ≡ old
    → spot ≡ place.Data missing last → sum lengths + n ≡ length bytes → bytes' ≡ bytes ++ piece → length piece < missing
    → held_of bytes' lengths header (place.Data (missing - length piece) last) ≡ after_data old.records old.tail piece
data_grown bytes bytes' lengths header piece n missing last spot old is at whole e less =
    let old_is : held_of bytes lengths header (place.Data missing last) ≡ old = ap (held_of bytes lengths header) (sym at) ∙ is in
    data_holds bytes bytes' lengths header piece n (place.Data (missing - length piece) last) whole e
    ∙ subst (λ (h : Records). record {
      records = cut lengths bytes;
      tail =
          Data (drop (sum lengths) bytes ++ piece) (missing - length piece) last;
    } ≡ after_data h.records h.tail piece) old_is
    (rw (lt-ltb (length piece) missing less) refl)

-- A piece that ends a fragment, but not the record: a header follows.
pub data_ended : (bytes bytes' lengths header piece : List ℕ) (n missing : ℕ) (last : Bool) (spot : Place) (old : Records)
    → held_of bytes lengths header spot ≡ old
    → spot ≡ place.Data missing last → sum lengths + n ≡ length bytes → bytes' ≡ bytes ++ piece → missing ≤ length piece → header ≡ []
    → last ≡ false → held_of bytes' lengths header place.Header ≡ after_data old.records old.tail piece
data_ended bytes bytes' lengths header piece n missing last spot old is at whole e all none other =
    let old_is : held_of bytes lengths header (place.Data missing last) ≡ old = ap (held_of bytes lengths header) (sym at) ∙ is in
    data_holds bytes bytes' lengths header piece n place.Header whole e
    ∙ subst (λ (h : Records). record { records = cut lengths bytes; tail = Header (drop (sum lengths) bytes ++ piece) header }
    ≡ after_data h.records h.tail piece) old_is
    (rw (le-ltb (length piece) missing all, other, none) refl)

-- A piece that ends the last fragment completes the record.
pub data_finished : (bytes bytes' lengths header piece : List ℕ) (n missing : ℕ) (last : Bool) (spot : Place) (old new : Records)
    → held_of bytes lengths header spot ≡ old
    → spot ≡ place.Data missing last → sum lengths + n ≡ length bytes → bytes' ≡ bytes ++ piece → missing ≤ length piece → last ≡ true
    → new ≡ finish_record (cut lengths bytes') (Header (drop (sum lengths) bytes') header) → new ≡ after_data old.records old.tail piece
data_finished bytes bytes' lengths header piece n missing last spot old new is at whole e all other value =
    let old_is : held_of bytes lengths header (place.Data missing last) ≡ old = ap (held_of bytes lengths header) (sym at) ∙ is in
    let parts = data_holds bytes bytes' lengths header piece n place.Header whole e in
    let ended : new ≡ finish_record (cut lengths bytes) (Header (drop (sum lengths) bytes ++ piece) header) =
    value ∙ ap (λ (h : Records). finish_record h.records h.tail) parts in
    ended ∙ subst (λ (h : Records). finish_record (cut lengths bytes) (Header (drop (sum lengths) bytes ++ piece) header)
    ≡ after_data h.records h.tail piece) old_is
    (rw (le-ltb (length piece) missing all, other) refl)

-- Where a fragment ends, there is room for the length of its record.
pub ended_room : (bytes bytes' lengths header piece : List ℕ) (n : ℕ) → sum lengths + n ≡ length bytes → bytes' ≡ bytes ++ piece
    → header ≡ [] → 4 * length lengths + length bytes + 4 + length piece ≤ capacity
    → used_by (cut lengths bytes') (Header (drop (sum lengths) bytes') header) ≤ capacity
ended_room bytes bytes' lengths header piece n whole e none room =
    let size : length bytes' ≡ length bytes + length piece = ap length e ∙ length-append bytes piece in
    omega (arith, used_at_header lengths bytes' header (n + length piece) (omega arith), ap length none)
