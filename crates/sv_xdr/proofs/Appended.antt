-- Two writes, one after the other, append their bytes in the order of the writes.
use Rattle.std.proofs.Common.{◌≡◌, ℕ, ◌+◌, List, [], ◌∷◌, ◌++◌, length, take, refl, sym, ap, ◌∙◌, append_assoc, arith, Result, Ok, Err}
use Rattle.std.proofs.lemmas.List.{take_at, length-append, length-take, append-nil}
use Rattle.std.specs.List.{concat}
use Rattle.sv_xdr.specs.declared.fault.XdrFault.{XdrFault}
use Rattle.sv_xdr.specs.declared.writer.Writer.{Writer}
use Rattle.std.specs.Int.{w32, to_be_bytes}
use Rattle.sv_xdr.specs.Spelling.{Opaque, spelling, pad_len}
use Rattle.sv_xdr.specs.Writer.{text_of, rest_of, Appends, Writes, WritesEach}
use Rattle.sv_xdr.proofs.Spelled.{take_zeros}

pub appends_then : (a b : List ℕ) (old mid new : Writer) → Appends a old mid → Appends b mid new → Appends (a ++ b) old new
appends_then a b old mid new first second =
    let front = take (length a) (rest_of old) in
    let back = take (length b) (rest_of mid) in
    let size : length front ≡ length a = omega (arith, length-take (length a) (rest_of old), first.fits) in
    let size2 : length back ≡ length b = omega (arith, length-take (length b) (rest_of mid), second.fits) in
    let sizes : length (rest_of old) ≡ length a + length (rest_of mid) =
    ap length first.rest ∙ length-append front (rest_of mid) ∙ ap (λ (n : ℕ). n + length (rest_of mid)) size in
    let parts : rest_of old ≡ (front ++ back) ++ rest_of new =
    first.rest ∙ ap (λ (l : List ℕ). front ++ l) second.rest ∙ sym (append_assoc front back (rest_of new)) in
    let whole : take (length (a ++ b)) (rest_of old) ≡ front ++ back =
    ap (take (length (a ++ b))) parts ∙ take_at (front ++ back) (rest_of new) (length (a ++ b))
    (omega (arith, length-append front back, length-append a b)) in
    record {
      text = second.text ∙ ap (λ (l : List ℕ). l ++ b) first.text ∙ append_assoc (text_of old) a b;
      rest = parts ∙ ap (λ (l : List ℕ). l ++ rest_of new) (sym whole);
      fits = omega (arith, length-append a b, second.fits);
    }

-- A length, data and padding are an encoding of opaque data.
pub opaque_appended : (size text : List ℕ) (n : ℕ) (old one two new : Writer) → size ≡ to_be_bytes w32 (length text)
    → n ≡ pad_len (length text)
    → Appends size old one → Appends text one two → Appends (take n (0 ∷ 0 ∷ 0 ∷ [])) two new → Appends (spelling (Opaque text)) old new
opaque_appended size text n old one two new size_is n_is first second third =
    let pad_is = ap (λ (k : ℕ). take {A = ℕ} k (0 ∷ 0 ∷ 0 ∷ [])) n_is ∙ take_zeros (pad_len (length text)) (omega arith) in
    let both = appends_then text _ one two new second third in
    let all = appends_then size _ old one new first both in
    rw (size_is, pad_is) at all

-- If a piece has no room, the writing stops there.
pub each_stops_at_fault : (piece : List ℕ) (pieces : List (List ℕ)) (fault : XdrFault) (r : Result Unit XdrFault) (old new : Writer)
    → r ≡ Err fault → Writes piece (Err fault) old new → WritesEach (piece ∷ pieces) r old new
each_stops_at_fault piece pieces fault r old new e h =
    let nothing : Appends [] old new = record {
      text = h.2.text ∙ sym (append-nil (text_of old));
      rest = sym h.2.rest;
      fits =
          omega arith;
    } in
    rw e (h.0, [], pieces, piece, refl, nothing, omega (arith, ap length h.2.rest))

-- After a piece that was written, the other pieces follow.
pub each_first : (piece : List ℕ) (pieces : List (List ℕ)) (r : Result Unit XdrFault) (old mid new : Writer) → Appends piece old mid
    → WritesEach pieces r mid new → WritesEach (piece ∷ pieces) r old new
each_first piece pieces (Ok done) old mid new first h = appends_then piece (concat pieces) old mid new first h
each_first piece pieces (Err fault) old mid new first h =
    (h.0, piece ∷ h.1, h.2, h.3, ap (λ (l : List (List ℕ)). piece ∷ l) h.4, appends_then piece (concat h.1) old mid new first h.5, h.6)

pub each_last : (piece : List ℕ) (r : Result Unit XdrFault) (old new : Writer) → Writes piece r old new → WritesEach (piece ∷ []) r old new
each_last piece (Ok done) old new h = rw append-nil h
each_last piece (Err fault) old new h = each_stops_at_fault piece [] fault (Err fault) old new refl h

-- For functions that write their fields one by one.
pub ruleset each_piece = (each_stops_at_fault, each_first, each_last)
