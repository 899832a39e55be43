-- Several writes to a buffer succeed if the buffer has room for all their bytes.
use Rattle.std.proofs.Common.{◌≡◌, ℕ, ◌+◌, ◌≤◌, List, ◌∷◌, ◌++◌, length, take, Result, Ok, Err, ap, ◌∙◌, arith}
use Rattle.std.specs.List.{concat}
use Rattle.std.proofs.lemmas.List.{length-append, length-take-le}
use Rattle.std.proofs.lemmas.List.Folds.{concat-append}
use Rattle.sv_xdr.specs.declared.fault.XdrFault.{XdrFault}
use Rattle.sv_xdr.specs.declared.writer.Writer.{Writer}
use Rattle.sv_xdr.specs.Writer.{rest_of, Appends, WritesEach}

-- Written bytes take exactly their length of the room.
pub room_left : (bytes : List ℕ) (old new : Writer) → Appends bytes old new → length bytes + length (rest_of new) ≡ length (rest_of old)
room_left bytes old new a =
    let front : length (take (length bytes) (rest_of old)) ≡ length bytes = length-take-le (length bytes) (rest_of old) a.fits in
    omega (arith, ap length a.rest, length-append (take (length bytes) (rest_of old)) (rest_of new))

pub whole_is_written : (pieces : List (List ℕ)) (r : Result Unit XdrFault) (old new : Writer) → WritesEach pieces r old new
    → length (concat pieces) ≤ length (rest_of old) → Appends (concat pieces) old new
whole_is_written pieces (Ok done) old new w room = w
whole_is_written pieces (Err fault) old new w room =
    let front = w.1 in
    let behind = w.2 in
    let piece = w.3 in
    let parts : concat pieces ≡ concat front ++ (piece ++ concat behind) = ap concat w.4 ∙ concat-append front (piece ∷ behind) in
    let left = room_left (concat front) old new w.5 in
    absurd (omega (arith, ap length parts, length-append (concat front) (piece ++ concat behind), length-append piece (concat behind), w.6))
