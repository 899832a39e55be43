-- The tokens of a unit come in order: the header, then each parameter.
use Rattle.std.proofs.Common.{◌≡◌, ℕ, zero, suc, ◌+◌, ◌<◌, ◌≤◌, List, [], ◌∷◌, length, take, ◌∙◌, slice_index_or, arith}
use Rattle.std.proofs.lemmas.List.{length-take-le}
use Rattle.std.proofs.lemmas.List.Sums.{sum_by-append}
use Rattle.sv_text.specs.White.{trim, is_white}
use Rattle.sv_text.proofs.Places.{position_within_length}
use Rattle.sv_lexer.specs.Order.{InOrder}
use Rattle.sv_lexer.specs.Unit.{white_size, header_size, header, rest}
use Rattle.sv_lexer.specs.Parameters.{part_place, parts}
use Rattle.sv_lexer.proofs.Standing.{stands_trim, stands_within}

part_place_cons : (k : ℕ) (part : List ℕ) (parts : List (List ℕ)) → part_place (suc k) (part ∷ parts) ≡ length part + 1 + part_place k parts
part_place_cons k part parts = sum_by-append (λ p. length p + 1) (part ∷ []) (take k parts) ∙ omega arith

-- A part begins after each part with a lower index and its comma.
parts_in_order : (i j : ℕ) (parts : List (List ℕ)) → i < j → j < length parts
    → part_place i parts + length (slice_index_or parts i []) < part_place j parts
parts_in_order i zero parts lt within = absurd (omega (arith, lt))
parts_in_order i (suc j) [] lt within = absurd (omega (arith, within))
parts_in_order zero (suc j) (part ∷ parts) lt within = let next = part_place_cons j part parts in omega (arith, next)
parts_in_order (suc i) (suc j) (part ∷ parts) lt within =
    let here = part_place_cons i part parts in
    let there = part_place_cons j part parts in
    let behind = parts_in_order i j parts (omega (arith, lt)) (omega (arith, within)) in
    omega (arith, here, there, behind)

pub tokens_come_in_order : InOrder
tokens_come_in_order = (
  (λ unit index. (let short : length (header unit) ≡ header_size unit =
      length-take-le (header_size unit) (trim unit) (position_within_length is_white (trim unit)) in omega (arith, short))),
  (λ unit first second lt within.
      (let part : List ℕ = slice_index_or (parts (rest unit)) first [] in
      let inner : white_size part + length (trim part) ≤ length part =
      stands_within part (trim part) (white_size part) (stands_trim part) in
      let order = parts_in_order first second (parts (rest unit)) lt within in
      omega (arith, inner, order))),
)
