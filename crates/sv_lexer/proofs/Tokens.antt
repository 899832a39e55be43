-- The tokens of a unit have the texts and positions that the specification states.
use Rattle.std.proofs.Common.{◌≡◌, ℕ, ◌+◌, ◌<◌, List, [], ◌∷◌, length, drop, refl, sym, ap, ◌∙◌, slice_index_or, slice_range, arith}
use Rattle.sv_text.specs.White.{is_white, trim}
use Rattle.sv_text.proofs.Places.{position_within_length}
use Rattle.sv_lexer.specs.declared.token.Token.{Token}
use Rattle.sv_lexer.specs.Token.{StandsAt, IsToken, kind_of, in_u32}
use Rattle.sv_lexer.specs.Unit.{white_size, header_size, header, header_place, rest, rest_place}
use Rattle.sv_lexer.specs.Inside.Finish.{IsCut}
use Rattle.sv_lexer.specs.Parameters.{cut_outside, parts, part_place, count, parameter, parameter_place}
use Rattle.sv_lexer.proofs.Standing.{stands_transitive, stands_take, stands_drop, stands_start, stands_trim, slice_stands}

stands_same : (unit text : List ℕ) (p q : ℕ) → p ≡ q → StandsAt unit p text → StandsAt unit q text
stands_same unit text p q e h = rw (← e) h

pub header_stands : (unit : List ℕ) → StandsAt unit (header_place unit) (header unit)
header_stands unit =
    stands_same unit (header unit) (header_place unit + 0) (header_place unit) (omega arith)
    (stands_transitive unit (trim unit) (header unit) (header_place unit) 0 (stands_trim unit) (stands_take (header_size unit) (trim unit)))

pub rest_stands : (unit : List ℕ) → StandsAt unit (rest_place unit) (rest unit)
rest_stands unit =
    let behind : List ℕ = drop (header_size unit) (trim unit) in
    stands_transitive unit behind (rest unit) (header_place unit + header_size unit) (white_size behind)
    (stands_transitive unit (trim unit) behind (header_place unit) (header_size unit) (stands_trim unit)
    (stands_drop (header_size unit) (trim unit) (position_within_length is_white (trim unit))))
    (stands_start behind)

-- The header and the program data, cut at the positions that were read, are those of the unit.
pub cut_holds : (unit slice text : List ℕ) (header_start header_end data_start data_end : ℕ) (token : Token)
    → IsCut unit header_start header_end data_start data_end → slice ≡ slice_range unit header_start header_end
    → text ≡ slice_range unit data_start data_end → token.text.now ≡ slice → token.start ≡ in_u32 header_start → token.kind ≡ kind_of slice
    → IsToken unit (header_place unit) (header unit) token × (text ≡ rest unit) × (data_start ≡ rest_place unit)
    × StandsAt unit data_start text
cut_holds unit slice text header_start header_end data_start data_end token cut is behind said start kind =
    let head : slice ≡ header unit =
    is ∙ slice_stands unit (header unit) header_start header_end
    (stands_same unit (header unit) (header_place unit) header_start (sym cut.header_begins) (header_stands unit))
    (omega (arith, cut.header_begins, cut.header_ends)) in
    let rests : text ≡ rest unit =
    behind ∙ slice_stands unit (rest unit) data_start data_end
    (stands_same unit (rest unit) (rest_place unit) data_start (sym cut.data_begins) (rest_stands unit))
    (omega (arith, cut.data_begins, cut.data_ends)) in (
      record {
        text = said ∙ head;
        start = start ∙ ap in_u32 cut.header_begins;
        kind = kind
            ∙ ap kind_of head;
        stands = header_stands unit;
      },
      rests,
      cut.data_begins,
      rw (cut.data_begins, rests) (rest_stands unit),
    )

parts_are_cut : (text : List ℕ) (index : ℕ) → index < length (parts text) → parts text ≡ cut_outside [] text
parts_are_cut [] index lt = absurd (omega (arith, lt))
parts_are_cut (b ∷ text) index lt = refl

-- A part of the program data without white space around it is the parameter with its index.
pub parameter_holds : (unit text part : List ℕ) (base index place space : ℕ) (token : Token) → text ≡ rest unit → base ≡ rest_place unit
    → StandsAt unit base text
    → index < count unit → part ≡ slice_index_or (cut_outside [] text) index [] → place ≡ part_place index (cut_outside [] text)
    → StandsAt text place part
    → space ≡ white_size part → token.text.now ≡ trim part → token.start ≡ in_u32 (base + place + space) → token.kind ≡ kind_of (trim part)
    → (index < count unit) × IsToken unit (parameter_place unit index) (parameter unit index) token
parameter_holds unit text part base index place space token whole at stands lt part_is place_is inner space_is slice start kind =
    let cut : cut_outside [] text ≡ parts (rest unit) = ap (cut_outside []) whole ∙ sym (parts_are_cut (rest unit) index lt) in
    let same : part ≡ slice_index_or (parts (rest unit)) index [] = part_is ∙ ap (λ ps. slice_index_or ps index []) cut in
    let begins : place ≡ part_place index (parts (rest unit)) = place_is ∙ ap (part_place index) cut in
    let white : space ≡ white_size (slice_index_or (parts (rest unit)) index []) = space_is ∙ ap white_size same in
    let place_all : base + place + space ≡ parameter_place unit index = omega (arith, at, begins, white) in
    let there : StandsAt unit (base + place + space) (trim part) =
    stands_same unit (trim part) (base + place + white_size part) (base + place + space) (omega (arith, space_is))
    (stands_transitive unit part (trim part) (base + place) (white_size part) (stands_transitive unit text part base place stands inner)
    (stands_trim part))
    in (
      lt,
      record {
        text = slice ∙ ap trim same;
        start = start ∙ ap in_u32 place_all;
        kind = kind ∙ ap (λ p. kind_of (trim p)) same;
        stands =
            rw (← place_all, ← same) there;
      },
    )
