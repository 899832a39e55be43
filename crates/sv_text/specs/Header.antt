-- The parts of a header (IEEE 488.2, 7.6.1; SCPI-1999, volume 1, chapter 6): what it begins with,
-- its mnemonics, and the question mark of a query.
use Rattle.std.specs.Prelude.{ℕ, ◌-◌, ◌==◌, Bool, false, List, [], ◌∷◌, length, take, drop, slice_get, if◌then◌else◌}
use Rattle.std.specs.Option.{option_map_or}
use Rattle.sv_text.specs.Cut.{cut_at}
use Rattle.sv_text.specs.declared.header.Lead.{Lead}
use Rattle.sv_text.specs.declared.header.Lead.TheVariants.{Common, Root, Onward}

-- whether the text ends in a question mark
abbrev pub is_query : List ℕ → Bool
is_query text = option_map_or (λ b. b == 63) (slice_get text (length text - 1)) false

-- the text without the question mark at its end, if it has one
abbrev pub unsigned : List ℕ → List ℕ
unsigned text = if is_query text then take (length text - 1) text else text

-- what a header begins with: an asterisk for a common command; a colon for a header that starts at
-- the root of the command tree; or neither
abbrev pub lead : List ℕ → Lead
lead [] = Onward
lead (b ∷ text) = if b == 42 then Common else if b == 58 then Root else Onward

-- the header without the asterisk or colon at its front and without the question mark at its end
abbrev pub body : List ℕ → List ℕ
body text = drop (elim (lead text) [ Onward ↦ 0 | _ ↦ 1 ]) (unsigned text)

-- the mnemonics, as they were sent: the parts between colons
abbrev pub mnemonics : List ℕ → List (List ℕ)
mnemonics text = cut_at 58 (body text)
