-- Types of the code in sv_header, as plain data.
use Rattle.std.specs.Prelude.{ℕ, Bool, nat_le, length, List, [], ◌∷◌, ◌++◌, Option, Some, None}
use Rattle.std.specs.Borrow.{Bor}
use Rattle.sv_text.specs.Cut.{cut_at}
use Rattle.sv_header.specs.declared.pattern.Node.{Node}
use Rattle.sv_header.specs.declared.left.Mnemonics.{Mnemonics}
use Rattle.sv_header.specs.Pattern.{Part}

-- a node of the code, as plain data
abbrev pub part : Node → Part
part node = record { short = node.short.now; long = node.long.now; optional = node.optional }

-- the mnemonics of a text, in which colons separate them; none if there is no text
abbrev pub sent_of : Option (Bor (List ℕ)) → List (List ℕ)
sent_of None = []
sent_of (Some text) = cut_at 58 text.now

-- the mnemonic `first`, followed by `others`; no mnemonics at all if `first` is `None`
abbrev pub led_by : Option (Bor (List ℕ)) → List (List ℕ) → List (List ℕ)
led_by None others = []
led_by (Some first) others = first.now ∷ others

-- the mnemonics that are still to be looked up, in this order: `first`; the mnemonics of the path;
-- the mnemonics of the header's text
abbrev pub left_of : Mnemonics → List (List ℕ)
left_of left = led_by left.first (left.kept.now ++ sent_of left.sent)

-- whether a mnemonic has at most 12 characters
abbrev pub is_short : List ℕ → Bool
is_short mnemonic = nat_le (length mnemonic) 12
