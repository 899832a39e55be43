-- The syntax of headers (IEEE 488.2, 7.6.1; SCPI-1999, volume 1, chapter 6).
use Rattle.std.specs.Prelude.{ℕ, ◌==◌, ◌&&◌, ◌||◌, Bool, false, List, [], ◌∷◌}
use Rattle.std.specs.List.{list_all}
use Rattle.std.specs.Char.{is_ascii_alphabetic as is_letter, is_ascii_alphanumeric}
use Rattle.sv_text.specs.Cut.{cut_at}
use Rattle.sv_text.specs.Header.{lead, body}
use Rattle.sv_text.specs.declared.header.Lead.TheVariants.{Common}

-- whether a byte is a letter, a digit or an underscore
abbrev pub is_word_byte : ℕ → Bool
is_word_byte b = is_ascii_alphanumeric b || b == 95

-- whether a text is a mnemonic: a letter, then letters, digits and underscores
abbrev pub is_mnemonic : List ℕ → Bool
is_mnemonic [] = false
is_mnemonic (b ∷ bytes) = is_letter b && list_all is_word_byte bytes

-- the parts of a header that must be mnemonics. If the header begins with an asterisk, all bytes
-- after the asterisk are one part; else colons separate the parts. A question mark at the end of
-- the header belongs to no part.
abbrev pub words : List ℕ → List (List ℕ)
words text = elim (lead text) [ Common ↦ body text ∷ [] | _ ↦ cut_at 58 (body text) ]

-- whether a text is a well-formed header: each part of it that must be a mnemonic is a mnemonic
abbrev pub is_header : List ℕ → Bool
is_header text = list_all is_mnemonic (words text)
