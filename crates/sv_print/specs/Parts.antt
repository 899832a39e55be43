-- The text of parts.
use Rattle.std.specs.Prelude.{ℕ, List, map, decimal}
use Rattle.std.specs.List.{concat}
use Rattle.std.specs.Fmt.{signed_decimal}
use Rattle.hex.specs.Hex.{encode_lower}
use Rattle.sv_print.specs.declared.parts.Part.{Part}
use Rattle.sv_print.specs.declared.parts.Part.TheVariants.{Bytes, Number, Signed, Hex}

-- the text of a part: the bytes; the number in decimal; or the bytes as lower-case hex digits
abbrev pub part_text : Part → List ℕ
part_text (Bytes bytes) = bytes.now
part_text (Number number) = decimal number
part_text (Signed number) = signed_decimal number
part_text (Hex bytes) = encode_lower bytes.now

-- the texts of these parts, one after the other
abbrev pub parts_text : List Part → List ℕ
parts_text parts = concat (map part_text parts)
