-- The text of a value.
use Rattle.std.specs.Prelude.{ℕ, ◌∷◌, ◌++◌, ◌==◌, ◌&&◌, Bool, false, List, codes, decimal}
use Rattle.std.specs.Option.{option_eq, option_map_or}
use Rattle.std.specs.Ordering.{int_eq}
use Rattle.std.specs.Str.{bytes_eq}
use Rattle.std.specs.Fmt.{signed_decimal}
use Rattle.sv_explain.specs.declared.value.Word.{Word}
use Rattle.sv_explain.specs.declared.value.Word.TheVariants as word
use Rattle.sv_explain.specs.declared.value.Value.{Value}
use Rattle.sv_explain.specs.declared.value.Value.TheVariants.{Number, Voltage, Word as Said, Share, Call, Reading, Overload}

-- the text of a word
abbrev pub word_text : Word → List ℕ
word_text word.None = codes "none"
word_text word.Idle = codes "idle"
word_text word.Waiting = codes "waiting"
word_text word.Scanning = codes "scanning"
word_text word.Immediate = codes "imm"
word_text word.Bus = codes "bus"
word_text word.External = codes "ext"
word_text word.Nothing = codes "nothing"
word_text word.One = codes "one"
word_text word.Readings = codes "readings"
word_text word.Ended = codes "ended"
word_text word.Core = codes "core"
word_text word.Abort = codes "abort"
word_text word.Portmap = codes "portmap"
word_text word.Closed = codes "closed"
word_text word.Lock = codes "lock"
word_text word.Input = codes "input"
word_text word.Response = codes "response"
word_text word.Dial = codes "dial"
word_text word.Over = codes "+over"
word_text word.Under = codes "-over"

-- the text of a value; spaces stand between its parts
abbrev pub value_text : Value → List ℕ
value_text (Number number) = decimal number
value_text (Voltage microvolts) = signed_decimal microvolts
value_text (Said word) = word_text word
value_text (Share done whole) = decimal done ++ 32 ∷ decimal whole
value_text (Call what lid deadline) =
    word_text what ++ 32 ∷ (option_map_or decimal lid (codes "none") ++ 32 ∷ option_map_or decimal deadline (codes "never"))
value_text (Reading number channel microvolts) = decimal number ++ 32 ∷ (decimal channel ++ 32 ∷ signed_decimal microvolts)
value_text (Overload number channel word) = decimal number ++ 32 ∷ (decimal channel ++ 32 ∷ word_text word)

-- whether two values are the same
abbrev pub same_value : Value → Value → Bool
same_value (Number a) (Number b) = a == b
same_value (Voltage a) (Voltage b) = int_eq a b
same_value (Said a) (Said b) = bytes_eq (word_text a) (word_text b)
same_value (Share a b) (Share c d) = (a == c) && (b == d)
same_value (Call a b c) (Call d e f) = bytes_eq (word_text a) (word_text d) && (option_eq ◌==◌ b e && option_eq ◌==◌ c f)
same_value (Reading a b c) (Reading d e f) = (a == d) && ((b == e) && int_eq c f)
same_value (Overload a b c) (Overload d e f) = (a == d) && ((b == e) && bytes_eq (word_text c) (word_text f))
same_value _ _ = false
