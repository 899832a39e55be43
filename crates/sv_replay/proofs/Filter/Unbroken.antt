-- Decimal numbers, hexadecimal bytes, words and values contain no new line.
use Rattle.std.proofs.Common.{◌≡◌, ℕ, zero, suc, ℤ, pos, negsuc, ◌+◌, ◌/◌, ◌%◌, ◌==◌, cond, Bool, true, false, List, [], ◌∷◌, ◌++◌, map, codes, nat_lt, Option, Some, None, slice_index, refl, arith}
use Rattle.std.proofs.lemmas.Bool.{ne_eqb}
use Rattle.std.specs.Prelude.{decimal}
use Rattle.std.specs.List.{concat}
use Rattle.std.specs.Option.{option_map_or}
use Rattle.std.specs.Fmt.{signed_decimal, digits, digits_onto, digit_glyph}
use Rattle.hex.specs.Hex.{encode_with, encode_lower, lower_digits}
use Rattle.sv_explain.specs.declared.value.Word.{Word}
use Rattle.sv_explain.specs.declared.value.Word.TheVariants as word
use Rattle.sv_explain.specs.declared.value.Value.{Value}
use Rattle.sv_explain.specs.declared.value.Value.TheVariants.{Number, Voltage, Word as Said, Share, Call, Reading, Overload}
use Rattle.sv_explain.specs.Value.{word_text, value_text}
use Rattle.sv_explain.specs.Lines.{numbers_text}
use Rattle.sv_replay.proofs.Filter.Left.{HasNoNewline, no_newline_cons, no_newline_uncons, no_newline_append}

-- ---- numbers

glyph_is_no_newline : (d : ℕ) → (digit_glyph false d == 10) ≡ false
glyph_is_no_newline d = here (nat_lt d 10)
  where
    here : (t : Bool) → (cond t (48 + d) (87 + d) == 10) ≡ false
    here true = ne_eqb (48 + d) 10 (λ e. omega (arith, e))
    here false = ne_eqb (87 + d) 10 (λ e. omega (arith, e))

no_newline_cond : (test : Bool) (a b : List ℕ) → HasNoNewline a → HasNoNewline b → HasNoNewline (cond test a b)
no_newline_cond true a b h k = h
no_newline_cond false a b h k = k

unbroken_onto : (k base n : ℕ) (acc : List ℕ) → HasNoNewline acc → HasNoNewline (digits_onto k base false n acc)
unbroken_onto zero base n acc h = h
unbroken_onto (suc k) base n acc h =
    let more : HasNoNewline (digit_glyph false (n % base) ∷ acc) =
    no_newline_cons (digit_glyph false (n % base)) acc (glyph_is_no_newline (n % base)) h in
    no_newline_cond (n / base == 0) (digit_glyph false (n % base) ∷ acc)
    (digits_onto k base false (n / base) (digit_glyph false (n % base) ∷ acc))
    more (unbroken_onto k base (n / base) (digit_glyph false (n % base) ∷ acc) more)

pub decimal_has_no_newline : (n : ℕ) → HasNoNewline (decimal n)
unfolding digits
decimal_has_no_newline n = unbroken_onto 64 10 n [] refl

pub unbroken_signed : (n : ℤ) → HasNoNewline (signed_decimal n)
unbroken_signed (pos n) = decimal_has_no_newline n
unbroken_signed (negsuc n) = no_newline_cons 45 (decimal (suc n)) refl (decimal_has_no_newline (suc n))

pub unbroken_numbers : (ns : List ℤ) → HasNoNewline (numbers_text ns)
unbroken_numbers [] = refl
unbroken_numbers (n ∷ ns) = all (n ∷ ns)
  where
    all : (ms : List ℤ) → HasNoNewline (concat (map (λ m. 32 ∷ signed_decimal m) ms))
    all [] = refl
    all (m ∷ ms) = no_newline_append (32 ∷ signed_decimal m) (concat (map (λ k. 32 ∷ signed_decimal k) ms))
        (no_newline_cons 32 (signed_decimal m) refl (unbroken_signed m)) (all ms)

-- ---- bytes in hexadecimal

element_is_no_newline : (text : List ℕ) (i : ℕ) → HasNoNewline text → (slice_index text i == 10) ≡ false
element_is_no_newline [] i h = refl
element_is_no_newline (x ∷ text) zero h = (no_newline_uncons x text h).0
element_is_no_newline (x ∷ text) (suc i) h = element_is_no_newline text i (no_newline_uncons x text h).1

pub hex_has_no_newline : (bytes : List ℕ) → HasNoNewline (encode_lower bytes)
unfolding encode_with
hex_has_no_newline [] = refl
hex_has_no_newline (b ∷ bytes) =
    no_newline_cons (slice_index lower_digits (b / 16)) (slice_index lower_digits (b % 16) ∷ encode_lower bytes)
    (element_is_no_newline lower_digits (b / 16) refl)
    (no_newline_cons (slice_index lower_digits (b % 16)) (encode_lower bytes) (element_is_no_newline lower_digits (b % 16) refl)
    (hex_has_no_newline bytes))

-- ---- words and values

pub unbroken_word : (w : Word) → HasNoNewline (word_text w)
unbroken_word word.None = refl
unbroken_word word.Idle = refl
unbroken_word word.Waiting = refl
unbroken_word word.Scanning = refl
unbroken_word word.Immediate = refl
unbroken_word word.Bus = refl
unbroken_word word.External = refl
unbroken_word word.Nothing = refl
unbroken_word word.One = refl
unbroken_word word.Readings = refl
unbroken_word word.Ended = refl
unbroken_word word.Core = refl
unbroken_word word.Abort = refl
unbroken_word word.Portmap = refl
unbroken_word word.Closed = refl
unbroken_word word.Lock = refl
unbroken_word word.Input = refl
unbroken_word word.Response = refl
unbroken_word word.Dial = refl
unbroken_word word.Over = refl
unbroken_word word.Under = refl

unbroken_option : (o : Option ℕ) (text : List ℕ) → HasNoNewline text → HasNoNewline (option_map_or decimal o text)
unbroken_option None text h = h
unbroken_option (Some n) text h = decimal_has_no_newline n

unbroken_pair : (a b : List ℕ) → HasNoNewline a → HasNoNewline b → HasNoNewline (a ++ 32 ∷ b)
unbroken_pair a b h k = no_newline_append a (32 ∷ b) h (no_newline_cons 32 b refl k)

pub value_has_no_newline : (v : Value) → HasNoNewline (value_text v)
value_has_no_newline (Number n) = decimal_has_no_newline n
value_has_no_newline (Voltage n) = unbroken_signed n
value_has_no_newline (Said w) = unbroken_word w
value_has_no_newline (Share done whole) = unbroken_pair (decimal done) (decimal whole) (decimal_has_no_newline done)
    (decimal_has_no_newline whole)
value_has_no_newline (Call what lid deadline) =
    unbroken_pair (word_text what) (option_map_or decimal lid (codes "none") ++ 32 ∷ option_map_or decimal deadline (codes "never"))
    (unbroken_word what) (unbroken_pair (option_map_or decimal lid (codes "none")) (option_map_or decimal deadline (codes "never"))
    (unbroken_option lid (codes "none") refl) (unbroken_option deadline (codes "never") refl))
value_has_no_newline (Reading number channel microvolts) =
    unbroken_pair (decimal number) (decimal channel ++ 32 ∷ signed_decimal microvolts) (decimal_has_no_newline number)
    (unbroken_pair (decimal channel) (signed_decimal microvolts) (decimal_has_no_newline channel) (unbroken_signed microvolts))
value_has_no_newline (Overload number channel w) =
    unbroken_pair (decimal number) (decimal channel ++ 32 ∷ word_text w) (decimal_has_no_newline number)
    (unbroken_pair (decimal channel) (word_text w) (decimal_has_no_newline channel) (unbroken_word w))
