-- Channel lists (SCPI-1999, volume 1, chapter 8): `(@`, items separated by commas, `)`. An item is
-- a channel, or two channels with a colon between them.
use Rattle.std.specs.Prelude.{ℕ, ◌+◌, ◌-◌, ◌==◌, ◌&&◌, not, Bool, false, List, [], ◌∷◌, ◌++◌, length, take, reverse, nat_le, nat_lt, slice_get, Option, Some, None, is_some, Result, Ok, Err, if◌then◌else◌}
use Rattle.sv_text.specs.Front.{is_empty}
use Rattle.std.specs.List.{list_all, range_with_len}
use Rattle.std.specs.Option.{option_map_or}
use Rattle.std.specs.Char.{is_ascii_digit}
use Rattle.std.specs.Str.Parse.{digits_value}
use Rattle.sv_errors.specs.Limits.{is_channel, longest_list}
use Rattle.sv_errors.specs.declared.code.Code.{Code}
use Rattle.sv_errors.specs.declared.code.Code.TheVariants.{DataOutOfRange, TooMuchData, InvalidExpression}
use Rattle.sv_text.specs.White.{trim}
use Rattle.sv_text.specs.Cut.{cut_at}

-- the text without the closing parenthesis; `None` if it doesn't end in one
abbrev closed : List ℕ → Option (List ℕ)
closed text =
    if option_map_or (λ b. b == 41) (slice_get text (length text - 1)) false then Some (take (length text - 1) text) else None

-- the text between `(@` and `)`; `None` if the text isn't of this form
abbrev pub inner : List ℕ → Option (List ℕ)
inner (a ∷ b ∷ text) = if a == 40 && b == 64 then closed text else None
inner _ = None

-- whether a text is digits, with or without white space around them
abbrev pub is_number : List ℕ → Bool
is_number text = not (is_empty (trim text)) && list_all is_ascii_digit (trim text)

-- the value of a text of digits, with or without white space around them
abbrev pub number : List ℕ → ℕ
number text = digits_value 10 (trim text)

-- the first and the last number of an item of a channel list, such as `3:7`; both are 3 for the
-- item `3`
pub record Span : Type 0 where
  pub first : ℕ
  pub last : ℕ

-- the first and the last number of a channel list's item, given the item's parts between colons;
-- `None` if the parts are neither one number nor two numbers
abbrev pub span_of : List (List ℕ) → Option Span
span_of (a ∷ []) = if is_number a then Some (record { first = number a; last = number a }) else None
span_of (a ∷ b ∷ []) = if is_number a && is_number b then Some (record { first = number a; last = number b }) else None
span_of _ = None

-- the first and the last number of an item such as `3` or `3:7`; `None` if the text doesn't have
-- the form of an item
abbrev pub span : List ℕ → Option Span
span item = span_of (cut_at 58 item)

-- the channels from `first` to `last`, upwards or downwards
abbrev pub channel_range : ℕ → ℕ → List ℕ
channel_range first last = if nat_le first last then range_with_len first (last - first + 1) else reverse
    (range_with_len last (first - last + 1))

-- One step of reading a channel list: the channels of the next item are appended to `before`, and
-- `others` reads the remaining items. The result is the list, or the first error that applies: -171
-- for an item of the wrong form (`None`); -222 if the item's first or last number isn't a channel;
-- -223 if the list becomes longer than the limit; the error of `others`.
abbrev pub next : Option Span → List ℕ → (List ℕ → Result (List ℕ) Code) → Result (List ℕ) Code
next None before others = Err InvalidExpression
next (Some ends) before others =
    if not (is_channel ends.first && is_channel ends.last) then Err DataOutOfRange
    else if nat_lt longest_list (length (before ++ channel_range ends.first ends.last)) then Err TooMuchData
    else others (before ++ channel_range ends.first ends.last)

-- the channels in `before`, followed by the channels of all items; or the first error
abbrev pub list_channels : List ℕ → List (List ℕ) → Result (List ℕ) Code
list_channels before [] = Ok before
list_channels before (item ∷ items) = next (span item) before (λ so_far. list_channels so_far items)

-- the channels of all items, given the text between the parentheses; or the first error: -171 if a
-- text between commas isn't an item; else the error of the first item that has one
abbrev pub read_items : List ℕ → Result (List ℕ) Code
read_items text = if list_all (λ item. is_some (span item)) (cut_at 44 text) then list_channels []
    (cut_at 44 text) else Err InvalidExpression

-- the channels of a channel list, or the first error
abbrev pub read_list : List ℕ → Result (List ℕ) Code
read_list text = option_map_or read_items (inner text) (Err InvalidExpression)
