-- What is read as a channel list is a valid channel list.
use Rattle.std.proofs.Common.{◌≡◌, ℕ, zero, suc, ◌+◌, ◌-◌, ◌<◌, ◌≤◌, ◌&&◌, Bool, true, false, not, cond, List, [], ◌∷◌, ◌++◌, length, refl, ap, ◌∙◌, inl, inr, arith}
use Rattle.std.specs.Prelude.{nat_le, nat_lt, is_some, Option, Some, None, Result, Ok, Err, MatchResult, IfOk}
use Rattle.std.specs.List.{list_all}
use Rattle.std.specs.Option.{option_map_or}
use Rattle.std.proofs.lemmas.Bool.{cases_lt, le-leb, leb-true, ltb-false, and_parts}
use Rattle.std.proofs.lemmas.List.{length-append}
use Rattle.std.proofs.lemmas.List.Folds.{list_all-append}
use Rattle.sv_errors.specs.Limits.{is_channel, is_channel_list, channel_count, longest_list}
use Rattle.sv_errors.specs.declared.code.Code.{Code}
use Rattle.sv_errors.specs.declared.code.Code.TheVariants.{DataOutOfRange, TooMuchData, InvalidExpression}
use Rattle.sv_lexer.specs.declared.token.Kind.TheVariants.{Expression}
use Rattle.sv_text.specs.Cut.{cut_at}
use Rattle.sv_text.proofs.Parts.{at_least_one_part}
use Rattle.sv_value.specs.Channels.{Span as Ends, inner, list_channels, next, read_items, read_list, channel_range, span}
use Rattle.sv_value.specs.Value.{ReadIsChannelList}
use Rattle.sv_value.proofs.Spans.{range_upwards, range_downwards, range_of_one, range_length}

cons_channel : (c : ℕ) (cs : List ℕ) → 1 ≤ c → c ≤ channel_count → list_all is_channel cs ≡ true → list_all is_channel (c ∷ cs) ≡ true
cons_channel c cs some most h = rw (le-leb 1 c some, le-leb c channel_count most) h

-- All channels between two channels are channels.
range_has_channels : (k first last : ℕ) → (first - last) + (last - first) ≡ k → 1 ≤ first → first ≤ channel_count → 1 ≤ last
    → last ≤ channel_count → list_all is_channel (channel_range first last) ≡ true
range_has_channels zero first last size f1 f2 l1 l2 =
    let e : first ≡ last = omega (arith, size) in
    rw e (ap (list_all is_channel) (range_of_one last) ∙ cons_channel last [] l1 l2 refl)
range_has_channels (suc k) first last size f1 f2 l1 l2 =
    elim (cases_lt first last) [
      | inl up ↦
          ap (list_all is_channel) (range_upwards first last up)
          ∙ cons_channel first (channel_range (first + 1) last) f1 f2
          (range_has_channels k (first + 1) last (omega (arith, size, up)) (omega arith) (omega (arith, up, l2)) l1 l2)
      | inr other ↦
          let down : last < first = omega (arith, size, other) in
          ap (list_all is_channel) (range_downwards first last down)
          ∙ cons_channel first (channel_range (first - 1) last) f1 f2
          (range_has_channels k (first - 1) last (omega (arith, size, down)) (omega (arith, down, l1)) (omega (arith, f2)) l1 l2)
    ]

ends_channels : (first last : ℕ) → (is_channel first && is_channel last) ≡ true → list_all is_channel (channel_range first last) ≡ true
ends_channels first last h =
    let one = and_parts (is_channel first) (is_channel last) h in
    let f = and_parts (nat_le 1 first) (nat_le first channel_count) one.0 in
    let l = and_parts (nat_le 1 last) (nat_le last channel_count) one.1 in
    range_has_channels ((first - last) + (last - first)) first last refl (leb-true 1 first f.0)
    (leb-true first channel_count f.1) (leb-true 1 last l.0) (leb-true last channel_count l.1)

-- Channels are a valid list if there are 1 to 128 of them.
channels_are_list : (before list : List ℕ) → list_all is_channel before ≡ true → length before ≤ longest_list → 1 ≤ length before
    → before ≡ list → is_channel_list list ≡ true
channels_are_list before list all most some e = rw (← e) (rw (le-leb 1 (length before) some, le-leb (length before) longest_list most) all)

-- If an item and the items after it are read without error, all of them are channels.
item_channels : (o : Option Ends) (before list : List ℕ) (others : List ℕ → Result (List ℕ) Code) → list_all is_channel before ≡ true
    → ((so_far : List ℕ) → list_all is_channel so_far ≡ true → length so_far ≤ longest_list → 1 ≤ length so_far → others so_far ≡ Ok list
    → is_channel_list list ≡ true) → next o before others ≡ Ok list → is_channel_list list ≡ true
item_channels None before list others all go h = absurd cc
item_channels (Some ends) before list others all go h =
    at (is_channel ends.first && is_channel ends.last)
    (nat_lt longest_list (length (before ++ channel_range ends.first ends.last))) refl refl h
  where
    at : (legal full : Bool) → (is_channel ends.first && is_channel ends.last) ≡ legal
        → nat_lt longest_list (length (before ++ channel_range ends.first ends.last)) ≡ full
        → cond (not legal) (Err DataOutOfRange) (cond full (Err TooMuchData) (others (before ++ channel_range ends.first ends.last)))
        ≡ Ok list
        → is_channel_list list ≡ true
    at false full is_legal is_full e = absurd cc
    at true true is_legal is_full e = absurd cc
    at true false is_legal is_full e =
        let channels = ends_channels ends.first ends.last is_legal in
        let run_size = range_length ends.first ends.last in
        let size = length-append before (channel_range ends.first ends.last) in
        go (before ++ channel_range ends.first ends.last)
        (list_all-append is_channel before (channel_range ends.first ends.last) ∙ rw (all, channels) refl)
        (ltb-false longest_list (length (before ++ channel_range ends.first ends.last)) is_full) (omega (arith, size, run_size)) e

listed_channels : (items : List (List ℕ)) (before list : List ℕ) → list_all is_channel before ≡ true → length before ≤ longest_list
    → 1 ≤ length before + length items → list_channels before items ≡ Ok list → is_channel_list list ≡ true
listed_channels [] before list all most some h = channels_are_list before list all most (omega (arith, some)) cc
listed_channels (item ∷ items) before list all most some h =
    item_channels (span item) before list (λ so_far. list_channels so_far items) all
    (λ so_far a m s e. listed_channels items so_far list a m (omega (arith, s)) e) h

items_channels : (o : Option (List ℕ)) (list : List ℕ) → option_map_or read_items o (Err InvalidExpression) ≡ Ok list
    → is_channel_list list ≡ true
items_channels None list h = absurd cc
items_channels (Some text) list h = at (list_all (λ item. is_some (span item)) (cut_at 44 text)) h
  where
    at : (t : Bool) → cond t (list_channels [] (cut_at 44 text)) (Err InvalidExpression) ≡ Ok list → is_channel_list list ≡ true
    at false e = absurd cc
    at true e = let some = at_least_one_part 44 text in listed_channels (cut_at 44 text) [] list refl (omega arith) (omega (arith, some)) e

pub read_channels : ReadIsChannelList
read_channels Expression text list h = items_channels (inner text) list h
read_channels _ text list h = absurd cc

-- A list that the code returns is valid.
pub returned_list_is_valid : {L : Type 0} (items : L → List ℕ) (text : List ℕ) (r : Result L Code)
    → MatchResult r (λ list. read_list text ≡ Ok (items list)) (λ code. read_list text ≡ Err code)
    → IfOk r (λ list. is_channel_list (items list) ≡ true)
returned_list_is_valid items text (Ok list) h = items_channels (inner text) (items list) h
returned_list_is_valid items text (Err code) h = tt
