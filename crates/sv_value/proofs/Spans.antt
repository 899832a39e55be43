-- Ranges of channels in a channel list, upwards or downwards.
use Rattle.std.proofs.Common.{◌≡◌, ℕ, zero, suc, ◌+◌, ◌-◌, ◌<◌, ◌≤◌, Bool, true, List, [], ◌∷◌, ◌++◌, length, refl, sym, ap, ◌∙◌, inl, inr, arith}
use Rattle.std.specs.Prelude.{reverse, nat_le, nat_lt, min, Option, Some, None, Result, Err, if◌then◌else◌}
use Rattle.std.specs.List.{range_with_len}
use Rattle.std.proofs.lemmas.Bool.{cases_lt, le-leb, lt-leb, leb-true, and_parts}
use Rattle.std.proofs.lemmas.List.{append_assoc, length-append, length-reverse, reverse-append}
use Rattle.std.specs.Int.{abs_diff}
use Rattle.sv_errors.specs.declared.code.Code.{Code}
use Rattle.sv_errors.specs.declared.code.Code.TheVariants.{TooMuchData}
use Rattle.sv_value.specs.declared.channels.Span.{Span}
use Rattle.sv_errors.specs.Limits.{is_channel, channel_count, longest_list}
use Rattle.sv_value.specs.Channels.{Span as Ends, next, channel_range, span_of}
use Rattle.sv_value.specs.Plain.{ends_up_to}
use Rattle.std.proofs.lemmas.List.FromFn.{length-range_with_len}

pub range_upwards : (first last : ℕ) → first < last → channel_range first last ≡ first ∷ channel_range (first + 1) last
range_upwards first last lt =
    let size : last - first + 1 ≡ suc (last - (first + 1) + 1) = omega (arith, lt) in
    rw (le-leb first last (omega (arith, lt)), le-leb (first + 1) last (omega (arith, lt)), size) refl

pub range_of_one : (channel : ℕ) → channel_range channel channel ≡ channel ∷ []
range_of_one channel =
    let size : channel - channel + 1 ≡ 1 = omega arith in
    rw (le-leb channel channel (omega arith), size) refl

range_push : (first n : ℕ) → range_with_len first (suc n) ≡ range_with_len first n ++ (first + n) ∷ []
range_push first zero = let e : first ≡ first + 0 = omega arith in ap (λ c. c ∷ []) e
range_push first (suc n) =
    let e : first + 1 + n ≡ first + suc n = omega arith in
    ap (λ cs. first ∷ cs) (range_push (first + 1) n ∙ ap (λ c. range_with_len (first + 1) n ++ c ∷ []) e)

run_back : (first last : ℕ) → last < first → channel_range first last ≡ reverse (range_with_len last (first - last + 1))
run_back first last lt = rw (lt-leb first last lt) refl

-- The rest of a downward range after its first channel.
run_rest : (first last : ℕ) → last < first → channel_range (first - 1) last ≡ reverse (range_with_len last (first - last))
run_rest first last lt =
    elim (cases_lt last (first - 1)) [
      | inl more ↦
          let size : first - 1 - last + 1 ≡ first - last = omega (arith, more, lt) in
          run_back (first - 1) last more ∙ ap (λ n. reverse (range_with_len last n)) size
      | inr none ↦
          let one : first - 1 ≡ last = omega (arith, none, lt) in
          let size : first - last ≡ 1 = omega (arith, none, lt) in
          rw (one, size) (range_of_one last)
    ]

-- A downward range begins with its first channel.
pub range_downwards : (first last : ℕ) → last < first → channel_range first last ≡ first ∷ channel_range (first - 1) last
range_downwards first last lt =
    let size : first - last + 1 ≡ suc (first - last) = omega (arith, lt) in
    let end : last + (first - last) ≡ first = omega (arith, lt) in
    run_back first last lt
    ∙ ap (λ n. reverse (range_with_len last n)) size
    ∙ ap reverse (range_push last (first - last))
    ∙ reverse-append (range_with_len last (first - last)) ((last + (first - last)) ∷ [])
    ∙ ap (λ c. c ∷ reverse (range_with_len last (first - last))) end
    ∙ ap (λ cs. first ∷ cs) (sym (run_rest first last lt))

pub range_length : (first last : ℕ) → length (channel_range first last) ≡ (first - last) + (last - first) + 1
range_length first last =
    elim (cases_lt last first) [
      | inl lt ↦ ap length (run_back first last lt) ∙ length-reverse (range_with_len last (first - last + 1))
          ∙ length-range_with_len last (first - last + 1) ∙ omega (arith, lt)
      | inr ge ↦ let up : length (range_with_len first (last - first + 1)) ≡ (first - last) + (last - first) + 1 =
          length-range_with_len first (last - first + 1) ∙ omega (arith, ge) in
          rw (le-leb first last ge) up
    ]

-- Pushing the first channel of a range leaves the others to push.
pub push_up : (before items list : List ℕ) (first last channel : ℕ) → channel < last → list ≡ items ++ channel ∷ []
    → items ++ channel_range channel last ≡ before ++ channel_range first last
    → list ++ channel_range (channel + 1) last ≡ before ++ channel_range first last
push_up before items list first last channel lt e h =
    rw e (simp append_assoc (ap (λ cs. items ++ cs) (sym (range_upwards channel last lt)) ∙ h))

pub push_down : (before items list : List ℕ) (first last channel : ℕ) → last < channel → list ≡ items ++ channel ∷ []
    → items ++ channel_range channel last ≡ before ++ channel_range first last
    → list ++ channel_range (channel - 1) last ≡ before ++ channel_range first last
push_down before items list first last channel lt e h =
    rw e (simp append_assoc (ap (λ cs. items ++ cs) (sym (range_downwards channel last lt)) ∙ h))

-- A list with a range after it is longer by the length of the range.
pub run_fits : (before : List ℕ) (first last : ℕ)
    → length (before ++ channel_range first last) ≡ length before + (first - last) + (last - first) + 1
run_fits before first last = let run_size = range_length first last in length-append before (channel_range first last)
    ∙ omega (arith, run_size)

-- An item whose ends were read up to the cap is an item with these ends, up to the cap.
capped_item_is_item : (o : Option Ends) (span : Span) → ends_up_to o ≡ Some span
    → (e : Ends) × (o ≡ Some e) × (min e.first 1000000000000000000 ≡ span.first) × (min e.last 1000000000000000000 ≡ span.last)
capped_item_is_item None span h = absurd cc
capped_item_is_item (Some e) span h = (e, refl, cc, cc)

-- The numbers of channels are below the cap, so a channel's number was read exactly.
channel_same : (n m : ℕ) → min n 1000000000000000000 ≡ m → is_channel m ≡ true → n ≡ m
channel_same n m e c =
    let most = leb-true m channel_count (and_parts (nat_le 1 m) (nat_le m channel_count) c).1 in
    omega (arith, e, most)

-- A range is added to the channels before it, or is refused if the list becomes too long.
pub item_is_added : (o : Option Ends) (span : Span) (before : List ℕ) (full : Bool) → ends_up_to o ≡ Some span
    → is_channel span.first ≡ true
    → is_channel span.last ≡ true → nat_lt longest_list (length before + abs_diff span.first span.last + 1) ≡ full
    → (others : List ℕ → Result (List ℕ) Code)
    → next o before others ≡ (if full then Err TooMuchData else others (before ++ channel_range span.first span.last))
item_is_added o span before full h first last room others =
    let some = capped_item_is_item o span h in
    let f = channel_same some.0.first span.first some.2 first in
    let l = channel_same some.0.last span.last some.3 last in
    let size : length (before ++ channel_range span.first span.last) ≡ length before + abs_diff span.first span.last + 1 =
    run_fits before span.first span.last ∙ omega arith in
    rw (some.1, f, l, first, last, size, room) refl

-- An item has at most two parts.
pub span_has_at_most_two_parts : (a b : List ℕ) (others : List (List ℕ)) → 1 ≤ length others → span_of (a ∷ b ∷ others) ≡ None
span_has_at_most_two_parts a b [] some = absurd (omega (arith, some))
span_has_at_most_two_parts a b (c ∷ others) some = refl
