-- How each change of the fields changes the contents that they represent.
use Rattle.std.proofs.Common.{◌≡◌, ℕ, ◌+◌, ◌-◌, ◌≤◌, Bool, true, false, ◌&&◌, ◌||◌, cond, List, [], ◌∷◌, ◌++◌, length, take, drop, refl, sym, ap, ◌∙◌, nat_lt, slice_range, arith}
use Rattle.std.proofs.lemmas.List.{length-drop, length-take-le, drop-take, drop-drop, take_rest}
use Rattle.std.proofs.Math.Seq.{take-append-add, drop-append-add}
use Rattle.std.specs.Prelude.{if◌then◌else◌}
use Rattle.sv_exchange.specs.Contents.{Contents}
use Rattle.sv_exchange.specs.Fields.{contents_of, IsText, IsOut, first_size, second_at, has_line, after_accept, after_finish}
use Rattle.sv_exchange.specs.Limits.{max_message}

-- The text after the current message is at most one write.
pub later_is_one_write : (text : List ℕ) (at end behind : ℕ) (ended : Bool) → IsText ended (length text) at end behind
    → length (drop behind text) ≤ max_message
later_is_one_write text at end behind true t = omega (arith, length-drop behind text)
later_is_one_write text at end behind false t = omega (arith, length-drop behind text)

pub rest_size : (text : List ℕ) (at end : ℕ) → at ≤ end → end ≤ length text → length (slice_range text at end) ≡ end - at
rest_size text at end le within = length-take-le (end - at) (drop at text) (omega (arith, length-drop at text))

-- Bytes of the current message were executed.
pub contents_after_unit : (text : List ℕ) (at end behind : ℕ) (ended mark long told lost answering : Bool) (response : List ℕ)
    (taken executed count : ℕ) → at ≤ end → end ≤ length text → count ≤ length (slice_range text at end)
    → contents_of text (at + count) end behind ended mark long told lost answering response taken (executed + count)
    ≡ record (contents_of text at end behind ended mark long told lost answering response taken executed) {
      rest = drop count (slice_range text at end);
      place = executed + count;
    }
contents_after_unit text at end behind ended mark long told lost answering response taken executed count le within some =
    let size = rest_size text at end le within in
    let parts : end - at ≡ count + (end - (at + count)) = omega arith in
    let rest : slice_range text (at + count) end ≡ drop count (slice_range text at end) =
    ap (take (end - (at + count))) (sym (drop-drop count at text)) ∙ sym (drop-take count (end - (at + count)) (drop at text))
    ∙ ap (λ (n : ℕ). drop count (take n (drop at text))) (sym parts) in
    let made : List ℕ → Contents = λ r. record {
      rest = r;
      place = executed + count;
      ended = ended;
      later = drop behind text;
      end_pending = mark;
      overlong = long;
      overrun_reported = told;
      answers_dropped = lost;
      answering = answering;
      output = drop taken response;
    } in
    ap made rest

take_over : (n m : ℕ) (xs ys : List ℕ) → n ≡ length xs → take (n + m) (xs ++ ys) ≡ xs ++ take m ys
take_over n m xs ys e = ap (λ (k : ℕ). take (k + m) (xs ++ ys)) e ∙ take-append-add xs ys m

drop_over : (n m : ℕ) (xs ys : List ℕ) → n ≡ length xs → drop (n + m) (xs ++ ys) ≡ drop m ys
drop_over n m xs ys e = ap (λ (k : ℕ). drop (k + m) (xs ++ ys)) e ∙ drop-append-add xs ys m

-- If the message extends to the end of the text, its rest is all text from `at` on.
rest_is_all : (text : List ℕ) (at end : ℕ) → end ≡ length text → slice_range text at end ≡ drop at text
rest_is_all text at end e = ap (λ (n : ℕ). take (n - at) (drop at text)) e ∙ take_rest text at

-- Further text continues the rest of the message; the rest is empty if the message is too long.
rest_with : (text bytes : List ℕ) (before size at : ℕ) (long : Bool) → before ≡ length text → at ≡ cond long (before + size) 0
    → slice_range (text ++ bytes) at (before + size) ≡ cond long [] (text ++ take size bytes)
rest_with text bytes before size at true e f =
    let none : before + size - at ≡ 0 = omega arith in
    ap (λ (n : ℕ). take n (drop at (text ++ bytes))) none
rest_with text bytes before size at false e f =
    let all : before + size - 0 ≡ before + size = omega arith in
    rw (f, all) (take_over before size text bytes e)

-- More text is accepted.
pub contents_after_accept : (text text' bytes : List ℕ) (at at' end behind before size second : ℕ)
    (ended ended' mark mark' long told lost answering given : Bool) (response : List ℕ) (taken executed : ℕ)
    → end ≡ length text → text' ≡ drop at text ++ bytes → before ≡ length (drop at text) → size ≡ first_size bytes
    → second ≡ second_at bytes → ended' ≡ (has_line bytes || given)
    → mark' ≡ (has_line bytes && given) → at' ≡ cond (long || nat_lt max_message (before + size)) (before + size) 0
    → contents_of text' at' (before + size) (before + second) ended' mark'
    (long || nat_lt max_message (before + size)) told lost answering response taken 0
    ≡ after_accept (contents_of text at end behind ended mark long told lost answering response taken executed) bytes given
contents_after_accept text text' bytes at at' end behind before size second ended ended' mark mark' long told lost answering given response
    taken
    executed all text_is before_is size_is second_is ended_is mark_is at_is =
    let rest = rest_is_all text at end all in
    let before_rest : before ≡ length (slice_range text at end) = before_is ∙ sym (ap length rest) in
    let long_is : (long || nat_lt max_message (before + size))
    ≡ (long || nat_lt max_message (length (slice_range text at end) + first_size bytes)) =
    rw (before_rest, size_is) refl in
    let rest_is : slice_range text' at' (before + size)
    ≡ cond (long || nat_lt max_message (before + size)) [] (slice_range text at end ++ take (first_size bytes) bytes) =
    rw (text_is, rest, ← size_is)
    (rest_with (drop at text) bytes before size at' (long || nat_lt max_message (before + size)) before_is at_is) in
    let later_is : drop (before + second) text' ≡ drop (second_at bytes) bytes =
    rw (text_is, ← second_is) (drop_over before second (drop at text) bytes before_is) in
    let made : List ℕ → Bool → List ℕ → Bool → Bool → Contents =
    λ r e l m n. record {
      rest = r;
      place = 0;
      ended = e;
      later = l;
      end_pending = m;
      overlong = n;
      overrun_reported = told;
      answers_dropped = lost;
      answering = answering;
      output =
          drop taken response;
    } in
    let new_long : Bool = long || nat_lt max_message (before + size) in
    ap (λ (r : List ℕ). made r ended' (drop (before + second) text') mark' new_long) rest_is
    ∙ ap (λ (e : Bool). made (cond new_long [] (slice_range text at end ++ take (first_size bytes) bytes)) e
    (drop (before + second) text') mark' new_long) ended_is
    ∙ ap (λ (l : List ℕ). made (cond new_long [] (slice_range text at end ++ take (first_size bytes) bytes))
    (has_line bytes || given) l mark' new_long) later_is
    ∙ ap (λ (m : Bool). made (cond new_long [] (slice_range text at end ++ take (first_size bytes) bytes)) (has_line bytes || given)
    (drop (second_at bytes) bytes) m new_long) mark_is
    ∙ ap (λ (n : Bool). made (cond n [] (slice_range text at end ++ take (first_size bytes) bytes)) (has_line bytes || given)
    (drop (second_at bytes) bytes) (has_line bytes && given) n) long_is

-- A message that hasn't ended extends to the end of the text.
pub open_message_end : (ended : Bool) (size at end behind : ℕ) → ended ≡ false → IsText ended size at end behind → end ≡ size
open_message_end true size at end behind e t = absurd cc
open_message_end false size at end behind e t = t.0

-- What is left to read after the new line is appended to the answers.
read_closed : (answering : Bool) (response closed : List ℕ) (read : ℕ) → closed ≡ (if answering then response ++ 10 ∷ [] else response)
    → IsOut answering (length response) read → drop read closed ≡ (if answering then drop read response ++ 10 ∷ [] else drop read response)
read_closed true response closed read is out = rw (out.1, is) refl
read_closed false response closed read is out = ap (drop read) is

-- Finishing a message makes the next one current: each field represents the contents after it.
pub finish_fields : (text given : List ℕ) (cursor end next_start size behind : ℕ) (ended pending long told lost answering : Bool)
    (response closed : List ℕ) (read executed : ℕ) (new_ended new_pending : Bool) → given ≡ text
    → (let later = take (length given - next_start) (drop next_start given) in (size ≡ first_size later) × (behind ≡ second_at later)
    × (new_ended ≡ (has_line later || pending)) × (new_pending ≡ (has_line later && pending)))
    → closed ≡ (if answering then response ++ 10 ∷ [] else response) → IsOut answering (length response) read
    → contents_of text next_start (next_start + size) (next_start + behind) new_ended new_pending false false false false closed read 0
    ≡ after_finish (contents_of text cursor end next_start ended pending long told lost answering response read executed)
finish_fields text given cursor end next_start size behind ended pending long told lost answering response closed read executed new_ended
    new_pending given_is first closed_is out =
    let later_is : take (length given - next_start) (drop next_start given) ≡ drop next_start text =
    ap (λ (l : List ℕ). take (length l - next_start) (drop next_start l)) given_is ∙ take_rest text next_start in
    let of_size : next_start + size - next_start ≡ size = omega arith in
    let rest : slice_range text next_start (next_start + size) ≡ take (first_size (drop next_start text)) (drop next_start text) =
    ap (λ (n : ℕ). take n (drop next_start text)) (of_size ∙ first.0 ∙ ap first_size later_is) in
    let later : drop (next_start + behind) text ≡ drop (second_at (drop next_start text)) (drop next_start text) =
    sym (drop-drop behind next_start text) ∙ ap (λ (n : ℕ). drop n (drop next_start text)) (first.1 ∙ ap second_at later_is) in
    let ended_is : new_ended ≡ (has_line (drop next_start text) || pending) =
    first.2 ∙ ap (λ (l : List ℕ). has_line l || pending) later_is in
    let pending_is : new_pending ≡ (has_line (drop next_start text) && pending) =
    first.3 ∙ ap (λ (l : List ℕ). has_line l && pending) later_is in
    let output = read_closed answering response closed read closed_is out in
    rw (rest, later, ended_is, pending_is, output) refl
