-- How the fields of message exchange represent its contents, and how the contents change.
use Rattle.std.specs.Prelude.{◌≡◌, ℕ, ◌+◌, ◌==◌, ◌<◌, ◌≤◌, Bool, true, false, ◌&&◌, ◌||◌, List, [], ◌∷◌, ◌++◌, length, take, drop, nat_lt, slice_range, if◌then◌else◌}
use Rattle.std.specs.List.{position_or_len}
use Rattle.sv_exchange.specs.Contents.{Contents}
use Rattle.sv_exchange.specs.Limits.{max_message, max_text, max_response}

-- how many bytes the first message of a text has: those before the first new line, or all if there
-- is no new line
abbrev pub first_size : List ℕ → ℕ
first_size bytes = position_or_len (λ b. b == 10) bytes

-- whether a new line ends the first message of a text
abbrev pub has_line : List ℕ → Bool
has_line bytes = nat_lt (first_size bytes) (length bytes)

-- where the second message of a text begins: after the first new line; at the end of the text if
-- there is no new line
abbrev pub second_at : List ℕ → ℕ
second_at bytes = if has_line bytes then first_size bytes + 1 else length bytes

-- the contents after more text was accepted
abbrev pub after_accept : Contents → List ℕ → Bool → Contents
after_accept contents bytes ended =
    let overlong = contents.overlong || nat_lt max_message (length contents.rest + first_size bytes) in
    record contents {
      rest = if overlong then [] else contents.rest ++ take (first_size bytes) bytes;
      place = 0;
      ended = has_line bytes || ended;
      later = drop (second_at bytes) bytes;
      end_pending = has_line bytes && ended;
      overlong = overlong;
    }

-- the contents after the current message was finished, so that the next one is current
abbrev pub after_finish : Contents → Contents
after_finish contents = record {
  rest = take (first_size contents.later) contents.later;
  place = 0;
  ended = has_line contents.later || contents.end_pending;
  later = drop (second_at contents.later) contents.later;
  end_pending = has_line contents.later && contents.end_pending;
  overlong = false;
  overrun_reported = false;
  answers_dropped = false;
  answering = false;
  output = if contents.answering then contents.output ++ 10 ∷ [] else contents.output;
}

-- the joined answers (`output`) with a semicolon and `answer` after them; only `answer` if the
-- message has no answers yet (`false`)
abbrev pub with_answer : Bool → List ℕ → List ℕ → List ℕ
with_answer true output answer = output ++ 59 ∷ answer
with_answer false output answer = answer

-- the contents after a unit gave an answer. The flag says whether the answer fits. If it doesn't,
-- all answers of the message are dropped.
abbrev pub after_answer : Contents → List ℕ → Bool → Contents
after_answer contents answer true = record contents { answering = true; output = with_answer contents.answering contents.output answer }
after_answer contents answer false = record contents { answers_dropped = true; answering = false; output = [] }

-- the contents that the fields represent
abbrev pub contents_of : List ℕ → ℕ → ℕ → ℕ → Bool → Bool → Bool → Bool → Bool → Bool → List ℕ → ℕ → ℕ → Contents
contents_of text cursor end next_start ended end_pending overlong reported answers_dropped answering response read executed = record {
  rest = slice_range text cursor end;
  place = executed;
  ended = ended;
  later = drop next_start text;
  end_pending = end_pending;
  overlong = overlong;
  overrun_reported = reported;
  answers_dropped = answers_dropped;
  answering = answering;
  output = drop read response;
}

-- While answers are collected (`true`), none of their bytes were read, and the new line still fits
-- after them. Otherwise the output is a response that isn't too long, of which `read` bytes were
-- read.
abbrev pub IsOut : Bool → ℕ → ℕ → Type 0
IsOut true size read = (size < max_response) × (read ≡ 0)
IsOut false size read = (size ≤ max_response) × (read ≤ size)

-- If the current message hasn't ended, at most 4,096 of its bytes are stored. If it has ended, at
-- most 4,096 bytes are stored after it, and at most 8,192 bytes in all.
abbrev pub IsText : Bool → ℕ → ℕ → ℕ → ℕ → Type 0
IsText true size cursor end next_start = (size ≤ max_text) × (size ≤ next_start + max_message)
IsText false size cursor end next_start = (end ≡ size) × (next_start ≡ size) × (end ≤ cursor + max_message)

-- The fields agree with each other, and the allocated memory suffices for their contents.
pub record IsValid (text : List ℕ) (cursor end next_start : ℕ) (ended : Bool) (space : ℕ) (response : List ℕ) (read : ℕ) (answering : Bool)
    (slots : ℕ) : Type 0 where
  pub order : (cursor ≤ end) × (end ≤ next_start) × (next_start ≤ length text)
  pub bounds : IsText ended (length text) cursor end next_start
  pub output : IsOut answering (length response) read
  pub enough : max_text ≤ space
  pub many : max_response ≤ slots
