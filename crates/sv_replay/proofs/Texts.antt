-- The buffer for a replay's input: where its first new line is, and how it changes.
use Rattle.std.proofs.Common.{◌≡◌, ℕ, zero, suc, ◌+◌, ◌-◌, ◌<◌, ◌≤◌, ◌==◌, max, Bool, true, false, not, cond, List, [], ◌∷◌, ◌++◌, length, take, drop, slice_range, Some, None, refl, sym, ap, ◌∙◌, arith}
use Rattle.std.proofs.lemmas.Bool.{false_from_ne_true, not_from_false, lt-ltb, le-ltb}
use Rattle.std.proofs.lemmas.List.{length-drop, length-take-le, drop-take, drop-drop, take_at}
use Rattle.std.proofs.lemmas.List.Sums.{prefix_len_is}
use Rattle.std.proofs.Math.Seq.{take-add}
use Rattle.memchr.specs.Find.{IsFirstByte, is_byte}
use Rattle.sv_replay.specs.Text.{IsKept, line_size, first_end}

-- Appending text never makes the first line shorter.
pub line_size_of_append : (text more : List ℕ) → line_size text ≤ line_size (text ++ more)
line_size_of_append [] more = omega arith
line_size_of_append (b ∷ text) more = at (b == 10) (line_size_of_append text more)
  where
    at : (t : Bool) → line_size text ≤ line_size (text ++ more)
        → cond (not t) (1 + line_size text) 0 ≤ cond (not t) (1 + line_size (text ++ more)) 0
    at true h = omega arith
    at false h = omega arith

-- Dropping `n` bytes makes the first line at most `n` bytes shorter.
pub line_size_after_drop : (n : ℕ) (text : List ℕ) → line_size text ≤ n + line_size (drop n text)
line_size_after_drop zero text = omega arith
line_size_after_drop (suc n) [] = omega arith
line_size_after_drop (suc n) (b ∷ text) = at (b == 10) (line_size_after_drop n text)
  where
    at : (t : Bool) → line_size text ≤ n + line_size (drop n text) → cond (not t) (1 + line_size text) 0 ≤ suc n + line_size (drop n text)
    at true h = omega arith
    at false h = omega arith

-- Dropping `n` bytes of the first line makes it exactly `n` bytes shorter.
pub line_size_within_line : (n : ℕ) (text : List ℕ) → n ≤ line_size text → line_size text ≡ n + line_size (drop n text)
line_size_within_line zero text h = omega arith
line_size_within_line (suc n) [] h = omega arith
line_size_within_line (suc n) (b ∷ text) h = at (b == 10) (line_size_within_line n text) h
  where
    at : (t : Bool) → (n ≤ line_size text → line_size text ≡ n + line_size (drop n text)) → suc n ≤ cond (not t) (1 + line_size text) 0
        → cond (not t) (1 + line_size text) 0 ≡ suc n + line_size (drop n text)
    at true f h = omega arith
    at false f h = omega (arith, f (omega arith))

-- The first new line that a search finds ends the first line.
pub line_size_of_found : (text : List ℕ) (k : ℕ) → IsFirstByte (is_byte 10) text (Some k) → (line_size text ≡ k) × (k < length text)
line_size_of_found text k h = (
  prefix_len_is (λ b. not (b == 10)) text k 0 (omega (arith, h.0.high))
      (λ j lt. not_from_false _ (false_from_ne_true _ (h.0.before j (omega arith) lt)))
      (λ _. ap not h.1),
  h.0.high,
)

-- If a search finds no new line, the whole text is the first line.
pub line_size_without_newline : (text : List ℕ) → IsFirstByte (is_byte 10) text None → line_size text ≡ length text
line_size_without_newline text h = prefix_len_is (λ b. not (b == 10)) text (length text) 0 (omega arith)
    (λ j lt. not_from_false _ (false_from_ne_true _ (h j (omega arith) lt)))
    (λ lt. absurd (omega arith))

-- The end of the first line is reported as its position, or as `None` if there is no new line.
pub first_end_of_found : (text : List ℕ) (k : ℕ) → line_size text ≡ k → k < length text → Some k ≡ first_end text
first_end_of_found text k e lt = rw (e, lt-ltb k (length text) lt) refl

pub first_end_without_newline : (text : List ℕ) → line_size text ≡ length text → None ≡ first_end text
first_end_without_newline text e = rw (e, le-ltb (length text) (length text) (omega arith)) refl

pub slice_length : (buffer : List ℕ) (start end : ℕ) → end ≤ length buffer → length (slice_range buffer start end) ≡ end - start
slice_length buffer start end within = length-take-le (end - start) (drop start buffer) (omega (arith, length-drop start buffer))

pub slice_drop : (buffer : List ℕ) (start next end : ℕ) → start ≤ next → next ≤ end
    → slice_range buffer next end ≡ drop (next - start) (slice_range buffer start end)
slice_drop buffer start next end le within =
    let parts : end - start ≡ (next - start) + (end - next) = omega arith in
    let reached : start + (next - start) ≡ next = omega arith in
    sym (ap (λ (n : ℕ). drop (next - start) (take n (drop start buffer))) parts ∙ drop-take (next - start) (end - next) (drop start buffer)
    ∙ ap (take (end - next)) (drop-drop (next - start) start buffer) ∙ ap (λ (n : ℕ). take (end - next) (drop n buffer)) reached)

-- A search that begins at `clean` and finds a new line has found the first one of the text.
pub found_keeps : (buffer : List ℕ) (start clean end reads k : ℕ) → IsKept buffer start clean end reads
    → IsFirstByte (is_byte 10) (slice_range buffer clean end) (Some k)
    → IsKept buffer start (clean + k) end reads × (Some (clean + k - start) ≡ first_end (slice_range buffer start end))
found_keeps buffer start clean end reads k kept found =
    let text = slice_range buffer start end in
    let rest : slice_range buffer clean end ≡ drop (clean - start) text = slice_drop buffer start clean end kept.order.0 kept.order.1 in
    let at = line_size_of_found (slice_range buffer clean end) k found in
    let more = line_size_within_line (clean - start) text (omega (arith, kept.order, kept.unbroken)) in
    let line : line_size text ≡ clean + k - start = omega (arith, more, ap line_size rest, at.0, kept.order) in
    let size = slice_length buffer start end (omega (arith, kept.order, kept.size)) in
    let left = slice_length buffer clean end (omega (arith, kept.order, kept.size)) in (
      record {
        order = (omega (arith, kept.order), omega (arith, at.1, left, kept.order), kept.order.2);
        size = kept.size;
        unbroken = omega (arith, line, kept.order);
        few = kept.few;
      },
      first_end_of_found text (clean + k - start) line (omega (arith, at.1, left, size, kept.order)),
    )

-- If a search that begins at `clean` finds none, the text has none; the whole text is then clean.
pub open_keeps : (buffer : List ℕ) (start clean end reads : ℕ) → IsKept buffer start clean end reads
    → IsFirstByte (is_byte 10) (slice_range buffer clean end) None
    → IsKept buffer start end end reads × (None ≡ first_end (slice_range buffer start end))
open_keeps buffer start clean end reads kept none =
    let text = slice_range buffer start end in
    let rest : slice_range buffer clean end ≡ drop (clean - start) text = slice_drop buffer start clean end kept.order.0 kept.order.1 in
    let all = line_size_without_newline (slice_range buffer clean end) none in
    let more = line_size_within_line (clean - start) text (omega (arith, kept.order, kept.unbroken)) in
    let size = slice_length buffer start end (omega (arith, kept.order, kept.size)) in
    let left = slice_length buffer clean end (omega (arith, kept.order, kept.size)) in
    let line : line_size text ≡ length text = omega (arith, more, ap line_size rest, all, left, size, kept.order) in (
      record {
        order = (omega (arith, kept.order), omega arith, kept.order.2);
        size = kept.size;
        unbroken = omega (arith, line, size, kept.order);
        few = kept.few;
      },
      first_end_without_newline text line,
    )

-- Dropping the first `n` bytes of the text keeps the invariant.
pub dropped_keeps : (buffer : List ℕ) (start clean later end reads n : ℕ) → IsKept buffer start clean end reads
    → n ≤ length (slice_range buffer start end) → later ≡ max clean (start + n)
    → IsKept buffer (start + n) later end reads × (slice_range buffer (start + n) end ≡ drop n (slice_range buffer start end))
dropped_keeps buffer start clean later end reads n kept some is =
    let size = slice_length buffer start end (omega (arith, kept.order, kept.size)) in
    let count : start + n - start ≡ n = omega arith in
    let rest : slice_range buffer (start + n) end ≡ drop n (slice_range buffer start end) =
    slice_drop buffer start (start + n) end (omega arith) (omega (arith, size, kept.order))
    ∙ ap (λ (k : ℕ). drop k (slice_range buffer start end)) count in
    let left = line_size_after_drop n (slice_range buffer start end) in (
      record {
        order = (omega arith, omega (arith, size, kept.order), kept.order.2);
        size = kept.size;
        unbroken = omega (arith, left, ap line_size rest, kept.unbroken);
        few = kept.few;
      },
      rest,
    )

-- The buffer is ready for a read: it still holds the text, and has at least 65,536 bytes of room.
pub record IsReady (buffer : List ℕ) (start clean end reads : ℕ) (text : List ℕ) : Type 0 where
  pub kept : IsKept buffer start clean end reads
  pub room : end ≤ 65536
  pub same : slice_range buffer start end ≡ text

pub moved_ready : (buffer moved : List ℕ) (start clean end reads count : ℕ) (text : List ℕ) → IsKept buffer start clean end reads
    → slice_range buffer start end ≡ text → length text ≤ 65536
    → length moved ≡ length buffer → count ≤ start → slice_range moved (start - count) (end - count) ≡ slice_range buffer start end
    → (end - start ≤ 65536 → end - count ≤ 65536) → IsReady moved (start - count) (clean - count) (end - count) reads text
moved_ready buffer moved start clean end reads count text kept is short size within same room =
    let few = slice_length buffer start end (omega (arith, kept.order, kept.size)) in
    record {
      kept = record {
        order = (omega (arith, kept.order), omega (arith, kept.order), omega (arith, kept.order));
        size = size ∙ kept.size;
        unbroken = omega (arith, ap line_size same, kept.unbroken, kept.order, within);
        few = kept.few;
      };
      room = room (omega (arith, ap length is, few, short));
      same = same ∙ is;
    }

-- After a read of `count` bytes, the buffer holds the text followed by these bytes.
pub filled_keeps : (buffer filled : List ℕ) (start clean end last reads count more : ℕ) (text : List ℕ)
    → IsReady buffer start clean end reads text → length filled ≡ length buffer
    → take end filled ≡ take end buffer → count ≤ length (drop end filled) → last ≡ end + count → more ≤ 4294967294
    → IsKept filled start clean last more × (slice_range filled start last ≡ text ++ take count (drop end filled))
filled_keeps buffer filled start clean end last reads count more text ready size front some is few =
    let old = ready.kept in
    let m = end - start in
    let parts : last - start ≡ m + count = omega (arith, old.order) in
    let reached : start + m ≡ end = omega (arith, old.order) in
    let head : take m (drop start filled) ≡ text =
    sym (drop-take start m filled) ∙ ap (λ (k : ℕ). drop start (take k filled)) reached ∙ ap (drop start) front
    ∙ sym (ap (λ (k : ℕ). drop start (take k buffer)) reached) ∙ drop-take start m buffer ∙ ready.same in
    let tail : drop m (drop start filled) ≡ drop end filled = drop-drop m start filled ∙ ap (λ (k : ℕ). drop k filled) reached in
    let all : slice_range filled start last ≡ text ++ take count (drop end filled) =
    ap (λ (k : ℕ). take k (drop start filled)) parts ∙ take-add m count (drop start filled)
    ∙ ap (λ (l : List ℕ). l ++ take count (drop m (drop start filled))) head
    ∙ ap (λ (l : List ℕ). text ++ take count l) tail in
    let longer = line_size_of_append text (take count (drop end filled)) in (
      record {
        order = (old.order.0, omega (arith, old.order), omega (arith, length-drop end filled, size, old.size, some, ready.room));
        size = size ∙ old.size;
        unbroken = omega (arith, longer, ap line_size all, ap line_size ready.same, old.unbroken);
        few = few;
      },
      all,
    )

-- A buffer of this length after `bytes` were written over its beginning.
abbrev pub written : ℕ → List ℕ → List ℕ → List ℕ
written len bytes buffer = take len (bytes ++ drop (length bytes) buffer)

-- Moving the text to the front of the buffer and then reading keeps the invariant and appends the
-- bytes that were read.
pub read_keeps : (buffer first moved second filled : List ℕ) (len start clean end reads shift count last more : ℕ) (text : List ℕ)
    → IsKept buffer start clean end reads → slice_range buffer start end ≡ text → length text ≤ 65536 → length buffer ≡ len
    → first ≡ buffer → length moved ≡ length first → shift ≤ start
    → slice_range moved (start - shift) (end - shift) ≡ slice_range first start end → (end - start ≤ 65536 → end - shift ≤ 65536)
    → second ≡ written len moved buffer → length filled ≡ length second → take (end - shift) filled ≡ take (end - shift) second
    → count ≤ length (drop (end - shift) filled) → last ≡ end - shift + count → more ≤ 4294967294
    → IsKept (written len filled (written len moved buffer)) (start - shift) (clean - shift) last more
    × (slice_range (written len filled (written len moved buffer)) (start - shift) last ≡ text ++ take count (drop (end - shift) filled))
read_keeps buffer first moved second filled len start clean end reads shift count last more text kept is short long first_is moved_long
    within moved_same room second_is filled_long front some last_is few =
    let moved_len : length moved ≡ len = moved_long ∙ ap length first_is ∙ long in
    let all : second ≡ moved = second_is ∙ take_at moved (drop (length moved) buffer) len moved_len in
    let made : written len filled (written len moved buffer) ≡ filled =
    take_at filled (drop (length filled) (written len moved buffer)) len (filled_long ∙ ap length all ∙ moved_len) in
    let ready = moved_ready buffer moved start clean end reads shift text kept is short (moved_long ∙ ap length first_is) within
    (moved_same ∙ ap (λ (l : List ℕ). slice_range l start end) first_is) room in
    rw made (filled_keeps moved filled (start - shift) (clean - shift) (end - shift) last reads count more text ready
    (filled_long ∙ ap length all) (front ∙ ap (take (end - shift)) all) some last_is few)
