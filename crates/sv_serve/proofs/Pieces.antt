-- A read stores its bytes at the front of a buffer.
use Rattle.std.proofs.Common.{◌≡◌, ℕ, ◌<◌, List, ◌++◌, take, drop, length, min, inr, refl, subst, ap, ◌∙◌, arith}
use Rattle.std.proofs.lemmas.List.{take_at, take-append-le, length-take}
use Rattle.sv_serve.specs.declared.wire.Answer.{Answer}
use Rattle.sv_serve.specs.declared.wire.Answer.TheVariants.{Got}
use Rattle.sv_history.specs.declared.event.Config.{Config}
use Rattle.sv_serve.specs.Heard.{Heard, WasRead, bytes_of, IsWithin, IsPiece}
use Rattle.sv_serve.specs.DriverView.{DriverView}
use Rattle.sv_serve.specs.Steps.{Comes, ReadsUpTo}

-- The bytes that were read lie in the part of the buffer that the read was given.
pub bytes_in_front : (answer : Answer ℕ) (front rest : List ℕ) → IsWithin answer (length front)
    → bytes_of answer (front ++ rest) ≡ bytes_of answer front
bytes_in_front (Got n) front rest h = ap Got (take-append-le n front rest h)
bytes_in_front _ front rest h = refl

pub within_piece : (answer : Answer ℕ) (buffer : List ℕ) (size : ℕ) → IsWithin answer size → IsPiece (bytes_of answer buffer) size
within_piece (Got n) buffer size h = let long = length-take n buffer in omega (arith, h, long)
within_piece _ buffer size h = tt

-- New contents of a buffer that was lent as a whole replace all that it held.
pub overwritten_whole : (len : ℕ) (items lent new : List ℕ) → length lent ≡ len → length new ≡ length lent
    → take len (new ++ drop (length new) items) ≡ new
overwritten_whole len items lent new short same = take_at new (drop (length new) items) len (same ∙ short)

pub read_size_is : (len room size : ℕ) → size ≡ min len room → len ≡ 16384 → size ≡ min room 16384
read_size_is len room size is long = grind (arith, is, long)

-- A read asks for as many bytes as there is room for, at most 16,384, and its answer decides what
-- follows.
pub reads_up_to_answer : {W : Type 0} (hears : W → Heard → W → Type 0) (config : Config) (conn room size : ℕ) (answer : Answer ℕ)
    (buffer : List ℕ)
    (before after : DriverView W) (wire : W) → 0 < room → size ≡ min room 16384 → IsWithin answer size
    → hears before.wire (WasRead conn size (bytes_of answer buffer)) wire
    → Comes hears conn (bytes_of answer buffer) config (record before { wire = wire }) after → ReadsUpTo hears room conn config before after
reads_up_to_answer hears config conn room size answer buffer before after wire some asked within heard comes = inr (
  some,
  bytes_of answer buffer,
  within_piece answer buffer (min room 16384) (subst (λ n. IsWithin answer n) asked within),
  (
    record before { wire = wire },
    (wire, subst (λ n. hears before.wire (WasRead conn n (bytes_of answer buffer)) wire) asked heard, refl),
    comes,
  ),
)
