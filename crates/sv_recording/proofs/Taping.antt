-- What a tape has written, text by text, is the script of the history.
use Rattle.std.proofs.Common.{◌≡◌, ℕ, ◌+◌, Bool, true, false, List, [], ◌∷◌, ◌++◌, Option, codes, refl, sym, subst, ◌∙◌, append-nil, eq-eqb}
use Rattle.std.specs.Prelude.{◌==◌}
use Rattle.std.specs.Io.KnownBytes.{Keeps}
use Rattle.std.proofs.lemmas.Bool.{ne_eqb, cond_both}
use Rattle.sv_history.specs.Event.{PlainEvent, Took, Tick}
use Rattle.sv_print.specs.Printed.{Prints}
use Rattle.sv_print.proofs.Taking.{appends_keeps, prints_then}
use Rattle.sv_recording.specs.Tape.{TapeState, Writes, numbered, event_line, ticks_line, pending, script}

-- A writer that hasn't failed after a text hadn't failed before it.
still_fine : (old new : Option (List ℕ)) (f g : Bool) (text : List ℕ) → Prints old f new g text → g ≡ false → f ≡ false
still_fine old new true g text printed fine = absurd (let z : true ≡ false = sym printed.0 ∙ fine in cc)
still_fine old new false g text printed fine = refl

pub ticks_line_is : (text : List ℕ) (n : ℕ) → (n ≡ 0 → ⊥) → text ++ numbered (codes "tick ") n (10 ∷ []) ≡ text ++ ticks_line n
ticks_line_is text n some = rw (ne_eqb n 0 some) refl

-- Whether an event has a line of its own in the script.
abbrev pub has_line : PlainEvent → Bool
has_line = elim [ Tick ↦ false | Took port n ↦ false | _ ↦ true ]

module _ {W : Type 0} (contents : W → Option (List ℕ)) (first : Option (List ℕ)) where
  pub writes_as : (text other : List ℕ) (ticks : ℕ) (tape : TapeState W) → text ≡ other → Writes contents first text ticks tape
      → Writes contents first other ticks tape
  writes_as text other ticks tape is writes = subst (λ (l : List ℕ). Writes contents first l ticks tape) is writes

  -- The tape writes one more text.
  pub writes_then : (text more : List ℕ) (ticks : ℕ) (old new : TapeState W) → new.ticks ≡ old.ticks
      → Prints (contents old.writer) old.failed (contents new.writer) new.failed more
      → Writes contents first text ticks old → Writes contents first (text ++ more) ticks new
  writes_then text more ticks old new same printed (was, counted) = (
    prints_then first (contents old.writer) (contents new.writer) false old.failed new.failed text more was printed,
    λ fine. same ∙ counted (still_fine (contents old.writer) (contents new.writer) old.failed new.failed more printed fine),
  )

  -- What a writer took that has failed is a prefix of each longer text.
  pub writes_failed : (text more : List ℕ) (ticks other : ℕ) (tape : TapeState W) → tape.failed ≡ true
      → Writes contents first text ticks tape → Writes contents first (text ++ more) other tape
  writes_failed text more ticks other tape failed (was, counted) = (
    prints_then first (contents tape.writer) (contents tape.writer) false tape.failed tape.failed text more was
        (subst (λ (f : Bool). Prints (contents tape.writer) f (contents tape.writer) f more) (sym failed) (refl, refl)),
    λ fine. absurd (let z : true ≡ false = sym failed ∙ fine in cc),
  )

  -- The tape counts milliseconds from 0 again.
  pub writes_reset : (text : List ℕ) (ticks : ℕ) (old new : TapeState W) → new.writer ≡ old.writer → new.failed ≡ old.failed
      → new.ticks ≡ 0 → Writes contents first text ticks old → Writes contents first text 0 new
  writes_reset text ticks old new same also zero (was, counted) = (
    subst (λ (f : Bool). Prints first false (contents new.writer) f text) (sym also)
        (subst (λ (w : W). Prints first false (contents w) old.failed text) (sym same) was),
    λ fine. zero,
  )

  -- As long as the writer's contents stay the same, so does what was printed.
  pub prints_keeps : (mid new : Option (List ℕ)) (f : Bool) (text : List ℕ) → Keeps mid new → Prints first false mid f text
      → Prints first false new f text
  prints_keeps mid new true text kept (part, front, put) = (part, front, appends_keeps first mid new part put kept)
  prints_keeps mid new false text kept put = appends_keeps first mid new text put kept

  -- A writer that fails has printed a prefix of the text.
  pub prints_failed : (new : Option (List ℕ)) (f : Bool) (text : List ℕ) → Prints first false new f text → Prints first false new true text
  prints_failed new true text printed = printed
  prints_failed new false text printed = (text, ([], sym (append-nil text)), printed)

  -- Once the writer has failed, a Tick changes nothing.
  pub failed_tick : (history : List PlainEvent) (tape : TapeState W) → tape.failed ≡ true
      → Writes contents first (script history) (pending history) tape
      → Writes contents first (script (Tick ∷ history)) (pending (Tick ∷ history)) tape
  failed_tick history tape failed writes =
      cond_both (pending history + 1 == 1000000) (script history ++ ticks_line 1000000) (script history)
      (λ (l : List ℕ). Writes contents first l (pending (Tick ∷ history)) tape)
      (λ full. writes_failed (script history) (ticks_line 1000000) (pending history) (pending (Tick ∷ history)) tape failed writes)
      (λ free. writes_as (script history ++ []) (script history) (pending (Tick ∷ history)) tape (append-nil (script history))
      (writes_failed (script history) [] (pending history) (pending (Tick ∷ history)) tape failed writes))

  -- A Tick that completes 1,000,000 milliseconds is written with them in one line.
  pub full_tick : (history : List PlainEvent) (tape : TapeState W) → pending history + 1 ≡ 1000000
      → Writes contents first (script history ++ ticks_line 1000000) 0 tape
      → Writes contents first (script (Tick ∷ history)) (pending (Tick ∷ history)) tape
  full_tick history tape full writes = rw (eq-eqb (pending history + 1) 1000000 full) writes

  -- Any other Tick is only counted.
  pub one_tick : (history : List PlainEvent) (tape : TapeState W) → (pending history + 1 ≡ 1000000 → ⊥)
      → Writes contents first (script history) (pending history + 1) tape
      → Writes contents first (script (Tick ∷ history)) (pending (Tick ∷ history)) tape
  one_tick history tape free writes = rw (ne_eqb (pending history + 1) 1000000 free) writes

  -- An event with a line of its own is written, after a line for the milliseconds before it.
  pub noted : (history : List PlainEvent) (event : PlainEvent) (tape : TapeState W) → has_line event ≡ true
      → Writes contents first ((script history ++ ticks_line (pending history)) ++ event_line event) 0 tape
      → Writes contents first (script (event ∷ history)) (pending (event ∷ history)) tape
  noted history (Took port n) tape so writes = absurd (let z : false ≡ true = so in cc)
  noted history Tick tape so writes = absurd (let z : false ≡ true = so in cc)
  noted history _ tape so writes = writes
