-- What is printed for events and lines in order is the concatenation of what each of them prints.
use Rattle.std.proofs.Common.{◌≡◌, ℕ, zero, suc, ◌+◌, ◌<◌, ◌≤◌, List, [], ◌∷◌, ◌++◌, length, replicate, refl, sym, ap, subst, ◌∙◌, append_assoc, append-nil, arith}
use Rattle.std.proofs.lemmas.List.{replicate_more}
use Rattle.std.specs.Prelude.{Result, Ok, Err, ⊤, IsErr, IsErrAnd}
use Rattle.sv_history.specs.declared.event.Config.{Config}
use Rattle.sv_server.specs.declared.replay.ReplayFault.{ReplayFault}
use Rattle.sv_history.specs.Event.{PlainEvent, Tick}
use Rattle.sv_replay.specs.declared.mode.Mode.{Mode}
use Rattle.sv_replay.specs.Line.{Line, Ticks, Says}
use Rattle.sv_replay.specs.Script.{ScriptEvent, events_of, IsScript, PrintsOne, Prints, Stops, Performs}

-- A script can be extended by a line that has the next number.
pub script_append_line : (first : ℕ) (lines : List (List ℕ)) (events : List ScriptEvent) (line : List ℕ) (number : ℕ) (said : Line)
    → number ≡ first + length lines → IsScript first lines events → length line ≤ 65536 → Says line said
    → IsScript first (lines ++ line ∷ []) (events ++ events_of number said)
script_append_line first [] events line number said at is short says = (
  said,
  [],
  short,
  says,
  refl,
  ap (λ (es : List ScriptEvent). es ++ events_of number said) is
      ∙ ap (λ (n : ℕ). events_of n said) (omega (arith, at)) ∙ sym (append-nil (events_of first said)),
)
script_append_line first (other ∷ lines) events line number said at (other_said, others, other_short, other_says, rest, is) short says = (
  other_said,
  others ++ events_of number said,
  other_short,
  other_says,
  script_append_line (first + 1) lines others line number said (omega (arith, at)) rest short says,
  ap (λ (es : List ScriptEvent). es ++ events_of number said) is
      ∙ append_assoc (events_of first other_said) others (events_of number said),
)

module _ (mode : Mode) (config : Config) where
  pub prints_then : (history : List PlainEvent) (events more : List ScriptEvent) (text other : List ℕ) (middle after : List PlainEvent)
      → Prints mode config history events text middle → Prints mode config middle more other after
      → Prints mode config history (events ++ more) (text ++ other) after
  prints_then history [] more text other middle after (none, same) second = rw (none, ← same) second
  prints_then history (said ∷ events) more text other middle after (first, rest, next, prints, others, is) second = (
    first,
    rest ++ other,
    next,
    prints,
    prints_then next events more rest other middle after others second,
    ap (λ (l : List ℕ). l ++ other) is ∙ append_assoc first rest other,
  )

  pub prints_one : (history : List PlainEvent) (said : ScriptEvent) (text : List ℕ) (after : List PlainEvent)
      → PrintsOne mode said.line config history said.event (Ok tt) text after → Prints mode config history (said ∷ []) text after
  prints_one history said text after prints = (text, [], after, prints, (refl, refl), sym (append-nil text))

  pub stops_one : (history : List PlainEvent) (said : ScriptEvent) (others : List ScriptEvent) (fault : ReplayFault) (text : List ℕ)
      (after : List PlainEvent) → PrintsOne mode said.line config history said.event (Err fault) text after
      → Stops mode config history (said ∷ others) fault text after
  stops_one history said others fault text after prints = ([], others, said, refl, [], text, history, (refl, refl), prints, refl)

  pub stops_then : (history : List PlainEvent) (events more : List ScriptEvent) (fault : ReplayFault) (text other : List ℕ)
      (middle after : List PlainEvent) → Prints mode config history events text middle
      → Stops mode config middle more fault other after → Stops mode config history (events ++ more) fault (text ++ other) after
  stops_then history events more fault text other middle after first (
    done,
    others,
    said,
    split,
    front,
    last,
    next,
    prints,
    stops,
    is,
  ) = (
    events ++ done,
    others,
    said,
    ap (λ (es : List ScriptEvent). events ++ es) split ∙ sym (append_assoc events done (said ∷ others)),
    text ++ front,
    last,
    next,
    prints_then history events done text front middle next first prints,
    stops,
    ap (λ (l : List ℕ). text ++ l) is ∙ sym (append_assoc text front last),
  )

-- A list of equal events can be split at each of them.
replicate_split : (said : ScriptEvent) (i n : ℕ) → i < n
    → (others : List ScriptEvent) × (replicate n said ≡ replicate i said ++ said ∷ others)
replicate_split said zero zero h = absurd (omega arith)
replicate_split said (suc i) zero h = absurd (omega arith)
replicate_split said zero (suc n) h = (replicate n said, refl)
replicate_split said (suc i) (suc n) h = let (others, e) = replicate_split said i n (omega arith) in
    (others, ap (λ (es : List ScriptEvent). said ∷ es) e)

-- A tick that the line with this number describes.
abbrev tick_of : ℕ → ScriptEvent
tick_of number = record { line = number; event = Tick }

module _ (mode : Mode) (number : ℕ) (config : Config) (history : List PlainEvent) where
  pub ticks_none : Prints mode config history (events_of number (Ticks 0)) [] history
  ticks_none = (refl, refl)

  pub ticks_more : (n next : ℕ) (text other : List ℕ) (middle after : List PlainEvent) → next ≡ n + 1
      → Prints mode config history (events_of number (Ticks n)) text middle
      → PrintsOne mode number config middle Tick (Ok tt) other after
      → Prints mode config history (events_of number (Ticks next)) (text ++ other) after
  ticks_more n next text other middle after up prints one =
      rw (up, ← replicate_more n (tick_of number)) (prints_then mode config history (replicate n (tick_of number)) (tick_of number ∷ [])
      text other middle after prints (prints_one mode config middle (tick_of number) other after one))

  pub ticks_stop : (i n : ℕ) (fault : ReplayFault) (text other : List ℕ) (middle after : List PlainEvent) → i < n
      → Prints mode config history (events_of number (Ticks i)) text middle
      → PrintsOne mode number config middle Tick (Err fault) other after
      → Stops mode config history (events_of number (Ticks n)) fault (text ++ other) after
  ticks_stop i n fault text other middle after h prints one =
      let (others, e) = replicate_split (tick_of number) i n h in
      rw e (stops_then mode config history (replicate i (tick_of number)) (tick_of number ∷ others) fault text other middle after prints
      (stops_one mode config middle (tick_of number) others fault other after one))

-- A fault that is passed on stops the events.
pub performs_fault : (mode : Mode) (config : Config) (history : List PlainEvent) (events : List ScriptEvent) (fault : ReplayFault)
    (result : Result ⊤ ReplayFault) (text : List ℕ) (after : List PlainEvent) → IsErr result → IsErrAnd result (λ e. e ≡ fault)
    → Stops mode config history events fault text after → Performs mode config history events result text after
performs_fault mode config history events fault (Ok all) text after failed is stops = absurd cc
performs_fault mode config history events fault (Err e) text after failed is stops =
    subst (λ (f : ReplayFault). Stops mode config history events f text after) (sym is) stops

pub performs_one : (mode : Mode) (number : ℕ) (config : Config) (history : List PlainEvent) (event : PlainEvent)
    (result : Result ⊤ ReplayFault) (text : List ℕ) (after : List PlainEvent)
    → PrintsOne mode number config history event result text after
    → Performs mode config history ((record { line = number; event = event }) ∷ []) result text after
performs_one mode number config history event (Ok all) text after prints =
    prints_one mode config history (record { line = number; event = event }) text after prints
performs_one mode number config history event (Err fault) text after prints =
    stops_one mode config history (record { line = number; event = event }) [] fault text after prints
