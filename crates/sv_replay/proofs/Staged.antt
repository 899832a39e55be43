-- Executing a line, reading more, or a fault leads a run from one stage to the next or to its end.
use Rattle.std.proofs.Common.{◌≡◌, ℕ, ◌+◌, ◌<◌, ◌≤◌, List, [], ◌∷◌, ◌++◌, length, Option, None, inl, inr, refl, sym, ap, ◌∙◌, append_assoc, append-nil, arith}
use Rattle.std.specs.Prelude.{Result, Ok, Err, ⊤, IsErr, IsErrAnd, OnOk}
use Rattle.sv_server.specs.declared.replay.ReplayFault.{ReplayFault}
use Rattle.sv_server.specs.declared.replay.ReplayFault.TheVariants.{NoMemory, Write}
use Rattle.sv_replay.specs.Line.{Line, Says}
use Rattle.std.proofs.lemmas.List.{length-append}
use Rattle.std.specs.Io.KnownBytes.{Appends, IsAtEnd}
use Rattle.sv_history.specs.Event.{PlainEvent}
use Rattle.sv_history.specs.declared.event.Config.{Config}
use Rattle.sv_server.specs.Server.State.{State, StandsFor}
use Rattle.sv_replay.specs.declared.mode.Mode.{Mode}
use Rattle.sv_replay.specs.declared.fault.RunFault.{RunFault}
use Rattle.sv_replay.specs.declared.fault.RunFault.TheVariants.{BadLine, Input, Output, Memory}
use Rattle.sv_replay.specs.Text.{first_end}
use Rattle.sv_replay.specs.Script.{parts, events_of, Stops}
use Rattle.sv_replay.specs.Run.{run_fault, IsWhole, PrintedUpTo, Runs}
use Rattle.sv_replay.specs.Stage.{IsStage, IsDone, StopsAt, LineRuns}
use Rattle.sv_replay.proofs.Parts.{parts_of_no_newline, parts_of_more_text, parts_never_empty}
use Rattle.sv_replay.proofs.Printed.{script_append_line, prints_then, stops_then}

-- At the start nothing was read or printed.
pub stage_start : (config : Config) (mode : Mode) (server : State) → StandsFor server config [] → IsStage config mode server [] 0 [] []
stage_start config mode server s = ([], [], [], refl, refl, refl, (refl, refl), s)

-- What executing the line does, whatever history the server stands for.
abbrev pub DoesLine : Config → Mode → State → State → List ℕ → ℕ → Result ⊤ RunFault → Option (List ℕ) → Option (List ℕ) → Type 0
DoesLine config mode old new line number result first last = (history : List PlainEvent) → StandsFor old config history
    → (text : List ℕ) × (after : List PlainEvent) × LineRuns config mode line number history result text after
    × StandsFor new config after × Appends first last text

-- After a line that isn't the last one, the run is at the next stage.
pub stage_line : (config : Config) (mode : Mode) (old new : State) (left rest line : List ℕ) (number next : ℕ) (read text : List ℕ)
    (first last : Option (List ℕ))
    → parts left ≡ line ∷ parts rest → next ≡ number + 1
    → IsStage config mode old left number read text → DoesLine config mode old new line next (Ok tt) first last
    → (other : List ℕ) × Appends first last other × IsStage config mode new rest next read (text ++ other)
stage_line config mode old new left rest line number next read text first last cut up
    (lines, events, history, is, count, script, prints, stands) does =
    let (other, after, (said, short, says, more), now, put) = does history stands in (
      other,
      put,
      (
        lines ++ line ∷ [],
        events ++ events_of next said,
        after,
        is ∙ ap (λ (ps : List (List ℕ)). lines ++ ps) cut ∙ sym (append_assoc lines (line ∷ []) (parts rest)),
        omega (arith, length-append lines (line ∷ [])),
        script_append_line 1 lines events line next said (omega (arith, up, count)) script short says,
        prints_then mode config [] events (events_of next said) text other history after prints more,
        now,
      ),
    )

-- After the last line, all lines are executed.
pub stage_last : (config : Config) (mode : Mode) (old new : State) (left line : List ℕ) (number next : ℕ) (read text : List ℕ)
    (first last : Option (List ℕ))
    → parts left ≡ line ∷ [] → next ≡ number + 1
    → IsStage config mode old left number read text → DoesLine config mode old new line next (Ok tt) first last
    → (other : List ℕ) × Appends first last other × IsDone config mode new read (text ++ other)
stage_last config mode old new left line number next read text first last cut up
    (lines, events, history, is, count, script, prints, stands) does =
    let (other, after, (said, short, says, more), now, put) = does history stands in (
      other,
      put,
      (
        events ++ events_of next said,
        after,
        rw (is, cut) (script_append_line 1 lines events line next said (omega (arith, up, count)) script short says),
        prints_then mode config [] events (events_of next said) text other history after prints more,
        now,
      ),
    )

-- If the replay stops at an event of a line, the text is printed up to that event.
printed_up_to_line : (config : Config) (mode : Mode) (old new : State) (left line : List ℕ) (behind : List (List ℕ)) (number next : ℕ)
    (fault : ReplayFault)
    (read text : List ℕ) (tail first last : Option (List ℕ)) → parts left ≡ line ∷ behind → next ≡ number + 1 → IsWhole behind tail
    → IsStage config mode old left number read text
    → ((history : List PlainEvent) → StandsFor old config history → (other : List ℕ) × (after : List PlainEvent)
    × StopsAt config mode line next history fault other after × StandsFor new config after × Appends first last other)
    → (other : List ℕ) × Appends first last other × ((lines others : List (List ℕ)) × (parts read ≡ lines ++ others)
    × IsWhole others tail × PrintedUpTo config mode lines fault (text ++ other))
printed_up_to_line config mode old new left line behind number next fault read text tail first last cut up whole
    (lines, events, history, is, count, script, prints, stands) does =
    let (other, after, (said, short, says, stops), now, put) = does history stands in (
      other,
      put,
      (
        lines ++ line ∷ [],
        behind,
        is ∙ ap (λ (ps : List (List ℕ)). lines ++ ps) cut ∙ sym (append_assoc lines (line ∷ []) behind),
        whole,
        (
          events ++ events_of next said,
          after,
          script_append_line 1 lines events line next said (omega (arith, up, count)) script short says,
          stops_then mode config [] events (events_of next said) fault text other history after prints stops,
        ),
      ),
    )

-- If a line stops the run with a fault, the text is what `Runs` states for this fault.
pub stage_stop : (config : Config) (mode : Mode) (old new : State) (left line : List ℕ) (behind : List (List ℕ)) (number next : ℕ)
    (fault : RunFault)
    (read text : List ℕ)
    (tail first last : Option (List ℕ)) → parts left ≡ line ∷ behind
    → next ≡ number + 1 → IsWhole behind tail → IsStage config mode old left number read text
    → DoesLine config mode old new line next (Err fault) first last
    → (other : List ℕ) × Appends first last other × Runs config mode read tail (Err fault) (text ++ other)
stage_stop config mode old new left line behind number next (BadLine n) read text tail first last cut up whole (
  lines,
  events,
  history,
  is,
  count,
  script,
  prints,
  stands,
) does =
    let (other, after, (at, bad, none), now, put) = does history stands in (
      other,
      put,
      (
        lines,
        behind,
        line,
        is ∙ ap (λ (ps : List (List ℕ)). lines ++ ps) cut,
        at ∙ up ∙ ap (λ (m : ℕ). m + 1) count,
        bad,
        inl whole,
        (events, history, script, rw (none, append-nil text) prints),
      ),
    )
stage_stop config mode old new left line behind number next Input read text tail first last cut up whole (
  lines,
  events,
  history,
  is,
  count,
  script,
  prints,
  stands,
) does =
    let (other, after, impossible, now, put) = does history stands in elim impossible [ ]
stage_stop config mode old new left line behind number next Output read text tail first last cut up whole stage does =
    let (other, put, (lines, others, is, all, stops)) =
    printed_up_to_line config mode old new left line behind number next Write read text tail first last cut up whole stage does in
    (other, put, (lines, others, is, all, inr (Write, stops)))
stage_stop config mode old new left line behind number next Memory read text tail first last cut up whole stage does =
    let (other, put, stops) =
    printed_up_to_line config mode old new left line behind number next NoMemory read text tail first last cut up whole stage does in
    (other, put, inr stops)

pub stage_read : (config : Config) (mode : Mode) (server : State) (left : List ℕ) (number : ℕ) (read text more : List ℕ)
    → IsStage config mode server left number read text → IsStage config mode server (left ++ more) number (read ++ more) text
stage_read config mode server left number read text more (lines, events, history, is, count, script, prints, stands) =
    (lines, events, history, parts_of_more_text read left more lines is, count, script, prints, stands)

-- If more than 65,536 bytes hold no new line, the line that they begin is bad.
pub stage_long : (config : Config) (mode : Mode) (server : State) (left : List ℕ) (number next : ℕ) (read text : List ℕ)
    (tail : Option (List ℕ))
    → first_end left ≡ None → 65536 < length left → next ≡ number + 1 → IsStage config mode server left number read text
    → Runs config mode read tail (Err (BadLine next)) text
stage_long config mode server left number next read text tail none long up (lines, events, history, is, count, script, prints, stands) = (
  lines,
  [],
  left,
  is ∙ ap (λ (ps : List (List ℕ)). lines ++ ps) (parts_of_no_newline left none),
  up ∙ ap (λ (m : ℕ). m + 1) count,
  inl long,
  inr long,
  (events, history, script, prints),
)

-- The output may fail between two lines.
pub stage_output : (config : Config) (mode : Mode) (server : State) (left : List ℕ) (number : ℕ) (read text : List ℕ)
    (tail : Option (List ℕ))
    → IsStage config mode server left number read text → Runs config mode read tail (Err Output) text
stage_output config mode server left number read text tail (lines, events, history, is, count, script, prints, stands) =
    (lines, parts left, is, inl (parts_never_empty left), inl (events, history, script, prints))

-- The output may also fail after a result that would otherwise be returned.
pub output_fault_replaces : (config : Config) (mode : Mode) (read text : List ℕ) (tail : Option (List ℕ)) (answer : Result ⊤ RunFault)
    → OnOk answer (IsAtEnd tail) → Runs config mode read tail answer text → Runs config mode read tail (Err Output) text
output_fault_replaces config mode read text tail (Ok all) end printed =
    (parts read, [], sym (append-nil (parts read)), inr end, inl printed)
output_fault_replaces config mode read text tail (Err (BadLine n)) end (lines, behind, line, is, count, bad, whole, printed) =
    (lines, line ∷ behind, is, inl (λ none. absurd cc), inl printed)
output_fault_replaces config mode read text tail (Err Input) end (lines, last, is, printed) =
    (lines, last ∷ [], is, inl (λ none. absurd cc), inl printed)
output_fault_replaces config mode read text tail (Err Output) end runs = runs
output_fault_replaces config mode read text tail (Err Memory) end (inl (nothing, unsaid)) =
    ([], parts read, refl, inl (parts_never_empty read), inl ([], [], refl, (unsaid, refl)))
output_fault_replaces config mode read text tail (Err Memory) end (inr (lines, behind, is, whole, stops)) =
    (lines, behind, is, whole, inr (NoMemory, stops))

-- If the reader fails while no complete line is left, all complete lines are executed.
pub stage_input : (config : Config) (mode : Mode) (server : State) (left : List ℕ) (number : ℕ) (read text : List ℕ)
    (tail : Option (List ℕ))
    → first_end left ≡ None → IsStage config mode server left number read text → Runs config mode read tail (Err Input) text
stage_input config mode server left number read text tail none (lines, events, history, is, count, script, prints, stands) =
    (lines, left, is ∙ ap (λ (ps : List (List ℕ)). lines ++ ps) (parts_of_no_newline left none), (events, history, script, prints))

-- A fault of the replay of an event is reported as the corresponding fault of the run.
pub replay_fault_stops_line : (config : Config) (mode : Mode) (line : List ℕ) (number : ℕ) (history : List PlainEvent) (said : Line)
    (fault : ReplayFault)
    (result : Result ⊤ RunFault)
    (text : List ℕ) (after : List PlainEvent) → length line ≤ 65536
    → Says line said → IsErr result → IsErrAnd result (λ e. e ≡ run_fault fault)
    → Stops mode config history (events_of number said) fault text after → LineRuns config mode line number history result text after
replay_fault_stops_line config mode line number history said fault (Ok all) text after short says failed is stops = absurd cc
replay_fault_stops_line config mode line number history said NoMemory (Err e) text after short says failed is stops =
    rw is (said, short, says, stops)
replay_fault_stops_line config mode line number history said Write (Err e) text after short says failed is stops =
    rw is (said, short, says, stops)
