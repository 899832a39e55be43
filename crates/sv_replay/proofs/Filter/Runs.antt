-- The filtered text of an explained run is the text of a replay.
use Rattle.std.proofs.Common.{◌≡◌, ℕ, List, [], ◌∷◌, ◌++◌, Option, Result, Ok, Err, refl, sym, ap, subst, ◌∙◌, inl, inr, append_assoc, append-nil}
use Rattle.std.specs.Prelude.{⊤}
use Rattle.sv_print.specs.TakenByWriter.{IsFront}
use Rattle.sv_history.specs.declared.event.Config.{Config}
use Rattle.sv_history.specs.Event.{PlainEvent}
use Rattle.sv_server.specs.declared.replay.ReplayFault.{ReplayFault}
use Rattle.sv_server.specs.declared.replay.ReplayFault.TheVariants.{NoMemory}
use Rattle.sv_server.specs.Replay.Replays.{Replays}
use Rattle.sv_server.specs.Explain.Telling.{Explains}
use Rattle.sv_replay.specs.declared.mode.Mode.TheVariants.{Plain, Explained}
use Rattle.sv_replay.specs.declared.fault.RunFault.{RunFault}
use Rattle.sv_replay.specs.declared.fault.RunFault.TheVariants.{BadLine, Input, Output, Memory}
use Rattle.sv_replay.specs.Script.{ScriptEvent, parts, Prints, Stops}
use Rattle.sv_replay.specs.Run.{Printed, PrintedUpTo, Runs, PrintedToEnd, RunsExplained}
use Rattle.sv_replay.specs.Filtered.{filtered}
use Rattle.sv_replay.proofs.Filter.Told.{hidden_told, hidden_end}
use Rattle.sv_replay.proofs.Filter.Printed.{written_on, written_stop}

-- Filtering what is printed for an explained event leaves what its replay prints.
filtered_event : (config : Config) (line : ℕ) (history : List PlainEvent) (event : PlainEvent) (text : List ℕ) (after : List PlainEvent)
    → Explains config line history event (Ok tt) text after → (own : List ℕ) × Replays config history event (Ok tt) own after
    × ((behind : List ℕ) → filtered (text ++ behind) ≡ own ++ filtered behind)
filtered_event config line history event text after e = (
  e.printed,
  e.replays,
  λ behind. elim e.whole [
    | inl all ↦ ap (λ (l : List ℕ). filtered (l ++ behind)) (e.text_is ∙ ap (λ (l : List ℕ). l ++ e.printed) all)
        ∙ ap filtered (append_assoc e.told e.printed behind)
        ∙ (hidden_told line config event e.replays.before e.replays.did e.told e.tells).0 (e.printed ++ behind)
        ∙ written_on e.replays.did e.replays.channel_log e.replays.log _ e.printed after e.replays.writes behind
    | inr (failed, none) ↦ absurd cc
  ],
)

filtered_event_stop : (config : Config) (line : ℕ) (history : List PlainEvent) (event : PlainEvent) (fault : ReplayFault) (text : List ℕ)
    (after : List PlainEvent) → Explains config line history event (Err fault) text after
    → Replays config history event (Err fault) (filtered text) after
filtered_event_stop config line history event fault text after e =
    let is : filtered text ≡ e.printed = elim e.whole [
      | inl all ↦ ap filtered (e.text_is ∙ ap (λ (l : List ℕ). l ++ e.printed) all)
          ∙ (hidden_told line config event e.replays.before e.replays.did e.told e.tells).0 e.printed
          ∙ written_stop e.replays.did e.replays.channel_log e.replays.log _ e.printed after fault e.replays.writes
      | inr (failed, none) ↦ ap filtered (e.text_is ∙ ap (λ (l : List ℕ). e.part ++ l) none ∙ append-nil e.part)
          ∙ (hidden_told line config event e.replays.before e.replays.did e.told e.tells).1 e.part e.front ∙ sym none
    ] in
    subst (λ (l : List ℕ). Replays config history event (Err fault) l after) (sym is) e.replays

-- The same for a list of events.
prints_filtered : (config : Config) (history : List PlainEvent) (events : List ScriptEvent) (text : List ℕ) (after : List PlainEvent)
    → Prints Explained config history events text after → (own : List ℕ) × Prints Plain config history events own after
    × ((behind : List ℕ) → filtered (text ++ behind) ≡ own ++ filtered behind)
prints_filtered config history [] text after (none, same) =
    ([], (refl, same), λ behind. ap (λ (l : List ℕ). filtered (l ++ behind)) none)
prints_filtered config history (said ∷ events) text after (first, rest, middle, explains, prints, is) =
    let (own, replays, one) = filtered_event config said.line history said.event first middle explains in
    let (others, more, all) = prints_filtered config middle events rest after prints in (
      own ++ others,
      (own, others, middle, replays, more, refl),
      λ behind. ap (λ (l : List ℕ). filtered (l ++ behind)) is ∙ ap filtered (append_assoc first rest behind)
          ∙ one (rest ++ behind) ∙ ap (λ (l : List ℕ). own ++ l) (all behind) ∙ sym (append_assoc own others (filtered behind)),
    )

-- The same if a text follows that the filter removes.
filtered_with_hidden : (config : Config) (history : List PlainEvent) (events : List ScriptEvent) (text behind : List ℕ)
    (after : List PlainEvent)
    → Prints Explained config history events text after → filtered behind ≡ []
    → Prints Plain config history events (filtered (text ++ behind)) after
filtered_with_hidden config history events text behind after prints none =
    let (own, replayed, all) = prints_filtered config history events text after prints in
    subst (λ (l : List ℕ). Prints Plain config history events l after)
    (sym (all behind ∙ ap (λ (l : List ℕ). own ++ l) none ∙ append-nil own)) replayed

stops_filtered : (config : Config) (history : List PlainEvent) (events : List ScriptEvent) (fault : ReplayFault) (text : List ℕ)
    (after : List PlainEvent)
    → Stops Explained config history events fault text after → Stops Plain config history events fault (filtered text) after
stops_filtered config history events fault text after (done, others, said, split, first, last, middle, prints, explains, is) =
    let (own, replayed, all) = prints_filtered config history done first middle prints in (
      done,
      others,
      said,
      split,
      own,
      filtered last,
      middle,
      replayed,
      filtered_event_stop config said.line middle said.event fault last after explains,
      ap filtered is ∙ all last,
    )

printed_filtered : (config : Config) (lines : List (List ℕ)) (text : List ℕ) → Printed config Explained lines text
    → Printed config Plain lines (filtered text)
printed_filtered config lines text (events, after, script, prints) = (
  events,
  after,
  script,
  subst (λ (l : List ℕ). Prints Plain config [] events (filtered l) after) (append-nil text)
      (filtered_with_hidden config [] events text [] after prints refl),
)

up_to_filtered : (config : Config) (lines : List (List ℕ)) (fault : ReplayFault) (text : List ℕ)
    → PrintedUpTo config Explained lines fault text → PrintedUpTo config Plain lines fault (filtered text)
up_to_filtered config lines fault text (events, after, script, stops) =
    (events, after, script, stops_filtered config [] events fault text after stops)

-- The same if the line with the clock follows, or a prefix of it.
to_end_filtered : (config : Config) (lines : List (List ℕ)) (front last part : List ℕ) → PrintedToEnd config lines front last
    → IsFront part last → Printed config Plain lines (filtered (front ++ part))
to_end_filtered config lines front last part (events, after, log, script, prints, is_log, is) of = (
  events,
  after,
  script,
  filtered_with_hidden config [] events front part after prints ((hidden_end _).1 part (subst (λ (l : List ℕ). IsFront part l) is of)),
)

output_filtered : (config : Config) (read : List ℕ) (rest : Option (List ℕ)) (text : List ℕ)
    → Runs config Explained read rest (Err Output) text → Runs config Plain read rest (Err Output) (filtered text)
output_filtered config read rest text (lines, behind, is, whole, inl printed) =
    (lines, behind, is, whole, inl (printed_filtered config lines text printed))
output_filtered config read rest text (lines, behind, is, whole, inr (fault, printed)) =
    (lines, behind, is, whole, inr (fault, up_to_filtered config lines fault text printed))

pub runs_filtered : (config : Config) (read : List ℕ) (rest : Option (List ℕ)) (result : Result ⊤ RunFault) (text : List ℕ)
    → RunsExplained config read rest result text → Runs config Plain read rest result (filtered text)
runs_filtered config read rest (Ok all) text (front, last, printed, is) =
    subst (λ (l : List ℕ). Printed config Plain (parts read) (filtered l)) (sym is)
    (to_end_filtered config (parts read) front last last printed ([], sym (append-nil last)))
runs_filtered config read rest (Err (BadLine n)) text (lines, behind, line, is, count, bad, whole, printed) =
    (lines, behind, line, is, count, bad, whole, printed_filtered config lines text printed)
runs_filtered config read rest (Err Input) text (lines, last, is, printed) = (lines, last, is, printed_filtered config lines text printed)
runs_filtered config read rest (Err Output) text (inl runs) = output_filtered config read rest text runs
runs_filtered config read rest (Err Output) text (inr (front, last, part, printed, of, end, is)) = (
  parts read,
  [],
  sym (append-nil (parts read)),
  inr end,
  inl (subst (λ (l : List ℕ). Printed config Plain (parts read) (filtered l)) (sym is)
      (to_end_filtered config (parts read) front last part printed of)),
)
runs_filtered config read rest (Err Memory) text (inl (none, unsaid)) = inl (none, ap filtered unsaid)
runs_filtered config read rest (Err Memory) text (inr (lines, behind, is, whole, printed)) =
    inr (lines, behind, is, whole, up_to_filtered config lines NoMemory text printed)
