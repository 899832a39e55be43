-- The steps that are due are taken one after the other, and the lines of each are written.
use Rattle.std.proofs.Common.{◌≡◌, ℕ, ◌+◌, zero, suc, Bool, List, [], ◌++◌, Option, refl, sym, ap, subst, ◌∙◌, append_assoc, append-nil, arith}
use Rattle.sv_scan.specs.declared.setting.State.{State as ScanState}
use Rattle.sv_scan.specs.declared.setting.State.TheVariants.{Idle, Waiting, Scanning}
use Rattle.sv_scan.specs.Scan.{state}
use Rattle.sv_layers.specs.Condition.{effective_acts}
use Rattle.sv_print.specs.Printed.{Prints}
use Rattle.sv_print.proofs.Taking.{prints_none, prints_then, prints_equal_text}
use Rattle.sv_history.specs.declared.event.Config.{Config}
use Rattle.sv_history.specs.Event.{PlainEvent, Tick, Turn, Refuse}
use Rattle.sv_history.specs.Act.{Act, device_acts, instrument_acts, ticks}
use Rattle.sv_history.specs.Settling.{IsNext, IsSettled}
use Rattle.sv_history.specs.History.{own_acts}
use Rattle.sv_explain.specs.declared.shown.Shown.{Shown}
use Rattle.sv_explain.specs.declared.step.Due.{Due}
use Rattle.sv_explain.specs.declared.step.Due.TheVariants.{Nothing}
use Rattle.sv_explain.specs.Shown.{IsShown}
use Rattle.sv_explain.specs.Changes.{changes}
use Rattle.sv_explain.specs.Steps.{head_line, step_line}
use Rattle.sv_server.specs.Server.State.{State, Represents}
use Rattle.sv_server.specs.Explain.Telling.{Names, TellsIn, clock_at, clock_after, taken_line}
use Rattle.sv_server.specs.Explain.Inside.Steps.{Goes, Ends, lines_before, tick_line}
use Rattle.sv_server.proofs.OnServer.Naming.{nothing_line}
use Rattle.sv_server.proofs.OnServer.Steps.{reaches_itself, reaches_by_step, reaches_trans, settles_if_reached}

-- Whatever the log, some of the steps that were due led from `first` to `now`, and their lines were
-- written. The contents of the writer, and whether it has failed, were `old` and `f`, and are `new`
-- and `g`.
abbrev pub SomeStepsTold : State → State → Shown → Shown → Option (List ℕ) → Bool → Option (List ℕ) → Bool → Type 0
SomeStepsTold first now shown next old f new g = (config : Config) (log : List Act) → Represents first config log → IsShown shown log
    → (text : List ℕ) × Goes config log shown next text now × Prints old f new g text

-- The same for all steps that were due.
abbrev pub AllStepsTold : State → State → Shown → Option (List ℕ) → Bool → Option (List ℕ) → Bool → Type 0
AllStepsTold first now shown old f new g = (config : Config) (log : List Act) → Represents first config log → IsShown shown log
    → (text : List ℕ) × Ends config log shown text now × Prints old f new g text

-- Whatever the log, the step that was due leads from `old` to `new`.
abbrev pub StepIsTaken : State → State → Type 0
StepIsTaken old new = (config : Config) (log : List Act) → Represents old config log
    → (next : List Act) × IsNext config log next × Represents new config next

-- Whatever the log, the step that is due has this name.
abbrev pub StepHasName : State → Due → Type 0
StepHasName now name = (config : Config) (log : List Act) → Represents now config log → Names name config log

append_regrouped : (a b c d : List ℕ) → (a ++ (b ++ c)) ++ d ≡ a ++ (b ++ (c ++ d))
append_regrouped a b c d = append_assoc a (b ++ c) d ∙ ap (λ (l : List ℕ). a ++ l) (append_assoc b c d)

-- No step was taken yet.
pub no_step_told : (s : State) (shown : Shown) (old : Option (List ℕ)) (f : Bool) → SomeStepsTold s s shown shown old f old f
no_step_told s shown old f =
    λ config log rep is. ([], (log, (λ n new rest t. (n, t)), reaches_itself config log, is, rep), prints_none old f)

module _ (first mid now : State) (shown was next : Shown) (w0 w1 w2 w3 : Option (List ℕ)) (f0 f1 f2 f3 : Bool) (name : Due) where
  -- One more step is taken.
  pub told_step : SomeStepsTold first mid shown was w0 f0 w1 f1 → StepHasName mid name → StepIsTaken mid now
      → Prints w1 f1 w2 f2 (step_line name)
      → ((config : Config)
      (log : List Act) → Represents now config log → IsShown next log × Prints w2 f2 w3 f3 (changes was next))
      → SomeStepsTold first now shown next w0 f0 w3 f3
  told_step gone names step line tell = λ config log rep is.
      let (text, (middle, by, reached, shows, held), put) = gone config log rep is in
      let (last, goes, stands) = step config middle held in
      let (seen, lines) = tell config last stands in (
        text ++ (step_line name ++ changes was next),
        (
          last,
          (λ n new rest t.
              let there = by (suc n) new (step_line name ++ (changes was next ++ rest))
              (last, name, next, rest, goes, names config middle held, seen, refl, t) in (
                there.0,
                subst (λ (l : List ℕ). TellsIn there.0 config log shown l new)
                    (sym (append_regrouped text (step_line name) (changes was next) rest)) there.1,
              )),
          reaches_by_step config log middle last reached goes,
          seen,
          stands,
        ),
        prints_then w0 w1 w3 f0 f1 f3 text (step_line name ++ changes was next) put
            (prints_then w1 w2 w3 f1 f2 f3 (step_line name) (changes was next) line lines),
      )

-- No step is due any more.
module _ (first mid now : State) (shown was : Shown) (w0 w1 w2 : Option (List ℕ)) (f0 f1 f2 : Bool) (name : Due) where
  pub told_ended : SomeStepsTold first mid shown was w0 f0 w1 f1 → StepHasName mid name → StepHasName mid Nothing
      → ((config : Config)
      (log : List Act) → Represents mid config log → IsSettled config log × Represents now config log)
      → Prints w1 f1 w2 f2 (step_line name) → AllStepsTold first now shown w0 f0 w2 f2
  told_ended gone names nothing none line = λ config log rep is.
      let (text, (middle, by, reached, shows, held), put) = gone config log rep is in
      let (still, stands) = none config middle held in
      let there = by zero middle [] (still, nothing config middle held, refl, refl) in
      let empty = nothing_line config middle name (names config middle held) (nothing config middle held) in (
        text,
        (
          middle,
          there.0,
          subst (λ (l : List ℕ). TellsIn there.0 config log shown l middle) (append-nil text) there.1,
          settles_if_reached config log middle reached still,
          stands,
        ),
        prints_equal_text w0 w2 f0 f2 (text ++ step_line name) text (ap (λ (l : List ℕ). text ++ l) empty ∙ append-nil text)
            (prints_then w0 w1 w2 f0 f1 f2 text (step_line name) put line),
      )

-- Some steps are taken, and then some more.
module _ (first mid now : State) (shown was next : Shown) (w0 w1 w2 : Option (List ℕ)) (f0 f1 f2 : Bool) where
  pub told_more : SomeStepsTold first mid shown was w0 f0 w1 f1 → SomeStepsTold mid now was next w1 f1 w2 f2
      → SomeStepsTold first now shown next w0 f0 w2 f2
  told_more gone other = λ config log rep is.
      let (text, (middle, by, reached, shows, held), put) = gone config log rep is in
      let (more, (last, further, goes, seen, stands), lines) = other config middle held shows in (
        text ++ more,
        (
          last,
          (λ n new rest t.
              let there = further n new rest t in
              let all = by there.0 new (more ++ rest) there.1 in
              (all.0, subst (λ (l : List ℕ). TellsIn all.0 config log shown l new) (sym (append_assoc text more rest)) all.1)),
          reaches_trans config log middle last reached goes,
          seen,
          stands,
        ),
        prints_then w0 w1 w2 f0 f1 f2 text more put lines,
      )

-- Some steps are taken, and then all that remain.
module _ (first mid now : State) (shown was : Shown) (w0 w1 w2 : Option (List ℕ)) (f0 f1 f2 : Bool) where
  pub told_all : SomeStepsTold first mid shown was w0 f0 w1 f1 → AllStepsTold mid now was w1 f1 w2 f2
      → AllStepsTold first now shown w0 f0 w2 f2
  told_all gone other = λ config log rep is.
      let (text, (middle, by, reached, shows, held), put) = gone config log rep is in
      let (more, (last, n, tells, settles, stands), lines) = other config middle held shows in
      let all = by n last more tells in
      (text ++ more, (last, all.0, all.1, reached settles.0 last settles.1, stands), prints_then w0 w1 w2 f0 f1 f2 text more put lines)

-- ---- the lines of the event itself

one_more : (clock passed : ℕ) → clock + (passed + 1) ≡ clock + passed + 1
one_more clock passed = omega arith

-- A Tick advances the clock by one millisecond.
tick_clock : (config : Config) (polled : ℕ) (log : List Act)
    → clock_at config (own_acts config polled Tick log ++ log) ≡ clock_at config log + 1
tick_clock config polled log = by (state (effective_acts (instrument_acts (device_acts log)))) refl
  where
    by : (s : ScanState) → state (effective_acts (instrument_acts (device_acts log))) ≡ s
        → clock_at config (own_acts config polled Tick log ++ log) ≡ clock_at config log + 1
    by Idle e = rw e (one_more config.clock (ticks (device_acts log)))
    by Waiting e = rw e (one_more config.clock (ticks (device_acts log)))
    by Scanning e = rw e (one_more config.clock (ticks (device_acts log)))

-- The lines before an event and the line of a Tick are together the lines of the event.
pub event_lines : (line polled : ℕ) (config : Config) (event : PlainEvent) (log : List Act) (rest : List ℕ)
    → lines_before line config event log ++ (tick_line line (clock_at config (own_acts config polled event log ++ log)) event ++ rest)
    ≡ head_line line (clock_after config event log) ++ (taken_line event log ++ rest)
event_lines line polled config Tick log rest = ap (λ (clock : ℕ). head_line line clock ++ rest) (tick_clock config polled log)
event_lines line polled config (Turn c) log rest = append_assoc (head_line line (clock_at config log)) (taken_line (Turn c) log) rest
event_lines line polled config (Refuse c) log rest =
    append_assoc (head_line line (clock_at config log)) (taken_line (Refuse c) log) rest
event_lines line polled config _ log rest = refl

-- The same for an event that is refused.
pub refused_lines : (line : ℕ) (config : Config) (event : PlainEvent) (log : List Act)
    → lines_before line config event log ++ tick_line line (clock_at config log) event
    ≡ head_line line (clock_at config log) ++ taken_line event log
refused_lines line config Tick log = sym (append-nil (head_line line (clock_at config log)))
refused_lines line config (Turn c) log = append-nil (head_line line (clock_at config log) ++ taken_line (Turn c) log)
refused_lines line config (Refuse c) log = append-nil (head_line line (clock_at config log) ++ taken_line (Refuse c) log)
refused_lines line config _ log = refl
