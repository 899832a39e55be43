-- How a run ends: after its last line, and when its output is flushed.
use Rattle.std.proofs.Common.{◌≡◌, ℕ, List, [], ◌++◌, Option, refl, sym, subst, inl, inr, append-nil}
use Rattle.std.specs.Prelude.{◌⊎◌, Result, Ok, Err, ⊤, IsErr, IsErrAnd, OnOk, IfErr}
use Rattle.std.specs.Io.KnownBytes.{Keeps, IsAtEnd}
use Rattle.sv_print.specs.TakenByWriter.{IsTakenByWriter}
use Rattle.sv_history.specs.declared.event.Config.{Config}
use Rattle.sv_history.specs.Event.{PlainEvent}
use Rattle.sv_history.specs.Act.{Act}
use Rattle.sv_history.specs.History.{IsLogOf}
use Rattle.sv_explain.specs.Steps.{end_line}
use Rattle.sv_server.specs.Explain.Telling.{clock_at}
use Rattle.sv_server.specs.Server.State.{State, StandsFor}
use Rattle.sv_print.proofs.Taking.{appends_none, appends_keeps, appends_then}
use Rattle.sv_replay.specs.declared.mode.Mode.{Mode}
use Rattle.sv_replay.specs.declared.mode.Mode.TheVariants.{Plain, Explained}
use Rattle.sv_replay.specs.declared.fault.RunFault.{RunFault}
use Rattle.sv_replay.specs.declared.fault.RunFault.TheVariants.{BadLine, Input, Output, Memory}
use Rattle.sv_replay.specs.Run.{Runs, RunsExplained, RunsIn}
use Rattle.sv_replay.specs.Stage.{StepsRun, ScriptRuns}
use Rattle.sv_replay.proofs.Staged.{output_fault_replaces}
use Rattle.std.proofs.KnownBytes.{Consumes-nil}

-- In either mode, a fault that stops the lines is a fault of the run.
fault_in_both_modes : (config : Config) (mode : Mode) (read text : List ℕ) (rest : Option (List ℕ)) (fault : RunFault)
    → Runs config mode read rest (Err fault) text → RunsIn config mode read rest (Err fault) text
fault_in_both_modes config Plain read text rest fault runs = runs
fault_in_both_modes config Explained read text rest (BadLine n) runs = runs
fault_in_both_modes config Explained read text rest Input runs = runs
fault_in_both_modes config Explained read text rest Output runs = inl runs
fault_in_both_modes config Explained read text rest Memory runs = runs

-- If memory is refused at the start, the run stops with `Memory`; nothing is read or printed.
pub memory_refused_at_start : (config : Config) (mode : Mode) (reader first : Option (List ℕ)) (result : Result ⊤ RunFault) → IsErr result
    → IsErrAnd result (λ e. e ≡ Memory) → ScriptRuns config mode reader reader first first result
memory_refused_at_start config mode reader first (Ok all) failed is = absurd cc
memory_refused_at_start config mode reader first (Err e) failed is = (
  [],
  [],
  Consumes-nil reader,
  appends_none first,
  subst (λ (f : RunFault). RunsIn config mode [] reader (Err f) []) (sym is)
      (fault_in_both_modes config mode [] [] reader Memory (inl (refl, refl))),
)

-- If a step stops with a fault, the run stops with this fault.
pub fault_ends_run : (config : Config) (mode : Mode) (server : State) (reader after first last : Option (List ℕ)) (fault : RunFault)
    (result : Result ⊤ RunFault) → IsErr result → IsErrAnd result (λ e. e ≡ fault)
    → StepsRun config mode server reader after first last (Err fault) → ScriptRuns config mode reader after first last result
fault_ends_run config mode server reader after first last fault (Ok all) failed is steps = absurd cc
fault_ends_run config mode server reader after first last fault (Err e) failed is (read, text, took, put, runs) = (
  read,
  text,
  took,
  put,
  subst (λ (f : RunFault). RunsIn config mode read after (Err f) text) (sym is)
      (fault_in_both_modes config mode read text after fault runs),
)

-- A plain replay prints nothing after its last line.
pub plain_run_ends : (config : Config) (server : State) (reader after first last : Option (List ℕ))
    → StepsRun config Plain server reader after first last (Ok tt) → ScriptRuns config Plain reader after first last (Ok tt)
plain_run_ends config server reader after first last (read, text, took, put, (events, history, script, prints, stands)) =
    (read, text, took, put, (events, history, script, prints))

-- An explained replay prints the line with the clock after its last line.
pub explained_run_ends : (config : Config) (server : State) (reader after first mid last : Option (List ℕ)) (result : Result ⊤ RunFault)
    → IsAtEnd after → StepsRun config Explained server reader after first mid (Ok tt)
    → ((config : Config) (history : List PlainEvent) (log : List Act) → StandsFor server config history → IsLogOf config history log
    → IsTakenByWriter mid last result (end_line (clock_at config log)))
    → IfErr result (λ e. e ≡ Output) → ScriptRuns config Explained reader after first last result
explained_run_ends config server reader after first mid last (Ok all) end (read, text, took, put, done) taken is =
    let (events, history, script, prints, stands) = done in (
      read,
      text ++ end_line (clock_at config stands.log),
      took,
      appends_then first mid last text _ put (taken config history stands.log stands stands.is_log),
      (text, _, (events, history, stands.log, script, prints, stands.is_log, refl), refl),
    )
explained_run_ends config server reader after first mid last (Err e) end (read, text, took, put, done) taken is =
    let (events, history, script, prints, stands) = done in
    let (part, front, more) = taken config history stands.log stands stands.is_log in (
      read,
      text ++ part,
      took,
      appends_then first mid last text part put more,
      subst (λ (f : RunFault). RunsExplained config read after (Err f) (text ++ part)) (sym is)
          (inr (text, _, part, (events, history, stands.log, script, prints, stands.is_log, refl), front, end, refl)),
    )

-- If the output fails after the last step, the text is that of a run that stops with `Output`.
runs_with_output_fault : (config : Config) (mode : Mode) (read text : List ℕ) (tail : Option (List ℕ)) (answer : Result ⊤ RunFault)
    → OnOk answer (IsAtEnd tail) → RunsIn config mode read tail answer text → RunsIn config mode read tail (Err Output) text
runs_with_output_fault config Plain read text tail answer end runs = output_fault_replaces config Plain read text tail answer end runs
runs_with_output_fault config Explained read text tail (Ok all) end (front, last, printed, is) =
    inr (front, last, last, printed, ([], sym (append-nil last)), end, is)
runs_with_output_fault config Explained read text tail (Err (BadLine n)) end runs = inl
    (output_fault_replaces config Explained read text tail (Err (BadLine n)) end runs)
runs_with_output_fault config Explained read text tail (Err Input) end runs =
    inl (output_fault_replaces config Explained read text tail (Err Input) end runs)
runs_with_output_fault config Explained read text tail (Err Output) end runs = runs
runs_with_output_fault config Explained read text tail (Err Memory) end runs =
    inl (output_fault_replaces config Explained read text tail (Err Memory) end runs)

-- After the output is flushed, the run returns its result, or `Output` if flushing failed.
pub run_after_flush : (config : Config) (mode : Mode) (reader after first mid last : Option (List ℕ)) (answer result : Result ⊤ RunFault)
    → OnOk answer (IsAtEnd after) → (result ≡ answer) ⊎ (result ≡ Err Output) → Keeps mid last
    → ScriptRuns config mode reader after first mid answer → ScriptRuns config mode reader after first last result
run_after_flush config mode reader after first mid last answer result end (inl same) kept (read, text, took, put, runs) = (
  read,
  text,
  took,
  appends_keeps first mid last text put kept,
  subst (λ (r : Result ⊤ RunFault). RunsIn config mode read after r text) (sym same) runs,
)
run_after_flush config mode reader after first mid last answer result end (inr failed) kept (read, text, took, put, runs) = (
  read,
  text,
  took,
  appends_keeps first mid last text put kept,
  subst (λ (r : Result ⊤ RunFault). RunsIn config mode read after r text) (sym failed)
      (runs_with_output_fault config mode read text after answer end runs),
)

pub at_end_after_flush : (after : Option (List ℕ)) (answer result : Result ⊤ RunFault) → OnOk answer (IsAtEnd after)
    → (result ≡ answer) ⊎ (result ≡ Err Output) → OnOk result (IsAtEnd after)
at_end_after_flush after answer result end (inl same) = subst (λ (r : Result ⊤ RunFault). OnOk r (IsAtEnd after)) (sym same) end
at_end_after_flush after answer result end (inr failed) = subst (λ (r : Result ⊤ RunFault). OnOk r (IsAtEnd after)) (sym failed) tt

pub at_end_if_ok : (after : Option (List ℕ)) (result : Result ⊤ RunFault) → IsAtEnd after → OnOk result (IsAtEnd after)
at_end_if_ok after (Ok all) end = end
at_end_if_ok after (Err e) end = tt
