-- The scanner's state stands for the acts after each act.
use Rattle.std.proofs.Common.{◌≡◌, ◌≢◌, ℕ, ◌-◌, ◌<◌, ◌≤◌, ◌==◌, ℤ, pos, Bool, true, false, List, [], ◌∷◌, ◌++◌, length, get_or, Some, None, Option, inl, inr, replicate, refl, ap, ◌∙◌, sym, subst, arith, if◌then◌else◌}
use Rattle.std.proofs.lemmas.Bool.{cond_both, cases_lt, eqb-true, eqb-false}
use Rattle.std.proofs.lemmas.Bool.Decides.{nat_tests}
use Rattle.std.proofs.lemmas.List.{get_or-set_same, get_or-set_other, get_or-replicate, get_or_past, length-replicate}
use Rattle.std.specs.Prelude.{Ok, Err, unwrap_or, is_none, slice_index_or, slice_set}
use Rattle.sv_errors.specs.declared.code.Code.{Code}
use Rattle.sv_scan.specs.declared.setting.Reading.{Reading}
use Rattle.sv_scan.specs.declared.settings.Settings.{Settings}
use Rattle.sv_scan.specs.declared.acts.ScanAct.{ScanAct}
use Rattle.sv_scan.specs.declared.acts.ScanAct.TheVariants.{Init, Trigger, Abort, Sample, Input, Configure, Reset}
use Rattle.sv_errors.specs.Limits.{is_channel, channel_count}
use Rattle.std.specs.Option.{option_map_or}
use Rattle.sv_scan.specs.Setting.{scan_list, range, input}
use Rattle.sv_scan.specs.Scan.{before_init, samples, readings, reading, reading_in, channel_at}
use Rattle.sv_scan.specs.Counted.{effective, counts}
use Rattle.sv_scan.specs.Answered.{refused_by}
use Rattle.sv_scan.specs.declared.touched.Touched.{Touched}
use Rattle.sv_scan.specs.Stands.{Run, Contents, Holds, StandsFor, current_run}
use Rattle.sv_scan.specs.Representation.{contents_of}
use Rattle.sv_scan.specs.Touched.{IsTouched, nothing}
use Rattle.sv_scan.specs.Together.{AreOf}
use Rattle.sv_scan.proofs.Searches.{length_readings, list_is}
use Rattle.sv_scan.proofs.Untouched.{is_touched_all, is_touched_input}

-- ---- acts that take effect

effective_keeps : (act : ScanAct) (acts : List ScanAct) → counts (effective acts) act ≡ true → effective (act ∷ acts) ≡ act ∷ effective acts
effective_keeps act acts e = ap (λ (b : Bool). if b then act ∷ effective acts else effective acts) e

pub stands_for_counted : (contents : Contents) (act : ScanAct) (acts : List ScanAct) → counts (effective acts) act ≡ true
    → Holds contents (act ∷ effective acts) → StandsFor contents (act ∷ acts)
stands_for_counted contents act acts e is = subst (Holds contents) (sym (effective_keeps act acts e)) is

-- ---- acts that have no effect

effective_drops : (act : ScanAct) (acts : List ScanAct) → counts (effective acts) act ≡ false → effective (act ∷ acts) ≡ effective acts
effective_drops act acts e = ap (λ (b : Bool). if b then act ∷ effective acts else effective acts) e

pub stands_for_dropped : (contents : Contents) (act : ScanAct) (acts : List ScanAct) → counts (effective acts) act ≡ false
    → StandsFor contents acts → StandsFor contents (act ∷ acts)
stands_for_dropped contents act acts e is = subst (Holds contents) (sym (effective_drops act acts e)) is

-- ---- an act takes effect exactly if it is accepted

pub is_accepted : (fault : Option Code) → Ok tt ≡ refused_by fault → is_none fault ≡ true
is_accepted None e = refl
is_accepted (Some code) e = cc

pub is_refused : (fault : Option Code) (code : Code) → Err code ≡ refused_by fault → is_none fault ≡ false
is_refused None code e = cc
is_refused (Some other) code e = refl

-- ---- the state after an act that takes effect

is_in : (channel : ℕ) → is_channel channel ≡ true → (1 ≤ channel) × (channel ≤ channel_count)
is_in channel legal = grind (arith, nat_tests)

-- An input is set.
input_after : (inputs : List ℤ) (channel other : ℕ) (microvolts before : ℤ) → length inputs ≡ channel_count → is_channel channel ≡ true
    → is_channel other ≡ true → slice_index_or inputs (other - 1) (pos 0) ≡ before
    → slice_index_or (slice_set inputs (channel - 1) microvolts) (other - 1) (pos 0)
    ≡ unwrap_or (if channel == other then Some microvolts else None) before
input_after inputs channel other microvolts before size legal known same =
    let in_range = is_in channel legal in
    let other_in = is_in other known in
    let place : channel - 1 < length inputs = omega arith in
    cond_both (channel == other) (Some microvolts) None
    (λ (v : Option ℤ). slice_index_or (slice_set inputs (channel - 1) microvolts) (other - 1) (pos 0) ≡ unwrap_or v before)
    (λ e. let at : other - 1 ≡ channel - 1 = ap (λ (n : ℕ). n - 1) (sym (eqb-true channel other e)) in
    ap (λ (n : ℕ). slice_index_or (slice_set inputs (channel - 1) microvolts) n (pos 0)) at
    ∙ get_or-set_same inputs (channel - 1) microvolts (pos 0) place)
    (λ e. let ne = eqb-false channel other e in
    let apart : other - 1 ≢ channel - 1 = λ (h : other - 1 ≡ channel - 1). ne (omega arith) in
    get_or-set_other inputs (channel - 1) (other - 1) microvolts (pos 0) apart ∙ same)

pub holds_input : (contents : Contents) (log : List ScanAct) (channel : ℕ) (microvolts : ℤ) → length contents.inputs ≡ channel_count
    → is_channel channel ≡ true → Holds contents log → Holds (record contents {
      inputs = slice_set contents.inputs (channel - 1) microvolts;
      touched = record { operation = false; questionable = false; limit = channel == contents.monitor };
    }) (Input channel microvolts ∷ log)
holds_input contents log channel microvolts size legal is = record {
  inputs = λ other known. input_after contents.inputs channel other microvolts (input other log) size legal known (is.inputs other known);
  list = is.list;
  monitor = is.monitor;
  range = is.range;
  upper = is.upper;
  lower = is.lower;
  limits = is.limits;
  source = is.source;
  count = is.count;
  run = is.run;
  readings = is.readings;
  touched = subst (λ (m : ℕ).
      IsTouched (record { operation = false; questionable = false; limit = channel == m }) (Input channel microvolts ∷ log))
      (sym is.monitor) (is_touched_input channel microvolts log);
}

-- Whether an act changes neither inputs nor settings.
abbrev pub is_of_run : ScanAct → Bool
is_of_run = elim [ Input channel microvolts ↦ false | Configure setting ↦ false | Reset ↦ false | _ ↦ true ]

pub holds_run : (contents : Contents) (log : List ScanAct) (act : ScanAct) (now : Option Run) (made : List Reading) (touched : Touched)
    → is_of_run act ≡ true → Holds contents log → now ≡ current_run (act ∷ log) → made ≡ readings (act ∷ log)
    → IsTouched touched (act ∷ log) → Holds (record contents { run = now; readings = made; touched = touched }) (act ∷ log)
holds_run contents log Init now made touched e is at has said = assumption
holds_run contents log (Trigger from) now made touched e is at has said = assumption
holds_run contents log Abort now made touched e is at has said = assumption
holds_run contents log Sample now made touched e is at has said = assumption
holds_run contents log _ now made touched e is at has said = cc

-- A channel is sampled.
abbrev pub sampled : Contents → Run → Reading
sampled contents r =
    reading_in contents.range (slice_index_or contents.inputs (channel_at r.channels (length contents.readings) - 1) (pos 0))

sampled_is : (contents : Contents) (log : List ScanAct) (r : Run) → contents.run ≡ Some r
    → is_channel (channel_at r.channels (length contents.readings)) ≡ true → Holds contents log → sampled contents r ≡ reading log
sampled_is contents log r e known is =
    let channels : option_map_or scan_list (before_init log) [] ≡ r.channels = list_is log r (sym is.run ∙ e) in
    let many : length contents.readings ≡ samples log = ap length is.readings ∙ length_readings log in
    ap (reading_in contents.range) (is.inputs (channel_at r.channels (length contents.readings)) known)
    ∙ ap (λ (range : ℤ). reading_in range (input (channel_at r.channels (length contents.readings)) log)) is.range
    ∙ ap (λ (n : ℕ). reading_in (range log) (input (channel_at r.channels n) log)) many
    ∙ ap (λ (cs : List ℕ). reading_in (range log) (input (channel_at cs (samples log)) log)) (sym channels)

pub holds_sample : (contents : Contents) (log : List ScanAct) (r : Run) → contents.run ≡ Some r
    → is_channel (channel_at r.channels (length contents.readings)) ≡ true → Holds contents log → Holds (record contents {
      readings = contents.readings ++ sampled contents r ∷ [];
      touched = record { operation = true; questionable = true; limit = true };
    }) (Sample ∷ log)
holds_sample contents log r e known is =
    holds_run contents log Sample contents.run (contents.readings ++ sampled contents r ∷ []) _ refl is is.run
    (ap (λ (xs : List Reading). xs ++ sampled contents r ∷ []) is.readings
    ∙ ap (λ (x : Reading). readings log ++ x ∷ []) (sampled_is contents log r e known is)) (is_touched_all Sample log)

zeros : (n place : ℕ) → get_or (replicate n (pos 0)) place (pos 0) ≡ pos 0
zeros n place = elim (cases_lt place n) [
  | inl within ↦ get_or-replicate n place (pos 0) (pos 0) within
  | inr past ↦ get_or_past (replicate n (pos 0)) place (pos 0) (omega (arith, length-replicate {A = ℤ}))
]

-- At first, no input was set, and each is 0.
pub stands_for_new : (n : ℕ) (settings : Settings) → AreOf settings []
    → StandsFor (contents_of (replicate n (pos 0)) settings None [] nothing) []
stands_for_new n settings are = record {
  inputs = λ channel known. zeros n (channel - 1);
  list = are.list;
  monitor = are.monitor;
  range = are.range;
  upper = are.upper;
  lower = are.lower;
  limits = are.limits;
  source = are.source;
  count = are.count;
  run = refl;
  readings = refl;
  touched = tt;
}
