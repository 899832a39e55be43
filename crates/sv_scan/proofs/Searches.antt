-- What the specification finds by searching the acts, computed from the state of the scanner.
use Rattle.std.proofs.Common.{◌≡◌, ℕ, ◌+◌, ◌-◌, sym, List, [], ◌∷◌, length, Some, None, Option, refl, ap, ◌∙◌, length-append, add-one}
use Rattle.std.specs.Prelude.{Bool, true, false, ◌*◌, ◌%◌, ◌==◌, cond, slice_get, option_map}
use Rattle.sv_scan.specs.declared.setting.Reading.{Reading}
use Rattle.sv_scan.specs.declared.acts.ScanAct.{ScanAct}
use Rattle.sv_scan.specs.declared.acts.ScanAct.TheVariants.{Init, Abort, Reset, Sample}
use Rattle.sv_scan.specs.Setting.{scan_list, count}
use Rattle.std.specs.Option.{option_map_or}
use Rattle.sv_scan.specs.declared.setting.State.{State}
use Rattle.sv_scan.specs.declared.setting.State.TheVariants.{Idle, Waiting, Scanning}
use Rattle.sv_scan.specs.declared.progress.Progress.{Progress}
use Rattle.sv_scan.specs.declared.progress.Taken.{Taken}
use Rattle.sv_scan.specs.Scan.{before_init, triggers, samples, state, state_by, is_complete, channel_at, readings, reading, last_reading}
use Rattle.sv_scan.specs.Counted.{is_idle}
use Rattle.sv_scan.specs.Progress.{progress, newest_reading}
use Rattle.sv_scan.specs.Stands.{Run, Contents, Holds, current_run, progress_by}
use Rattle.sv_scan.specs.Representation.{run_state, run_complete}

pub length_readings : (log : List ScanAct) → length (readings log) ≡ samples log
length_readings [] = refl
length_readings (Sample ∷ log) = length-append (readings log) (reading log ∷ []) ∙ ap (λ (n : ℕ). n + 1) (length_readings log)
    ∙ add-one (samples log)
length_readings (Init ∷ log) = refl
length_readings (Abort ∷ log) = refl
length_readings (Reset ∷ log) = refl
length_readings (_ ∷ log) = length_readings log

pub last_reading_is_found : (found kept : List Reading) (log : List ScanAct) → found ≡ kept → kept ≡ readings log
    → slice_get found (length found - 1) ≡ last_reading log
last_reading_is_found found kept log same is = ap (λ (xs : List Reading). slice_get xs (length xs - 1)) (same ∙ is)

-- A measurement, with the scan list and the count before its initiation.
abbrev run_of : ℕ → List ScanAct → Run
run_of count_of before = record { channels = scan_list before; scans = count before; triggers = count_of }

-- The state of a measurement, from the acts before its initiation.
abbrev state_since : Option (List ScanAct) → ℕ → ℕ → State
state_since before had read = option_map_or (λ acts. state_by had read (length (scan_list acts)) (count acts)) before Idle

state_of_run : (before : Option (List ScanAct)) (had read : ℕ)
    → run_state (option_map (run_of had) before) read ≡ state_since before had read
state_of_run None had read = refl
state_of_run (Some before) had read = refl

pub state_is : (contents : Contents) (log : List ScanAct) → Holds contents log
    → run_state contents.run (length contents.readings) ≡ state log
state_is contents log is =
    ap (λ (r : Option Run). run_state r (length contents.readings)) is.run
    ∙ ap (run_state (current_run log)) (ap length is.readings ∙ length_readings log)
    ∙ state_of_run (before_init log) (triggers log) (samples log)

-- Whether the readings of a measurement are complete.
complete_of_run : (before : Option (List ScanAct)) (had read : ℕ)
    → run_complete (option_map (run_of had) before) read ≡ option_map_or (λ acts. read == count acts * length (scan_list acts)) before false
complete_of_run None had read = refl
complete_of_run (Some before) had read = refl

pub complete_is : (contents : Contents) (log : List ScanAct) → Holds contents log
    → run_complete contents.run (length contents.readings) ≡ is_complete log
complete_is contents log is =
    ap (λ (r : Option Run). run_complete r (length contents.readings)) is.run
    ∙ ap (run_complete (current_run log)) (ap length is.readings ∙ length_readings log)
    ∙ complete_of_run (before_init log) (triggers log) (samples log)

-- The scan list of a measurement.
list_of_run : (before : Option (List ScanAct)) (had : ℕ) (r : Run) → option_map (run_of had) before ≡ Some r
    → option_map_or scan_list before [] ≡ r.channels
list_of_run None had r e = cc
list_of_run (Some before) had r e = let same : run_of had before ≡ r = cc in ap (λ (current_run : Run). current_run.channels) same

pub list_is : (log : List ScanAct) (r : Run) → current_run log ≡ Some r → option_map_or scan_list (before_init log) [] ≡ r.channels
list_is log r e = list_of_run (before_init log) (triggers log) r e

-- How far a measurement is; `None` if there is none.
abbrev pub run_progress : Option Run → ℕ → Option Progress
run_progress None samples = None
run_progress (Some run) samples = progress_by run samples

-- While a measurement is under way, it has a progress.
under_way : (all triggered : Bool) (told : Option Progress)
    → cond all None told ≡ cond (is_idle (cond all Idle (cond triggered Waiting Scanning))) None told
under_way true triggered told = refl
under_way false true told = refl
under_way false false told = refl

-- How far a measurement is, from the acts before its initiation.
abbrev progress_since : Option (List ScanAct) → ℕ → ℕ → Option Progress
progress_since before had read = cond (is_idle (state_since before had read)) None (option_map (λ acts. record {
  scan = had;
  scans = count acts;
  place = read % length (scan_list acts);
  places = length (scan_list acts);
}) before)

progress_of_run : (before : Option (List ScanAct)) (had read : ℕ)
    → run_progress (option_map (run_of had) before) read ≡ progress_since before had read
progress_of_run None had read = refl
progress_of_run (Some before) had read =
    under_way (read == count before * length (scan_list before)) (read == had * length (scan_list before)) _

pub progress_is : (contents : Contents) (log : List ScanAct) → Holds contents log
    → run_progress contents.run (length contents.readings) ≡ progress log
progress_is contents log is =
    ap (λ (r : Option Run). run_progress r (length contents.readings)) is.run
    ∙ ap (run_progress (current_run log)) (ap length is.readings ∙ length_readings log)
    ∙ progress_of_run (before_init log) (triggers log) (samples log)

-- The newest reading and its channel.
pub newest_is : (contents : Contents) (log : List ScanAct) (r : Run) (reading_now : Reading) (channel : ℕ) → Holds contents log
    → contents.run ≡ Some r → Some reading_now ≡ last_reading log → channel ≡ channel_at r.channels (length contents.readings - 1)
    → Some (record { channel = channel; reading = reading_now }) ≡ newest_reading log
newest_is contents log r reading_now channel is e told at =
    let channels : option_map_or scan_list (before_init log) [] ≡ r.channels = list_is log r (sym is.run ∙ e) in
    let many : length contents.readings ≡ samples log = ap length is.readings ∙ length_readings log in
    let place : channel ≡ channel_at (option_map_or scan_list (before_init log) []) (samples log - 1) =
    at ∙ ap (λ (n : ℕ). channel_at r.channels (n - 1)) many ∙ ap (λ (cs : List ℕ). channel_at cs (samples log - 1)) (sym channels) in
    let made : ℕ → Reading → Taken = λ c x. record { channel = c; reading = x } in
    ap (λ (c : ℕ). Some (made c reading_now)) place
    ∙ ap (option_map (made (channel_at (option_map_or scan_list (before_init log) []) (samples log - 1)))) told
