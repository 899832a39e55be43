-- The state of the scanner, and when it stands for a list of acts.
use Rattle.std.specs.Prelude.{◌≡◌, ℕ, ◌-◌, ◌*◌, ◌%◌, ◌==◌, ℤ, pos, Bool, true, List, length, Option, Some, None, slice_index_or, if◌then◌else◌}
use Rattle.std.specs.Prelude.{option_map}
use Rattle.sv_scan.specs.declared.setting.Reading.{Reading}
use Rattle.sv_errors.specs.declared.source.Source.{Source}
use Rattle.sv_scan.specs.declared.progress.Progress.{Progress}
use Rattle.sv_scan.specs.declared.acts.ScanAct.{ScanAct}
use Rattle.sv_scan.specs.declared.touched.Touched.{Touched}
use Rattle.sv_errors.specs.Limits.{is_channel}
use Rattle.sv_scan.specs.Setting.{scan_list, monitor, range, upper, lower, limits, source, count, input}
use Rattle.sv_scan.specs.Scan.{before_init, triggers, readings}
use Rattle.sv_scan.specs.Counted.{effective}
use Rattle.sv_scan.specs.Touched.{IsTouched}

-- a measurement: its scan list and count, as they were when it was initiated, and the number of its
-- triggers so far
pub record Run : Type 0 where
  pub channels : List ℕ
  pub scans : ℕ
  pub triggers : ℕ

-- how far a measurement is after this many samples; `None` if each channel of each scan was read
abbrev pub progress_by : Run → ℕ → Option Progress
progress_by run samples = if samples == run.scans * length run.channels then None else Some (record {
  scan = run.triggers;
  scans = run.scans;
  place = samples % length run.channels;
  places = length run.channels;
})

-- the measurement that was initiated last; `None` if no measurement was initiated, or if an abort
-- or a reset came later
abbrev pub current_run : List ScanAct → Option Run
current_run log = option_map (λ before. record { channels = scan_list before; scans = count before; triggers = triggers log })
    (before_init log)

-- the state of the scanner
pub record Contents : Type 0 where
  pub inputs : List ℤ
  pub list : List ℕ
  pub monitor : ℕ
  pub range : ℤ
  pub upper : ℤ
  pub lower : ℤ
  pub limits : Bool
  pub source : Source
  pub count : ℕ
  pub run : Option Run
  pub readings : List Reading
  pub touched : Touched

-- Each part of the contents has the value that the search of `log` finds. All acts of `log` took
-- effect.
pub record Holds (contents : Contents) (log : List ScanAct) : Type 0 where
  pub inputs : (channel : ℕ) → is_channel channel ≡ true → slice_index_or contents.inputs (channel - 1) (pos 0) ≡ input channel log
  pub list : contents.list ≡ scan_list log
  pub monitor : contents.monitor ≡ monitor log
  pub range : contents.range ≡ range log
  pub upper : contents.upper ≡ upper log
  pub lower : contents.lower ≡ lower log
  pub limits : contents.limits ≡ limits log
  pub source : contents.source ≡ source log
  pub count : contents.count ≡ count log
  pub run : contents.run ≡ current_run log
  pub readings : contents.readings ≡ readings log
  pub touched : IsTouched contents.touched log

-- The state of the scanner stands for these acts. It is determined by those of the acts that took
-- effect.
abbrev pub StandsFor : Contents → List ScanAct → Type 0
StandsFor contents acts = Holds contents (effective acts)
