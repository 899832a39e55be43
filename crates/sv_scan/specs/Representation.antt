-- The invariants of the scanner's state.
use Rattle.std.specs.Prelude.{◌≡◌, ℕ, ◌*◌, ◌==◌, ◌≤◌, ℤ, pos, int_le, unsigned_abs, Bool, true, false, List, length, Option, Some, None}
use Rattle.std.specs.List.{list_all}
use Rattle.sv_scan.specs.declared.setting.Setting.TheVariants.{Count}
use Rattle.sv_scan.specs.declared.setting.Reading.{Reading}
use Rattle.sv_scan.specs.declared.setting.State.{State}
use Rattle.sv_scan.specs.declared.setting.State.TheVariants.{Idle}
use Rattle.sv_scan.specs.declared.settings.Settings.{Settings}
use Rattle.sv_scan.specs.declared.touched.Touched.{Touched}
use Rattle.sv_errors.specs.Limits.{is_channel, is_channel_list, channel_count, most_scans, most_readings}
use Rattle.sv_scan.specs.Setting.{is_possible}
use Rattle.sv_scan.specs.Scan.{state_by, is_bounded}
use Rattle.sv_scan.specs.Stands.{Run, Contents}

-- the state of a measurement after this many samples; idle if there is no measurement
abbrev pub run_state : Option Run → ℕ → State
run_state None samples = Idle
run_state (Some run) samples = state_by run.triggers samples (length run.channels) run.scans

-- whether each channel of each scan of the measurement was read; false if there is no measurement
abbrev pub run_complete : Option Run → ℕ → Bool
run_complete None samples = false
run_complete (Some run) samples = samples == run.scans * length run.channels

-- A measurement has a legal scan list, at most 16 scans, and at most as many triggers as scans. It
-- has at most as many samples as its triggered scans have channels in total.
pub record IsRun (run : Run) (samples : ℕ) : Type 0 where
  pub channels : is_channel_list run.channels ≡ true
  pub scans : run.scans ≤ most_scans
  pub triggers : run.triggers ≤ run.scans
  pub read : samples ≤ run.triggers * length run.channels

-- If there is a measurement, it is a valid one (`IsRun`). If there is none, there are no samples.
abbrev pub IsRunOf : Option Run → ℕ → Type 0
IsRunOf None samples = samples ≡ 0
IsRunOf (Some run) samples = IsRun run samples

-- The scanner's state has an input for each channel, and memory for the largest number of readings.
-- Its scan list, monitored channel, range, limits, count and measurement are legal, and no reading
-- is beyond 1,000 V.
pub record IsValid (contents : Contents) (capacity : ℕ) : Type 0 where
  pub inputs : length contents.inputs ≡ channel_count
  pub room : most_readings ≤ capacity
  pub list : is_channel_list contents.list ≡ true
  pub monitor : is_channel contents.monitor ≡ true
  pub range : int_le (pos 0) contents.range ≡ true
  pub range_bounded : unsigned_abs contents.range ≤ 100000000
  pub upper : unsigned_abs contents.upper ≤ 1000000000
  pub lower : unsigned_abs contents.lower ≤ 1000000000
  pub count : is_possible (Count contents.count) ≡ true
  pub run : IsRunOf contents.run (length contents.readings)
  pub readings : list_all is_bounded contents.readings ≡ true

-- the contents of the scanner, computed from the fields of the code's scanner
abbrev pub contents_of : List ℤ → Settings → Option Run → List Reading → Touched → Contents
contents_of inputs settings run readings touched = record {
  inputs = inputs;
  list = settings.list;
  monitor = settings.monitor;
  range = settings.range;
  upper = settings.upper;
  lower = settings.lower;
  limits = settings.limits;
  source = settings.source;
  count = settings.count;
  run = run;
  readings = readings;
  touched = touched;
}
