-- The trigger state and the readings (SCPI-1999, volume 2, chapter 24). They are defined by
-- searching and counting the acts of the scanner that took effect, the newest first.
use Rattle.std.specs.Prelude.{ℕ, ◌-◌, ◌*◌, ◌%◌, ◌==◌, ℤ, neg_ℤ, int_lt, nat_le, unsigned_abs, Bool, true, false, List, [], ◌∷◌, ◌++◌, length, filter, Option, Some, None, slice_get, slice_index_or, if◌then◌else◌}
use Rattle.sv_errors.specs.Limits.{most_microvolts}
use Rattle.std.specs.Option.{option_map_or}
use Rattle.sv_logs.specs.Since.{since, newest}
use Rattle.sv_scan.specs.declared.setting.Reading.{Reading}
use Rattle.sv_scan.specs.declared.setting.Reading.TheVariants.{Value, Over, Under}
use Rattle.sv_scan.specs.declared.setting.State.{State}
use Rattle.sv_scan.specs.declared.setting.State.TheVariants.{Idle, Waiting, Scanning}
use Rattle.sv_scan.specs.declared.acts.ScanAct.{ScanAct}
use Rattle.sv_scan.specs.declared.acts.ScanAct.TheVariants.{Init, Abort, Reset, Trigger, Sample}
use Rattle.sv_scan.specs.Setting.{scan_list, count, range, input}

-- whether the newest act is an initiation, an abort or a reset
abbrev pub starts_or_ends : List ScanAct → Bool
starts_or_ends = elim [ Init ∷ log ↦ true | Abort ∷ log ↦ true | Reset ∷ log ↦ true | _ ↦ false ]

-- the acts before the current or last measurement was initiated; `None` if no measurement was
-- initiated, or if an abort or a reset came later
abbrev pub before_init : List ScanAct → Option (List ScanAct)
before_init log = elim (newest starts_or_ends log) [ Init ∷ before ↦ Some before | _ ↦ None ]

-- how many triggers came since the newest initiation, abort or reset
abbrev pub triggers : List ScanAct → ℕ
triggers log = length (filter (elim [ Trigger source ↦ true | _ ↦ false ]) (since starts_or_ends log))

-- how many samples came since the newest initiation, abort or reset
abbrev pub samples : List ScanAct → ℕ
samples log = length (filter (elim [ Sample ↦ true | _ ↦ false ]) (since starts_or_ends log))

-- the state of a measurement of this many channels and scans, after this many triggers and samples
abbrev pub state_by : ℕ → ℕ → ℕ → ℕ → State
state_by triggers samples channels scans =
    if samples == scans * channels then Idle else if samples == triggers * channels then Waiting else Scanning

-- the state of the measurement. It depends on the scan list and the count that were set when the
-- measurement was initiated. Without a measurement, the state is idle.
abbrev pub state : List ScanAct → State
state log =
    option_map_or (λ before. state_by (triggers log) (samples log) (length (scan_list before)) (count before)) (before_init log) Idle

-- the reading of a voltage in a range: the voltage itself, or an overload if the voltage is beyond
-- the range
abbrev pub reading_in : ℤ → ℤ → Reading
reading_in range value = if int_lt range value then Over else if int_lt value (neg_ℤ range) then Under else Value value

-- whether a reading is an overload, or a voltage of at most 1,000 V in magnitude
abbrev pub is_bounded : Reading → Bool
is_bounded (Value microvolts) = nat_le (unsigned_abs microvolts) most_microvolts
is_bounded _ = true

-- the channel of the next sample, if `before` samples came before it. After the last channel of the
-- list, the first channel comes again.
abbrev pub channel_at : List ℕ → ℕ → ℕ
channel_at channels before = slice_index_or channels (before % length channels) 0

-- the reading of a sample that comes right after these acts: the input of the next channel,
-- measured in the range that these acts set
abbrev pub reading : List ScanAct → Reading
reading log = reading_in (range log) (input (channel_at (option_map_or scan_list (before_init log) []) (samples log)) log)

-- the readings of the measurement, oldest first
abbrev pub readings : List ScanAct → List Reading
readings [] = []
readings (Sample ∷ log) = readings log ++ reading log ∷ []
readings (act ∷ log) = if starts_or_ends (act ∷ log) then [] else readings log

-- the newest reading of the measurement; `None` if there is no reading
abbrev pub last_reading : List ScanAct → Option Reading
last_reading log = slice_get (readings log) (length (readings log) - 1)

-- whether the readings are complete: each channel of each scan was read
abbrev pub is_complete : List ScanAct → Bool
is_complete log = option_map_or (λ before. samples log == count before * length (scan_list before)) (before_init log) false
