-- Settings and inputs: each has the value to which it was last set. This value is found by a search
-- of the acts of the scanner that took effect, the newest first.
use Rattle.std.specs.Prelude.{ℕ, ℤ, pos, neg_ℤ, int_le, nat_le, ◌==◌, ◌&&◌, Bool, true, false, List, [], ◌∷◌, Option, Some, None, if◌then◌else◌}
use Rattle.sv_errors.specs.Limits.{is_channel, is_channel_list, is_within, most_microvolts, most_scans}
use Rattle.sv_logs.specs.Since.{last_given}
use Rattle.sv_scan.specs.declared.setting.Setting.{Setting}
use Rattle.sv_scan.specs.declared.setting.Setting.TheVariants.{List as SetList, Monitor, Range, Upper, Lower, Limits, Source as SetSource, Count}
use Rattle.sv_errors.specs.declared.source.Source.{Source}
use Rattle.sv_errors.specs.declared.source.Source.TheVariants.{Immediate}
use Rattle.sv_scan.specs.declared.acts.ScanAct.{ScanAct}
use Rattle.sv_scan.specs.declared.acts.ScanAct.TheVariants.{Input, Configure, Reset}

-- the value to which a setting was last set; its default if it wasn't set since the newest reset
abbrev pub last_set : {A : Type 0} → (Setting → Option A) → A → List ScanAct → A
last_set gives default = last_given (elim [ Configure setting ↦ gives setting | Reset ↦ Some default | _ ↦ None ]) default

-- the channels of a scan; channel 1 by default
abbrev pub scan_list : List ScanAct → List ℕ
scan_list = last_set (elim [ SetList channels ↦ Some channels | _ ↦ None ]) (1 ∷ [])

-- the monitored channel; 1 by default
abbrev pub monitor : List ScanAct → ℕ
monitor = last_set (elim [ Monitor channel ↦ Some channel | _ ↦ None ]) 1

-- the smallest of the ranges 1, 10 and 100 V that isn't below the wanted voltage
abbrev pub least_range : ℤ → ℤ
least_range wanted =
    if int_le wanted (pos 1000000) then pos 1000000 else if int_le wanted (pos 10000000) then pos 10000000 else pos 100000000

-- the range in microvolts; 10 V by default
abbrev pub range : List ScanAct → ℤ
range = last_set (elim [ Range wanted ↦ Some (least_range wanted) | _ ↦ None ]) (pos 10000000)

-- the upper limit in microvolts; 1,000 V by default
abbrev pub upper : List ScanAct → ℤ
upper = last_set (elim [ Upper limit ↦ Some limit | _ ↦ None ]) (pos most_microvolts)

-- the lower limit in microvolts; -1,000 V by default
abbrev pub lower : List ScanAct → ℤ
lower = last_set (elim [ Lower limit ↦ Some limit | _ ↦ None ]) (neg_ℤ (pos most_microvolts))

-- whether limits are on; off by default
abbrev pub limits : List ScanAct → Bool
limits = last_set (elim [ Limits on ↦ Some on | _ ↦ None ]) false

-- where triggers come from; immediate by default
abbrev pub source : List ScanAct → Source
source = last_set (elim [ SetSource from ↦ Some from | _ ↦ None ]) Immediate

-- how many scans a measurement has; 1 by default
abbrev pub count : List ScanAct → ℕ
count = last_set (elim [ Count scans ↦ Some scans | _ ↦ None ]) 1

-- the voltage to which a channel's input was last set; 0 at first
abbrev pub input : ℕ → List ScanAct → ℤ
input channel =
    last_given (elim [ Input given microvolts ↦ if given == channel then Some microvolts else None | _ ↦ None ]) (pos 0)

-- whether the value of a setting is allowed
abbrev pub is_possible : Setting → Bool
is_possible (SetList channels) = is_channel_list channels
is_possible (Monitor channel) = is_channel channel
is_possible (Range wanted) = int_le (pos 0) wanted && int_le wanted (pos 100000000)
is_possible (Upper limit) = is_within limit
is_possible (Lower limit) = is_within limit
is_possible (Count scans) = nat_le 1 scans && nat_le scans most_scans
is_possible _ = true

-- whether a setting can only be changed while no measurement is under way
abbrev pub is_fixed : Setting → Bool
is_fixed (SetList channels) = true
is_fixed (Range wanted) = true
is_fixed (SetSource source) = true
is_fixed (Count scans) = true
is_fixed _ = false
