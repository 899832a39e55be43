-- How far the measurement under way is, and what was read last (SCPI-1999, volume 2, chapter 24).
use Rattle.std.specs.Prelude.{◌-◌, ◌%◌, List, [], length, option_map, Option, None, if◌then◌else◌}
use Rattle.std.specs.Option.{option_map_or}
use Rattle.sv_scan.specs.declared.progress.Progress.{Progress}
use Rattle.sv_scan.specs.declared.progress.Taken.{Taken}
use Rattle.sv_scan.specs.declared.acts.ScanAct.{ScanAct}
use Rattle.sv_scan.specs.Setting.{scan_list, count}
use Rattle.sv_scan.specs.Scan.{before_init, triggers, samples, state, channel_at, last_reading}
use Rattle.sv_scan.specs.Counted.{is_idle}

-- how far the measurement under way is: how many of its scans were triggered, and how many channels
-- of the scan under way were read (0 while it waits for its trigger); `None` if no measurement is
-- under way
abbrev pub progress : List ScanAct → Option Progress
progress log = if is_idle (state log) then None else option_map (λ before. record {
  scan = triggers log;
  scans = count before;
  place = samples log % length (scan_list before);
  places = length (scan_list before);
}) (before_init log)

-- the newest reading of the measurement, with its channel; `None` if there is no reading
abbrev pub newest_reading : List ScanAct → Option Taken
newest_reading log = option_map (λ reading. record {
  channel = channel_at (option_map_or scan_list (before_init log) []) (samples log - 1);
  reading = reading;
}) (last_reading log)
