-- The condition words of the status registers (SCPI-1999, chapter 20), as the acts of the scanner
-- that took effect determine them.
use Rattle.std.specs.Prelude.{ℕ, ◌+◌, ◌^◌, ℤ, int_lt, ◌&&◌, ◌||◌, not, Bool, true, false, List, Option, Some, if◌then◌else◌}
use Rattle.sv_scan.specs.declared.setting.Reading.{Reading}
use Rattle.sv_scan.specs.declared.setting.Reading.TheVariants.{Value, Over, Under}
use Rattle.sv_scan.specs.declared.acts.ScanAct.{ScanAct}
use Rattle.sv_scan.specs.Setting.{limits, upper, lower, monitor, input}
use Rattle.sv_scan.specs.Scan.{state, last_reading}
use Rattle.sv_scan.specs.Counted.{is_idle, is_waiting, is_scanning}

-- the word in which only bit number `place` is set, if `holds` is true; else 0
abbrev pub bit : ℕ → Bool → ℕ
bit place holds = if holds then 2 ^ place else 0

-- the condition word of the operation register. Bit 4: a scan is under way. Bit 5: a scan waits for
-- its trigger. Bit 8: a measurement is under way.
abbrev pub operation : List ScanAct → ℕ
operation log = bit 4 (is_scanning (state log)) + bit 5 (is_waiting (state log)) + bit 8 (not (is_idle (state log)))

-- whether a reading is an overload
abbrev pub is_overload : Option Reading → Bool
is_overload = elim [ Some Over ↦ true | Some Under ↦ true | _ ↦ false ]

-- whether a reading is below a limit; a negative overload counts as below every limit
abbrev pub is_below : Option Reading → ℤ → Bool
is_below (Some (Value value)) limit = int_lt value limit
is_below (Some Under) limit = true
is_below _ limit = false

-- whether a reading is above a limit; a positive overload counts as above every limit
abbrev pub is_above : Option Reading → ℤ → Bool
is_above (Some (Value value)) limit = int_lt limit value
is_above (Some Over) limit = true
is_above _ limit = false

-- whether the input of the monitored channel is outside the limits
abbrev pub is_outside : List ScanAct → Bool
is_outside log = int_lt (input (monitor log) log) (lower log) || int_lt (upper log) (input (monitor log) log)

-- the scanner's part of the condition word of the questionable register. Bit 0: the last reading is
-- an overload.
abbrev pub questionable : List ScanAct → ℕ
questionable log = bit 0 (is_overload (last_reading log))

-- the condition word of the register of limits, 0 while the limits are off. Bit 0: the last reading
-- is below the lower limit. Bit 1: the last reading is above the upper limit. Bit 2: the input of
-- the monitored channel is outside the limits.
abbrev pub limit : List ScanAct → ℕ
limit log = bit 0 (limits log && is_below (last_reading log) (lower log)) + bit 1 (limits log && is_above (last_reading log) (upper log))
    + bit 2 (limits log && is_outside log)
