-- What happens to the instrument besides program messages: a trigger comes (from the controller or
-- at the trigger input), time passes, or the scanner triggers itself (an immediate trigger).
use Rattle.std.specs.Prelude.{◌≡◌, List, [], ◌∷◌, Option, Some, None}
use Rattle.sv_errors.specs.declared.code.Code.{Code}
use Rattle.sv_errors.specs.declared.source.Source.TheVariants.{Immediate, Bus, External}
use Rattle.sv_scan.specs.declared.acts.ScanAct.TheVariants.{Trigger, Sample}
use Rattle.sv_scan.specs.declared.setting.State.{State}
use Rattle.sv_scan.specs.declared.setting.State.TheVariants.{Scanning}
use Rattle.sv_scan.specs.Counted.{trigger_fault}
use Rattle.sv_scan.specs.Scan.{state}
use Rattle.sv_layers.specs.Act.{Act, Scanned, Reported}
use Rattle.sv_layers.specs.Condition.{effective_acts}

-- the act of a trigger from the controller: the scanner is triggered; or, if the scanner ignores
-- the trigger (`Some`), the error `code` is reported
abbrev pub or_reported : Option Code → Act
or_reported None = Scanned (Trigger Bus)
or_reported (Some code) = Reported code

-- the acts of a trigger from the controller (VXI-11, device_trigger); if the scanner doesn't wait
-- for this trigger, -211 is reported
abbrev pub trigger_acts : List Act → List Act
trigger_acts log = or_reported (trigger_fault (effective_acts log) Bus) ∷ []

-- the act of a trigger at the trigger input; no act if the scanner ignores the trigger
abbrev pub or_nothing : Option Code → List Act
or_nothing None = Scanned (Trigger External) ∷ []
or_nothing (Some code) = []

-- the acts of a trigger at the trigger input; if the scanner doesn't wait for this trigger, there
-- is no act
abbrev pub external_acts : List Act → List Act
external_acts log = or_nothing (trigger_fault (effective_acts log) External)

-- the act that samples the next channel, if a scan is under way; else no act
abbrev pub where_scanning : State → List Act
where_scanning Scanning = Scanned Sample ∷ []
where_scanning _ = []

-- the acts when a millisecond passes: during a scan the next channel is read; else there is no act
abbrev pub tick_acts : List Act → List Act
tick_acts log = where_scanning (state (effective_acts log))

-- An immediate trigger leads from `log` to `new`. It is due as soon as the scanner waits for an
-- immediate trigger.
abbrev pub IsFired : List Act → List Act → Type 0
IsFired log new = (trigger_fault (effective_acts log) Immediate ≡ None) × (new ≡ Scanned (Trigger Immediate) ∷ log)
