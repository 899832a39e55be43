-- Which acts of the scanner take effect. All do except: an act that is refused; a sample while no
-- scan is under way; and an input of a channel that doesn't exist.
use Rattle.std.specs.Prelude.{◌&&◌, not, Bool, true, false, List, [], ◌∷◌, Option, Some, None, is_none, if◌then◌else◌}
use Rattle.sv_errors.specs.declared.code.Code.{Code}
use Rattle.sv_errors.specs.declared.code.Code.TheVariants.{DataOutOfRange, SettingsConflict, TriggerIgnored, InitIgnored, TriggerDeadlock}
use Rattle.sv_scan.specs.declared.setting.Setting.{Setting}
use Rattle.sv_errors.specs.declared.source.Source.{Source}
use Rattle.sv_errors.specs.declared.source.Source.TheVariants.{Immediate, Bus, External}
use Rattle.sv_scan.specs.declared.setting.State.{State}
use Rattle.sv_scan.specs.declared.setting.State.TheVariants.{Idle, Waiting, Scanning}
use Rattle.sv_scan.specs.declared.acts.ScanAct.{ScanAct}
use Rattle.sv_scan.specs.declared.acts.ScanAct.TheVariants.{Input, Configure, Init, Trigger, Sample}
use Rattle.sv_errors.specs.Limits.{is_channel}
use Rattle.sv_scan.specs.Setting.{is_possible, is_fixed, source}
use Rattle.sv_scan.specs.Scan.{state}

-- whether no measurement is under way
abbrev pub is_idle : State → Bool
is_idle = elim [ Idle ↦ true | _ ↦ false ]

-- whether a scan waits for its trigger
abbrev pub is_waiting : State → Bool
is_waiting = elim [ Waiting ↦ true | _ ↦ false ]

-- whether a scan is under way
abbrev pub is_scanning : State → Bool
is_scanning = elim [ Scanning ↦ true | _ ↦ false ]

-- whether two trigger sources are the same
abbrev pub same_source : Source → Source → Bool
same_source Immediate Immediate = true
same_source Bus Bus = true
same_source External External = true
same_source _ _ = false

-- why a setting is refused after these acts: -222 if its value isn't allowed; else -221 if a
-- measurement is under way and this setting can't be changed during a measurement; `None` if the
-- setting isn't refused
abbrev pub setting_fault : List ScanAct → Setting → Option Code
setting_fault log setting =
    if not (is_possible setting) then Some DataOutOfRange
    else if is_fixed setting && not (is_idle (state log)) then Some SettingsConflict else None

-- why an initiation is refused: -213 if a measurement is under way; `None` if it isn't refused
abbrev pub init_fault : List ScanAct → Option Code
init_fault log = if is_idle (state log) then None else Some InitIgnored

-- why a trigger is refused: -211 if no scan waits for a trigger, or if the scan waits for a trigger
-- from another source; `None` if it isn't refused
abbrev pub trigger_fault : List ScanAct → Source → Option Code
trigger_fault log from = if is_waiting (state log) && same_source (source log) from then None else Some TriggerIgnored

-- why the controller can't wait for a reading: -214 if the trigger source is the bus, because the
-- controller can't send a trigger while it waits; `None` if it can wait
abbrev pub read_fault : List ScanAct → Option Code
read_fault log = if same_source (source log) Bus then Some TriggerDeadlock else None

-- whether `act` takes effect after the acts of `log`, all of which took effect
abbrev pub counts : List ScanAct → ScanAct → Bool
counts log (Input channel microvolts) = is_channel channel
counts log (Configure setting) = is_none (setting_fault log setting)
counts log Init = is_none (init_fault log)
counts log (Trigger source) = is_none (trigger_fault log source)
counts log Sample = is_scanning (state log)
counts log _ = true

-- the acts among these that took effect
abbrev pub effective : List ScanAct → List ScanAct
effective [] = []
effective (act ∷ acts) = if counts (effective acts) act then act ∷ effective acts else effective acts
