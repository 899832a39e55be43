-- All settings together, and what changes when one of them is set.
use Rattle.std.specs.Prelude.{◌≡◌, List}
use Rattle.sv_scan.specs.declared.acts.ScanAct.{ScanAct}
use Rattle.sv_scan.specs.declared.setting.Setting.{Setting}
use Rattle.sv_scan.specs.declared.setting.Setting.TheVariants.{List as SetList, Monitor, Range, Upper, Lower, Limits, Source as SetSource, Count}
use Rattle.sv_scan.specs.declared.settings.Settings.{Settings}
use Rattle.sv_scan.specs.Setting.{least_range, scan_list, monitor, range, upper, lower, limits, source, count}

-- Each setting has the value that the acts determine.
pub record AreOf (settings : Settings) (log : List ScanAct) : Type 0 where
  pub list : settings.list ≡ scan_list log
  pub monitor : settings.monitor ≡ monitor log
  pub range : settings.range ≡ range log
  pub upper : settings.upper ≡ upper log
  pub lower : settings.lower ≡ lower log
  pub limits : settings.limits ≡ limits log
  pub source : settings.source ≡ source log
  pub count : settings.count ≡ count log

-- The setting that was set has its new value; a range becomes the least range for the wanted
-- voltage. All other settings are unchanged.
abbrev pub IsSet : Setting → Settings → Settings → Type 0
IsSet (SetList channels) old new = new ≡ record old { list = channels }
IsSet (Monitor channel) old new = new ≡ record old { monitor = channel }
IsSet (Range wanted) old new = new ≡ record old { range = least_range wanted }
IsSet (Upper limit) old new = new ≡ record old { upper = limit }
IsSet (Lower limit) old new = new ≡ record old { lower = limit }
IsSet (Limits on) old new = new ≡ record old { limits = on }
IsSet (SetSource from) old new = new ≡ record old { source = from }
IsSet (Count scans) old new = new ≡ record old { count = scans }
