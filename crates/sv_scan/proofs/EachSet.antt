-- The settings after one of them is set.
use Rattle.std.proofs.Common.{◌≡◌, Some, None, unwrap_or, rules}
use Rattle.sv_scan.specs.declared.setting.Setting.{Setting}
use Rattle.sv_scan.specs.declared.setting.Setting.TheVariants.{List as SetList, Monitor, Range, Upper, Lower, Limits, Source as SetSource, Count}
use Rattle.sv_scan.specs.declared.settings.Settings.{Settings}
use Rattle.sv_scan.specs.Setting.{least_range}
use Rattle.sv_scan.specs.Together.{IsSet}

-- Each setting has its new value if it was set, else the old one.
pub record EachSet (setting : Setting) (old new : Settings) : Type 0 where
  pub list : new.list ≡ unwrap_or (elim setting [ SetList channels ↦ Some channels | _ ↦ None ]) old.list
  pub monitor : new.monitor ≡ unwrap_or (elim setting [ Monitor channel ↦ Some channel | _ ↦ None ]) old.monitor
  pub range : new.range ≡ unwrap_or (elim setting [ Range wanted ↦ Some (least_range wanted) | _ ↦ None ]) old.range
  pub upper : new.upper ≡ unwrap_or (elim setting [ Upper limit ↦ Some limit | _ ↦ None ]) old.upper
  pub lower : new.lower ≡ unwrap_or (elim setting [ Lower limit ↦ Some limit | _ ↦ None ]) old.lower
  pub limits : new.limits ≡ unwrap_or (elim setting [ Limits on ↦ Some on | _ ↦ None ]) old.limits
  pub source : new.source ≡ unwrap_or (elim setting [ SetSource from ↦ Some from | _ ↦ None ]) old.source
  pub count : new.count ≡ unwrap_or (elim setting [ Count scans ↦ Some scans | _ ↦ None ]) old.count

pub each_set : (setting : Setting) (old new : Settings) → IsSet setting old new → EachSet setting old new
each_set (SetList channels) old new same = rw same (search rules)
each_set (Monitor channel) old new same = rw same (search rules)
each_set (Range wanted) old new same = rw same (search rules)
each_set (Upper limit) old new same = rw same (search rules)
each_set (Lower limit) old new same = rw same (search rules)
each_set (Limits on) old new same = rw same (search rules)
each_set (SetSource from) old new same = rw same (search rules)
each_set (Count scans) old new same = rw same (search rules)
