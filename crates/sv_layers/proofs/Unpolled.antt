-- A change isn't a poll, so it adds no poll to the status byte's log.
use Rattle.std.proofs.Common.{◌≡◌, List, refl}
use Rattle.sv_status.specs.declared.status_byte.StatusAct.{StatusAct}
use Rattle.sv_layers.specs.declared.change.Change.{Change}
use Rattle.sv_layers.specs.declared.change.Change.TheVariants as changes
use Rattle.sv_layers.specs.Change.{act_of}
use Rattle.sv_layers.specs.Inside.Representation.{own_status}

pub change_is_no_poll : (change : Change) (status_log : List StatusAct) → status_log ≡ own_status (act_of change) status_log
change_is_no_poll (changes.Scan act) status_log = refl
change_is_no_poll _ status_log = refl
