-- At each act a status register gets its new condition, and then the direct effect of the act.
use Rattle.std.proofs.Common.{◌≡◌, List, ◌∷◌, refl}
use Rattle.sv_status.specs.declared.register_name.RegisterName.{RegisterName}
use Rattle.sv_status.specs.declared.register.RegisterAct.TheVariants as register
use Rattle.sv_layers.specs.Act.{Act}
use Rattle.sv_layers.specs.Condition.{condition}
use Rattle.sv_layers.specs.Inside.LayerLogs.{own, register_acts, layer_logs}
use Rattle.sv_layers.proofs.Projected.{begun_register}

pub register_acts_after_act : (name : RegisterName) (act : Act) (log : List Act) → register_acts name (layer_logs (act ∷ log))
    ≡ own name act (register.Condition (condition name (act ∷ log)) ∷ register_acts name (layer_logs log))
register_acts_after_act name act log = rw (begun_register name act log) refl
