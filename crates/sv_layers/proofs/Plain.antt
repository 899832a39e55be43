-- A plain act has no direct effect on the status registers or the standard events.
use Rattle.std.proofs.Common.{◌≡◌, true, List, refl}
use Rattle.sv_status.specs.declared.register_name.RegisterName.{RegisterName}
use Rattle.sv_status.specs.declared.register.RegisterAct.{RegisterAct}
use Rattle.sv_status.specs.declared.standard_event.StandardAct.{StandardAct}
use Rattle.sv_layers.specs.declared.change.StatusChange.TheVariants.{ReadStandard, EnableStandard, Register}
use Rattle.sv_layers.specs.Act.{Act, Cleared, Preset, StatusChanged}
use Rattle.sv_layers.specs.Inside.LayerLogs.{own, own_standard, is_plain}

pub plain_act_has_no_effect : (act : Act) → is_plain act ≡ true
    → ((name : RegisterName) (acts : List RegisterAct) → acts ≡ own name act acts)
    × ((acts : List StandardAct) → acts ≡ own_standard act acts)
plain_act_has_no_effect Cleared plain = absurd cc
plain_act_has_no_effect Preset plain = absurd cc
plain_act_has_no_effect (StatusChanged ReadStandard) plain = absurd cc
plain_act_has_no_effect (StatusChanged (EnableStandard mask)) plain = absurd cc
plain_act_has_no_effect (StatusChanged (Register name change)) plain = absurd cc
plain_act_has_no_effect _ plain = ((λ name acts. refl), (λ acts. refl))
