use Rattle.sv_layers.proofs.Plain.{plain_act_has_no_effect}
use Rattle.sv_layers.proofs.layers.Layers.update_status.Goals as goal

pub returns-clause-applied : goal.returns-clause-applied
returns-clause-applied g c = λ log act b plain. c.end.ensures.applied log act b (plain_act_has_no_effect act plain)
