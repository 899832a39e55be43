use Rattle.std.proofs.Common.{List, refl, ◌∙◌, subst}
use Rattle.sv_status.specs.declared.status_byte.StatusAct.{StatusAct}
use Rattle.sv_layers.specs.Change.{act_of}
use Rattle.sv_layers.specs.Inside.LayerLogs.{after_begin, layer_logs}
use Rattle.sv_layers.specs.Inside.Representation.{Represents}
use Rattle.sv_layers.proofs.Unpolled.{change_is_no_poll}
use Rattle.sv_layers.proofs.layers.Layers.apply.Goals as goal

pub returns-clause-applied : goal.returns-clause-applied
returns-clause-applied g c = λ log h.
    let act = act_of c.args.change in
    let joined =
    subst (λ (status_log : List StatusAct). Represents c.begin.new.self (after_begin act (layer_logs log)) status_log)
    (change_is_no_poll c.args.change h.status_log) (c.begin.ensures.stands (layer_logs log) h.status_log h.joined) in
    rw (← c.begin.ensures.requests) (c.end.ensures.applied log act (record { status_log = h.status_log; are = h.are; joined = joined })
    ((λ name acts. refl), (λ acts. refl)))

pub returns-clause-exchange : goal.returns-clause-exchange
returns-clause-exchange g c = c.end.ensures.exchange ∙ c.begin.ensures.exchange
