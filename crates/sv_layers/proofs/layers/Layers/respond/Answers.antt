use Rattle.std.proofs.Common.{refl, ap, ◌∙◌, List}
use Rattle.sv_exchange.specs.Exchange.{ExchangeAct, answers, fits_response}
use Rattle.sv_layers.specs.Inside.LayerLogs.{layer_logs}
use Rattle.sv_layers.proofs.Acted.{exchange_act_begun}
use Rattle.sv_layers.proofs.Projected.{projected}
use Rattle.sv_layers.proofs.layers.Layers.respond.Goals as goal

pub returns-clause-fits : goal.returns-clause-fits
returns-clause-fits g c = λ log h.
    let j = rw (← c.self.view_is) at h.joined in
    (c.respond-fits.ensures.stands (layer_logs log).exchange j.exchange).0
    ∙ ap (λ (acts : List ExchangeAct). fits_response (answers acts) c.args.answer.now) (projected log).0

pub returns-clause-applied : goal.returns-clause-applied
returns-clause-applied g c = λ log h.
    let k = rw (← c.self.view_is) at h in
    rw (← c.self.view_is)
    (c.update_status.ensures.applied log _
    (exchange_act_begun k (c.respond-fits.ensures.stands (layer_logs log).exchange k.joined.exchange).1) refl)
