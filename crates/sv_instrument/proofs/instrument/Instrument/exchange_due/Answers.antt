use Rattle.std.proofs.Common.{◌∙◌, sym}
use Rattle.sv_layers.specs.Act.{exchange_acts}
use Rattle.sv_instrument.proofs.Dues.{unit_is_next}
use Rattle.sv_instrument.proofs.instrument.Instrument.exchange_due.Goals as goal

pub returns-in-Unit : goal.returns-in-Unit
returns-in-Unit g c = λ log s.
    let h = rw (← c.self.view_is) at s in
    let stands = c.exchange-exchange.ensures.stands log h.layers.stands in
    let is = c.in-Unit.ensures.answer (exchange_acts log) stands in (
      sym (sym c.requires ∙ s.held),
      sym is,
      c.unit_place-place-in-Unit.ensures (exchange_acts log) _ stands (unit_is_next (exchange_acts log) _ is),
    )
