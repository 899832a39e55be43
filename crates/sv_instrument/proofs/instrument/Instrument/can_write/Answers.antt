use Rattle.std.proofs.Common.{ap, ◌∙◌}
use Rattle.sv_exchange.specs.Contents.{is_open}
use Rattle.sv_instrument.proofs.instrument.Instrument.can_write.Goals as goal

pub returns-clause-value : goal.returns-clause-value
returns-clause-value g c = rw (← c.self.view_is) (c.open_for_write.ensures.value ∙ ap is_open c.exchange.ensures.value)

pub returns-clause-answer : goal.returns-clause-answer
returns-clause-answer g c = λ log h.
    let s = rw (← c.self.view_is) at h in
    c.open_for_write.ensures.answer _ (c.exchange.ensures.stands log s.layers.stands)
