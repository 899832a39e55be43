use Rattle.std.proofs.Common.{ap, ◌∙◌}
use Rattle.sv_exchange.specs.Contents.{Contents, shown_by}
use Rattle.sv_exchange.specs.Exchange.{is_something}
use Rattle.sv_instrument.proofs.instrument.Instrument.readable.Goals as goal

pub returns-clause-value : goal.returns-clause-value
returns-clause-value g c =
    rw (← c.self.view_is) (c.readable.ensures.value ∙ ap (λ (held : Contents). is_something (shown_by held)) c.exchange.ensures.value)

pub returns-clause-answer : goal.returns-clause-answer
returns-clause-answer g c = λ log h.
    let s = rw (← c.self.view_is) at h in
    c.readable.ensures.answer _ (c.exchange.ensures.stands log s.layers.stands)
