use Rattle.std.proofs.Common.{subst}
use Rattle.sv_exchange.specs.Contents.{Contents, shown_by}
use Rattle.sv_exchange.specs.ReadGiven.{IsReadOf}
use Rattle.sv_instrument.proofs.instrument.Instrument.peek.Goals as goal

pub returns-clause-value : goal.returns-clause-value
returns-clause-value g c =
    let gives : Contents → Type 0 = λ held. IsReadOf c.peek.result (shown_by held) c.args.most c.args.term in
    rw (← c.self.view_is) (subst gives c.exchange.ensures.value c.peek.ensures.value)

pub returns-clause-answer : goal.returns-clause-answer
returns-clause-answer g c = λ log h.
    let s = rw (← c.self.view_is) at h in
    c.peek.ensures.answer _ (c.exchange.ensures.stands log s.layers.stands)
