use Rattle.std.proofs.Common.{sym, ◌∙◌, true, false}
use Rattle.sv_instrument.proofs.Counting.{count_after_act, counts}
use Rattle.sv_instrument.proofs.Units.{behaves_answered, counts_after_answer}
use Rattle.sv_instrument.specs.CommandEffect.{done}
use Rattle.sv_instrument.proofs.unit_effects.reply.Goals as goal

pub returns-then-not-respond-clause-behaves : goal.returns-then-not-respond-clause-behaves
returns-then-not-respond-clause-behaves g c = λ start log h.
    let ended = counts c.done.ensures.applied h in
    let fits = sym c.if-not-respond.true ∙ c.respond.ensures.fits (done log) ended.stands in
    let dropped = rw c.if-not-respond.true at (c.respond.ensures.applied (done log) ended.stands) in
    behaves_answered start log c.args.text.now _
    (counts_after_answer false c.args.text.now (done log) fits (counts c.apply.ensures.applied (count_after_act dropped ended)))

pub returns-else-not-respond-clause-behaves : goal.returns-else-not-respond-clause-behaves
returns-else-not-respond-clause-behaves g c = λ start log h.
    let ended = counts c.done.ensures.applied h in
    let fits = sym c.if-not-respond.false ∙ c.respond.ensures.fits (done log) ended.stands in
    behaves_answered start log c.args.text.now _ (counts_after_answer true c.args.text.now (done log) fits
    (count_after_act (rw c.if-not-respond.false at (c.respond.ensures.applied (done log) ended.stands)) ended))
