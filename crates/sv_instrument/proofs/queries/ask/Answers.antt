use Rattle.sv_exchange.specs.Contents.{Contents, IsUnitDue, next_of, exchange_measure}
use Rattle.std.proofs.Common.{sym, arith, ap, subst}
use Rattle.sv_instrument.proofs.Units.{behaves_apart, behaves_replied, query_is_apart}
use Rattle.sv_instrument.proofs.queries.ask.Goals as goal

pub returns-in-None-clause-behaves : goal.returns-in-None-clause-behaves
returns-in-None-clause-behaves g c = λ start log h.
    let free = sym (c.in-None.ensures log h.stands) in
    let says = rw (← c.as_slice.ensures.value) at (c.put_answer.ensures.says log h.stands free) in
    behaves_replied c.args.question _ log free says
    (behaves_apart (query_is_apart c.args.question log) (c.reply.ensures.behaves start _ (c.take.ensures.counts start log h)))

pub carry_out-requires : goal.carry_out-requires
carry_out-requires g c = c.requires.due

pub put_answer-requires : goal.put_answer-requires
put_answer-requires g c = c.requires.room

pub reply-requires : goal.reply-requires
reply-requires g c = subst (λ (held : Contents). IsUnitDue (next_of held)) (sym c.take.ensures.exchange) c.requires.due

pub returns-in-Some-clause-advances : goal.returns-in-Some-clause-advances
returns-in-Some-clause-advances g c = c.carry_out.ensures.advances

pub returns-in-Some-clause-capacity : goal.returns-in-Some-clause-capacity
returns-in-Some-clause-capacity g c = c.requires.room

pub returns-in-None-clause-advances : goal.returns-in-None-clause-advances
returns-in-None-clause-advances g c = record {
  less = omega (arith, c.reply.ensures.advances.less, ap exchange_measure c.take.ensures.exchange);
  right = c.reply.ensures.advances.right;
}

pub returns-in-None-clause-capacity : goal.returns-in-None-clause-capacity
returns-in-None-clause-capacity g c = c.put_answer.ensures.capacity

pub returns-in-Some-clause-behaves : goal.returns-in-Some-clause-behaves
returns-in-Some-clause-behaves g c = λ start log h. rw (← c.in-Some.ensures log h.stands) (c.carry_out.ensures.behaves start log h)
