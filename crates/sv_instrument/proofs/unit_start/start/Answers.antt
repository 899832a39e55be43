use Rattle.std.proofs.Common.{◌≡◌, ◌∙◌, ap, sym, Ok, Err}
use Rattle.sv_exchange.specs.Exchange.{UnitDue}
use Rattle.sv_exchange.specs.Contents.{next_of}
use Rattle.sv_exchange.proofs.Dues.{due_by_contents}
use Rattle.sv_layers.specs.Act.{exchange_acts}
use Rattle.sv_instrument.proofs.Units.{behaves_follows}
use Rattle.sv_instrument.proofs.Dues.{unit_is_next}
use Rattle.sv_instrument.proofs.unit_start.start.Goals as goal

pub returns-in-Ok-clause-behaves : goal.returns-in-Ok-clause-behaves
returns-in-Ok-clause-behaves g c = λ start log h.
    let unit = c.requires.due.0 in
    let due : next_of c.exchange.result.now ≡ UnitDue unit = ap next_of c.exchange.ensures.value ∙ c.requires.due.1 in
    let next = unit_is_next (exchange_acts log) unit
    (sym due ∙ due_by_contents _ (exchange_acts log) (c.exchange.ensures.stands log h.stands)) in
    let read = c.in-Ok.ensures unit (c.lexed.ensures unit due) in
    (unit, next, behaves_follows unit _ _ (Ok c.in-Ok.order) log read (c.perform.ensures.behaves start log h))

pub returns-in-Err-clause-behaves : goal.returns-in-Err-clause-behaves
returns-in-Err-clause-behaves g c = λ start log h.
    let unit = c.requires.due.0 in
    let due : next_of c.exchange.result.now ≡ UnitDue unit = ap next_of c.exchange.ensures.value ∙ c.requires.due.1 in
    let next = unit_is_next (exchange_acts log) unit
    (sym due ∙ due_by_contents _ (exchange_acts log) (c.exchange.ensures.stands log h.stands)) in
    let read = c.in-Err.ensures unit (c.lexed.ensures unit due) in
    (unit, next, behaves_follows unit _ _ (Err c.in-Err.code) log read (c.carry_out.ensures.behaves start log h))

pub perform-requires-clause-due : goal.perform-requires-clause-due
perform-requires-clause-due g c = c.requires.due

pub perform-requires-clause-room : goal.perform-requires-clause-room
perform-requires-clause-room g c = c.requires.room

pub carry_out-requires : goal.carry_out-requires
carry_out-requires g c = c.requires.due

pub returns-in-Ok-clause-advances : goal.returns-in-Ok-clause-advances
returns-in-Ok-clause-advances g c = c.perform.ensures.advances

pub returns-in-Ok-clause-capacity : goal.returns-in-Ok-clause-capacity
returns-in-Ok-clause-capacity g c = c.perform.ensures.capacity

pub returns-in-Err-clause-advances : goal.returns-in-Err-clause-advances
returns-in-Err-clause-advances g c = c.carry_out.ensures.advances

pub returns-in-Err-clause-capacity : goal.returns-in-Err-clause-capacity
returns-in-Err-clause-capacity g c = c.requires.room
