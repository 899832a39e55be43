use Rattle.std.proofs.Common.{arith, ap}
use Rattle.sv_exchange.specs.Contents.{exchange_measure}
use Rattle.sv_instrument.proofs.Units.{behaves_apart, behaves_if_equal_log, configured_apart}
use Rattle.sv_layers.specs.Act.{scan_acts}
use Rattle.sv_instrument.proofs.Counting.{counts}
use Rattle.sv_instrument.proofs.orders.perform.Goals.{in-Apply, in-Set}
use Rattle.sv_instrument.proofs.orders.perform.Goals as goal

pub returns-in-Do-clause-behaves : goal.returns-in-Do-clause-behaves
returns-in-Do-clause-behaves g c = rw c.in-Do.is c.act.ensures.behaves

pub returns-in-Do-clause-advances : goal.returns-in-Do-clause-advances
returns-in-Do-clause-advances g c = c.act.ensures.advances

pub returns-in-Do-clause-capacity : goal.returns-in-Do-clause-capacity
returns-in-Do-clause-capacity g c = c.requires.room

pub returns-in-Configure-clause-behaves : goal.returns-in-Configure-clause-behaves
returns-in-Configure-clause-behaves g c = λ start log h.
    rw c.in-Configure.is (behaves_apart (configured_apart c.in-Configure.list log)
    (c.end.ensures.behaves start _ (c.configure.ensures.counts start log h)))

pub returns-in-Ask-clause-behaves : goal.returns-in-Ask-clause-behaves
returns-in-Ask-clause-behaves g c = rw c.in-Ask.is c.ask.ensures.behaves

pub returns-in-Configure-clause-capacity : goal.returns-in-Configure-clause-capacity
returns-in-Configure-clause-capacity g c = c.requires.room

pub returns-in-Measure-clause-capacity : goal.returns-in-Measure-clause-capacity
returns-in-Measure-clause-capacity g c = c.requires.room

pub returns-in-Ask-clause-advances : goal.returns-in-Ask-clause-advances
returns-in-Ask-clause-advances g c = c.ask.ensures.advances

pub returns-in-Ask-clause-capacity : goal.returns-in-Ask-clause-capacity
returns-in-Ask-clause-capacity g c = c.ask.ensures.capacity

pub returns-in-Configure-clause-advances : goal.returns-in-Configure-clause-advances
returns-in-Configure-clause-advances g c = record {
  less = omega (arith, c.end.ensures.advances.less, ap exchange_measure c.configure.ensures.exchange);
  right = c.end.ensures.advances.right;
}

pub returns-in-Measure-clause-behaves : goal.returns-in-Measure-clause-behaves
returns-in-Measure-clause-behaves g c = λ start log h.
    rw c.in-Measure.is (behaves_apart (configured_apart c.in-Measure.list log)
    (c.hold.ensures.behaves start _ (counts c.apply.ensures.applied (c.configure-in-Measure.ensures.counts start log h))))

pub returns-in-Measure-clause-advances : goal.returns-in-Measure-clause-advances
returns-in-Measure-clause-advances g c = record {
  less = omega (
    arith,
    c.hold.ensures.advances.less,
    ap exchange_measure c.configure-in-Measure.ensures.exchange,
    ap exchange_measure c.apply.ensures.exchange,
  );
  right = c.hold.ensures.advances.right;
}

pub returns-clause-behaves : goal.returns-clause-behaves
returns-clause-behaves g c = λ start log h.
    let b = c.carry_out.ensures.behaves start log h in
    elim c.match-order.branch [
      | in-Apply w ↦ rw w.in-Apply.is (rw w.change-is at b)
      | in-Set w ↦
          let allowed = w.may_set-allowed.ensures.answer (scan_acts log) (w.scanner.ensures.stands log h.stands) in
          rw w.in-Set.is (behaves_if_equal_log (w.unless_refused-change.ensures _ log allowed) (rw w.change-is at b))
    ]
