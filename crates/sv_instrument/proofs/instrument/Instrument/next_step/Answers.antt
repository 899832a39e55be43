use Rattle.std.proofs.Common.{◌∙◌, sym, ap, refl, subst, rules}
use Rattle.sv_exchange.specs.Exchange.{InterruptDue, OverrunDue, FinishDue}
use Rattle.sv_exchange.specs.Contents.{Contents, IsUnitDue, next_of}
use Rattle.sv_layers.specs.Act.{exchange_acts}
use Rattle.sv_instrument.specs.Step.{after_interrupt}
use Rattle.sv_instrument.proofs.Counting.{counts, runs_at_start}
use Rattle.sv_instrument.proofs.NextStep.{step_of, start_is_due_step, nothing_due, none_due_if_nothing_due}
use Rattle.sv_instrument.proofs.Paths.{finished_path}
use Rattle.sv_instrument.proofs.instrument.Instrument.next_step.Goals as goal

pub returns-in-Nothing : goal.returns-in-Nothing
returns-in-Nothing g c = (
  λ log h new.
      let s = rw (← c.self.view_is) at h in
      let is = c.in-Nothing.ensures.answer (exchange_acts log) (c.exchange.ensures.stands log s.layers.stands) in
      nothing_due log new (sym c.requires ∙ h.held) is,
  λ log h.
      let s = rw (← c.self.view_is) at h in
      let is = c.in-Nothing.ensures.answer (exchange_acts log) (c.exchange.ensures.stands log s.layers.stands) in
      none_due_if_nothing_due log (sym c.requires ∙ h.held) is,
  refl,
)

pub returns-in-Overrun : goal.returns-in-Overrun
returns-in-Overrun g c = (
  λ log h.
      let s = rw (← c.self.view_is) at h in
      let is = c.in-Overrun.ensures.answer (exchange_acts log) (c.exchange.ensures.stands log s.layers.stands) in
      let runs = rw (← c.self.view_is) at (runs_at_start h) in (
        _,
        step_of log _ _ OverrunDue (sym c.requires ∙ h.held) is refl,
        record {
          layers = counts c.apply.ensures.applied (counts c.overran.ensures.applied runs.layers);
          held = runs.held;
          path = runs.path;
        },
      ),
  search rules,
)

pub returns-in-Interrupt : goal.returns-in-Interrupt
returns-in-Interrupt g c = (
  λ log h.
      let s = rw (← c.self.view_is) at h in
      let is = c.in-Interrupt.ensures.answer (exchange_acts log) (c.exchange.ensures.stands log s.layers.stands) in
      let runs = rw (← c.self.view_is) at (runs_at_start h) in
      let told = counts c.apply-in-Interrupt.ensures.applied (counts c.interrupt.ensures.applied runs.layers) in
      let unit = c.start.ensures.starts log (after_interrupt log) (record { layers = told; held = runs.held; path = runs.path }) in
      (unit.new, step_of log unit.new _ InterruptDue (sym c.requires ∙ h.held) is (unit.unit, unit.next, unit.starts), unit.runs),
  search rules,
)

pub returns-in-Unit : goal.returns-in-Unit
returns-in-Unit g c = (
  λ log h.
      let s = rw (← c.self.view_is) at h in
      let is = c.in-Unit.ensures.answer (exchange_acts log) (c.exchange.ensures.stands log s.layers.stands) in
      let unit = c.start-in-Unit.ensures.starts log log (runs_at_start h) in
      (unit.new, start_is_due_step log unit.new unit.unit _ (sym c.requires ∙ h.held) is unit.next unit.starts, unit.runs),
  c.start-in-Unit.ensures.measure,
)

pub returns-in-Finish : goal.returns-in-Finish
returns-in-Finish g c = (
  λ log h.
      let s = rw (← c.self.view_is) at h in
      let is = c.in-Finish.ensures.answer (exchange_acts log) (c.exchange.ensures.stands log s.layers.stands) in
      let runs = rw (← c.self.view_is) at (runs_at_start h) in
      let path = finished_path log (sym c.requires ∙ h.held) in (
        _,
        step_of log _ _ FinishDue (sym c.requires ∙ h.held) is refl,
        record { layers = counts c.finish.ensures.applied runs.layers; held = runs.held; path = rw c.root-self-inside.ensures path },
      ),
  search rules,
)

pub start-requires-clause-free : goal.start-requires-clause-free
start-requires-clause-free g c = rw (← c.self.view_is) at c.requires

pub start-requires-clause-due : goal.start-requires-clause-due
start-requires-clause-due g c =
    subst (λ (held : Contents). IsUnitDue (next_of held)) (sym c.apply-in-Interrupt.ensures.exchange) c.interrupt.ensures.next

pub start-requires-in-Unit-clause-free : goal.start-requires-in-Unit-clause-free
start-requires-in-Unit-clause-free g c = c.requires

pub finish-requires : goal.finish-requires
finish-requires g c = ap next_of (sym c.exchange.ensures.value) ∙ sym c.in-Finish.ensures.value

pub start-requires-in-Unit-clause-due : goal.start-requires-in-Unit-clause-due
start-requires-in-Unit-clause-due g c = rw (← c.self.view_is) (_, ap next_of (sym c.exchange.ensures.value) ∙ sym c.in-Unit.ensures.value)
