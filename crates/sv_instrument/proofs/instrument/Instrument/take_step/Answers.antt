use Rattle.std.proofs.Common.{◌∙◌, sym, ap, refl, rules, tests}
use Rattle.sv_scan.specs.declared.setting.State.{State}
use Rattle.sv_scan.specs.Counted.{is_idle}
use Rattle.sv_layers.specs.Act.{scan_acts, exchange_acts}
use Rattle.sv_exchange.specs.Exchange.{due}
use Rattle.sv_instrument.proofs.Counting.{runs_at_start}
use Rattle.sv_instrument.proofs.Paths.{released_path}
use Rattle.sv_instrument.proofs.NextStep.{step_of, none_while_busy, none_while_held}
use Rattle.sv_instrument.proofs.instrument.Instrument.take_step.Goals as goal

pub returns-in-Idle : goal.returns-in-Idle
returns-in-Idle g c = (
  λ log h.
      let s = runs_at_start (rw (← c.self.view_is) at h) in
      let is = sym c.in-Some.is ∙ s.held in
      let state = c.in-Idle.ensures.answer (scan_acts log) (c.scanner.ensures.stands log s.layers.stands) in
      let idle = sym (ap (λ (state : State). is_idle state) state) in
      let b = c.release.ensures.behaves log log s.layers in (
        b.new,
        step_of log b.new _ (due (exchange_acts log)) is refl (idle, b.makes),
        record { layers = b.counts; held = b.held; path = released_path log b.new _ _ is b.begins s.path },
      ),
  search (rules, tests),
)

pub returns-in-Waiting : goal.returns-in-Waiting
returns-in-Waiting g c = (
  λ log h new.
      let s = rw (← c.self.view_is) at h in
      let state = c.in-Waiting.ensures.answer (scan_acts log) (c.scanner.ensures.stands log s.layers.stands) in
      none_while_busy log new _ (sym c.in-Some.is ∙ s.held) (ap (λ (state : State). is_idle state) state),
  λ log h.
      let s = rw (← c.self.view_is) at h in
      let state = c.in-Waiting.ensures.answer (scan_acts log) (c.scanner.ensures.stands log s.layers.stands) in
      none_while_held log _ (sym c.in-Some.is ∙ s.held) (ap (λ (state : State). is_idle state) state),
  refl,
)

pub returns-in-Scanning : goal.returns-in-Scanning
returns-in-Scanning g c = (
  λ log h new.
      let s = rw (← c.self.view_is) at h in
      let state = c.in-Scanning.ensures.answer (scan_acts log) (c.scanner.ensures.stands log s.layers.stands) in
      none_while_busy log new _ (sym c.in-Some.is ∙ s.held) (ap (λ (state : State). is_idle state) state),
  λ log h.
      let s = rw (← c.self.view_is) at h in
      let state = c.in-Scanning.ensures.answer (scan_acts log) (c.scanner.ensures.stands log s.layers.stands) in
      none_while_held log _ (sym c.in-Some.is ∙ s.held) (ap (λ (state : State). is_idle state) state),
  refl,
)
