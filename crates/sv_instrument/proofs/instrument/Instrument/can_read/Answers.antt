use Rattle.std.proofs.Common.{rules, ◌≡◌, ◌∙◌, sym, ap, refl, Bool, not, ◌&&◌, ◌||◌}
use Rattle.std.specs.Prelude.{Option, Some, None}
use Rattle.sv_exchange.specs.Exchange.{has_ended}
use Rattle.sv_exchange.specs.Contents.{is_open}
use Rattle.sv_exchange.proofs.Dues.{unit_due_state}
use Rattle.sv_layers.specs.declared.change.Awaited.{Awaited}
use Rattle.sv_layers.specs.Act.{exchange_acts}
use Rattle.sv_layers.specs.Inside.Representation.{LayerState}
use Rattle.sv_instrument.specs.HeldUnit.{held_unit}
use Rattle.sv_instrument.specs.Step.{is_held}
use Rattle.sv_instrument.specs.Representation.{IsHeldRight}
use Rattle.sv_instrument.proofs.instrument.Instrument.can_read.Goals as goal

-- A unit is held only after its message has ended.
held_after_end : (held : Option Awaited) (layers : LayerState) (ended : Bool) → IsHeldRight held layers
    → is_open layers.exchange ≡ not ended → not ended ≡ (not (is_held held) && not ended)
held_after_end None layers ended right same = refl
held_after_end (Some awaited) layers ended right same = sym same ∙ ap not (unit_due_state layers.exchange right).ended

pub returns-then-readable-clause-value : goal.returns-then-readable-clause-value
returns-then-readable-clause-value g c = search rules

pub returns-then-readable-clause-answer : goal.returns-then-readable-clause-answer
returns-then-readable-clause-answer g c = search rules

pub returns-else-readable-clause-value : goal.returns-else-readable-clause-value
returns-else-readable-clause-value g c = search rules

pub returns-else-readable-clause-answer : goal.returns-else-readable-clause-answer
returns-else-readable-clause-answer g c = λ log s.
    let h = rw (← c.self.view_is) at s in
    let open_is = rw (← c.self.view_is) at c.can_write.ensures.value in
    let ended = c.can_write.ensures.answer log s in
    let none = sym (c.readable.ensures.answer (exchange_acts log) (c.exchange.ensures.stands log h.layers.stands)) ∙ c.if-readable.false in
    ended ∙ held_after_end c.self.inside.held c.self.inside.layers (has_ended (exchange_acts log)) c.self.invariant.1 (sym open_is ∙ ended)
    ∙ ap (λ (k : Option Awaited). not (is_held k) && not (has_ended (exchange_acts log))) h.held
    ∙ sym (ap (λ (b : Bool). b || (not (is_held (held_unit log)) && not (has_ended (exchange_acts log)))) none)
