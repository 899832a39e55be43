-- What is due at the instrument, as an answer to a question: which step comes next, before it is
-- taken.
use Rattle.std.specs.Prelude.{◌≡◌, true, Bool, List, Some, None, is_none}
use Rattle.sv_errors.specs.declared.source.Source.TheVariants.{Immediate}
use Rattle.sv_scan.specs.Counted.{trigger_fault}
use Rattle.sv_exchange.specs.Exchange.{OverrunDue, InterruptDue, UnitDue, FinishDue, due, next_unit}
use Rattle.sv_exchange.specs.Place.{IsPlaceOf}
use Rattle.sv_layers.specs.Act.{Act, exchange_acts}
use Rattle.sv_layers.specs.Condition.{effective_acts, is_idle}
use Rattle.sv_instrument.specs.HeldUnit.{held_unit}
use Rattle.sv_instrument.specs.Step.{is_held}
use Rattle.sv_instrument.specs.declared.looking.Step.{Step}
use Rattle.sv_instrument.specs.declared.looking.Step.TheVariants as step

-- whether an immediate trigger is due
abbrev pub is_fire_due : List Act → Bool
is_fire_due log = is_none (trigger_fault (effective_acts log) Immediate)

-- This step of message exchange is due after the log. A held unit ends once no measurement is under
-- way; every other step needs that no unit is held. A step in which a unit starts has the unit and
-- its place in the current message.
abbrev pub IsDue : Step → List Act → Type 0
IsDue step.Release log = (is_held (held_unit log) ≡ true) × (is_idle log ≡ true)
IsDue step.Overrun log = (held_unit log ≡ None) × (due (exchange_acts log) ≡ OverrunDue)
IsDue (step.Interrupt place unit) log = (held_unit log ≡ None) × (due (exchange_acts log) ≡ InterruptDue)
    × (next_unit (exchange_acts log) ≡ Some unit.now) × IsPlaceOf place unit.now (exchange_acts log)
IsDue (step.Unit place unit) log = (held_unit log ≡ None) × (due (exchange_acts log) ≡ UnitDue unit.now)
    × IsPlaceOf place unit.now (exchange_acts log)
IsDue step.Finish log = (held_unit log ≡ None) × (due (exchange_acts log) ≡ FinishDue)

-- No step of message exchange is due after the log.
abbrev pub IsNoneDue : List Act → Type 0
IsNoneDue log = (step : Step) → IsDue step log → ⊥
