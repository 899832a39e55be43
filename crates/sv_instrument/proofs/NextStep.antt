-- Each step that the instrument takes is the one that is due, and less work remains after it.
use Rattle.std.proofs.Common.{◌≡◌, ℕ, ◌≤◌, false, List, [], ◌∷◌, length, drop, ap, sym, subst, ◌∙◌, arith}
use Rattle.std.specs.Prelude.{Option, Some, None}
use Rattle.sv_exchange.specs.Exchange.{Due, NothingDue, OverrunDue, InterruptDue, UnitDue, FinishDue, due, next_unit, is_something}
use Rattle.sv_exchange.specs.Contents.{Contents, IsUnitDue, next_of, shown_by}
use Rattle.sv_exchange.proofs.Dues.{unit_due_state}
use Rattle.sv_layers.specs.declared.change.Awaited.{Awaited}
use Rattle.sv_layers.specs.Act.{Act, exchange_acts}
use Rattle.sv_layers.specs.Condition.{is_idle}
use Rattle.sv_layers.specs.Inside.Representation.{LayerState}
use Rattle.sv_instrument.specs.HeldUnit.{held_unit}
use Rattle.sv_instrument.specs.Path.{IsPath}
use Rattle.sv_instrument.specs.Step.{StepOf, IsStep, Starts, is_held}
use Rattle.sv_instrument.specs.Looking.{IsNoneDue}
use Rattle.sv_instrument.specs.declared.looking.Step.TheVariants as step
use Rattle.sv_instrument.specs.Representation.{Kept, IsHeldRight}
use Rattle.sv_instrument.specs.Inside.Acted.{Behaves, Follows, StartsUnit}
use Rattle.sv_instrument.proofs.Paths.{started_path}
use Rattle.sv_instrument.proofs.Dues.{unit_is_next}
use Rattle.std.proofs.lemmas.Bool.{false≢true}
use Rattle.sv_instrument.proofs.OneStep.{next_once}

-- A step that fits the held unit and what is due in message exchange is the step that is due.
pub step_of : (log new : List Act) (kept : Option Awaited) (next : Due) → kept ≡ held_unit log → next ≡ due (exchange_acts log)
    → StepOf kept next log new → IsStep log new
step_of log new kept next is next_is step =
    subst (λ (d : Due). StepOf (held_unit log) d log new) next_is (subst (λ (h : Option Awaited). StepOf h next log new) is step)

-- No step is due if no unit is held and nothing is due in message exchange.
pub nothing_due : (log new : List Act) → None ≡ held_unit log → NothingDue ≡ due (exchange_acts log) → IsStep log new → ⊥
nothing_due log new free is step =
    subst (λ (d : Due). StepOf None d log new) (sym is)
    (subst (λ (h : Option Awaited). StepOf h (due (exchange_acts log)) log new) (sym free) step)

-- No step is due while a unit is held and a measurement is under way.
pub none_while_busy : (log new : List Act) (awaited : Awaited) → Some awaited ≡ held_unit log → false ≡ is_idle log → IsStep log new → ⊥
none_while_busy log new awaited is busy step =
    let ended = subst (λ (h : Option Awaited). StepOf h (due (exchange_acts log)) log new) (sym is) step in
    false≢true (busy ∙ ended.0)

-- `IsNoneDue` holds if no unit is held and nothing is due in message exchange.
pub none_due_if_nothing_due : (log : List Act) → None ≡ held_unit log → NothingDue ≡ due (exchange_acts log) → IsNoneDue log
none_due_if_nothing_due log free is step.Release (held, idle) =
    false≢true (ap (λ (h : Option Awaited). is_held h) free ∙ held)
none_due_if_nothing_due log free is step.Overrun (none, so) = absurd (let z : NothingDue ≡ OverrunDue = is ∙ so in cc)
none_due_if_nothing_due log free is (step.Interrupt place unit) (none, so, more, placed) =
    absurd (let z : NothingDue ≡ InterruptDue = is ∙ so in cc)
none_due_if_nothing_due log free is (step.Unit place unit) (none, so, more) = absurd (let z : NothingDue ≡ UnitDue unit.now = is ∙ so in cc)
none_due_if_nothing_due log free is step.Finish (none, so) = absurd (let z : NothingDue ≡ FinishDue = is ∙ so in cc)

-- `IsNoneDue` holds while a unit is held and a measurement is under way.
pub none_while_held : (log : List Act) (awaited : Awaited) → Some awaited ≡ held_unit log → false ≡ is_idle log → IsNoneDue log
none_while_held log awaited is busy step.Release (held, idle) = false≢true (busy ∙ idle)
none_while_held log awaited is busy step.Overrun (none, so) = absurd (let z : Some awaited ≡ None = is ∙ none in cc)
none_while_held log awaited is busy (step.Interrupt place unit) (none, so, more, placed) =
    absurd (let z : Some awaited ≡ None = is ∙ none in cc)
none_while_held log awaited is busy (step.Unit place unit) (none, so, placed) = absurd (let z : Some awaited ≡ None = is ∙ none in cc)
none_while_held log awaited is busy step.Finish (none, so) = absurd (let z : Some awaited ≡ None = is ∙ none in cc)

-- The unit that is due is the next unit of the message, so the step that is due starts it.
pub start_is_due_step : (log new : List Act) (unit text : List ℕ) → None ≡ held_unit log → UnitDue text ≡ due (exchange_acts log)
    → next_unit (exchange_acts log) ≡ Some unit → Starts unit log new → IsStep log new
start_is_due_step log new unit text free is next starts =
    step_of log new None (UnitDue text) free is
    (subst (λ (bytes : List ℕ). Starts bytes log new)
    (next_once (next_unit (exchange_acts log)) unit text next (unit_is_next (exchange_acts log) text is)) starts)

-- After a unit started, the state of the instrument stands for the log.
pub stands_after_start : (start log : List Act) (unit : List ℕ) (path : List (List ℕ)) (kept : Kept) → None ≡ held_unit log
    → next_unit (exchange_acts log) ≡ Some unit → IsPath log path
    → Behaves (Follows unit path kept.path log) start kept.layers kept.held log → StartsUnit start log kept
stands_after_start start log unit path kept free next here b =
    let read = b.makes in
    record {
      unit = unit;
      new = b.new;
      next = next;
      starts = (path, kept.path, read.0, here, read.1, read.2);
      runs = record {
        layers = b.counts;
        held = b.held;
        path = started_path log b.new unit path kept.path read.0 free b.begins next here read.1;
      };
    }

-- A read takes no bytes from an empty response. So it changes nothing while a unit is held, since a
-- unit is due only if there is no response.
empty_read_takes_none : (bytes : List ℕ) (count : ℕ) → is_something bytes ≡ false → count ≤ length bytes → count ≡ 0
empty_read_takes_none [] count nothing within = omega (arith, within)
empty_read_takes_none (b ∷ bytes) count nothing within = absurd cc

pub read_keeps_held_unit : (kept : Option Awaited) (old new : LayerState) (count : ℕ) → IsHeldRight kept old
    → count ≤ length (shown_by old.exchange) → new.exchange ≡ record old.exchange { output = drop count old.exchange.output }
    → IsHeldRight kept new
read_keeps_held_unit None old new count right within value = tt
read_keeps_held_unit (Some awaited) old new count right within value =
    let none = empty_read_takes_none (shown_by old.exchange) count (unit_due_state old.exchange right).no_response within in
    let same : new.exchange ≡ old.exchange = value ∙ ap (λ (n : ℕ). record old.exchange { output = drop n old.exchange.output }) none in
    subst (λ (contents : Contents). IsUnitDue (next_of contents)) (sym same) right
