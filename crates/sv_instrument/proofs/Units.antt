-- The acts of a unit: exactly one unit of the message begins, and it is done or held.
use Rattle.std.proofs.Common.{◌≡◌, ℕ, ◌+◌, Bool, true, false, List, ◌∷◌, refl, ap, sym, ◌∙◌, subst, arith}
use Rattle.std.specs.Prelude.{Option, Some, None, Result, if◌then◌else◌}
use Rattle.sv_errors.specs.declared.code.Code.{Code}
use Rattle.sv_errors.specs.declared.code.Code.TheVariants.{QueryDeadlocked}
use Rattle.sv_exchange.specs.Exchange.{ExchangeAct, Answered, AnswersDropped, units_done, current, message, answers, fits_response}
use Rattle.sv_instrument.specs.declared.command.order.Order.{Order}
use Rattle.sv_header.specs.declared.command.Question.{Question}
use Rattle.sv_header.specs.declared.command.Question.TheVariants as question
use Rattle.sv_instrument.specs.Command.Unit.{IsReadAs}
use Rattle.sv_layers.specs.declared.change.Awaited.{Awaited}
use Rattle.sv_layers.specs.declared.change.Change.{Change}
use Rattle.sv_layers.specs.declared.change.Change.TheVariants as changes
use Rattle.sv_layers.specs.Act.{Act, Exchanged, Held, Reported, exchange_acts}
use Rattle.sv_layers.specs.Change.{act_of}
use Rattle.sv_layers.specs.Inside.Representation.{LayerState}
use Rattle.sv_instrument.specs.HeldUnit.{held_unit}
use Rattle.sv_instrument.specs.CommandEffect.{done, after_answering, unless, after_configure, after_query, Replies}
use Rattle.sv_instrument.specs.QueryResponse.{Says}
use Rattle.sv_instrument.specs.Step.{Does}
use Rattle.sv_instrument.specs.Inside.Acted.{Counts, IsApart, BeginsOne, Behaves, Follows}

-- A change adds no act of message exchange.
pub change_apart : (change : Change) (log : List Act) → IsApart log (act_of change ∷ log)
change_apart (changes.Scan act) log = refl
change_apart _ log = refl

-- A query that removes an error or clears a register adds no act of message exchange by this.
pub query_is_apart : (asked : Question) (log : List Act) → IsApart log (after_query asked log)
query_is_apart question.Identification log = refl
query_is_apart _ log = refl

pub configured_apart : (list : Option (List ℕ)) (log : List Act) → IsApart log (after_configure list log)
configured_apart None log = refl
configured_apart (Some channels) log = refl

-- Acts outside message exchange may come before the unit's own acts.
pub behaves_apart : {Makes : List Act → Type 0} {start log behind : List Act} {layers : LayerState} {awaited : Option Awaited}
    → IsApart log behind → Behaves Makes start layers awaited behind → Behaves Makes start layers awaited log
behaves_apart apart b = record {
  new = b.new;
  makes = b.makes;
  counts = b.counts;
  held = b.held;
  begins = record {
    message = b.begins.message ∙ ap (λ (acts : List ExchangeAct). message acts) apart;
    begun = b.begins.begun ∙ ap (λ (acts : List ExchangeAct). units_done (current acts) + 1) apart;
  };
}

done_begins : (log : List Act) → BeginsOne log (done log)
done_begins log = record { message = refl; begun = omega arith }

held_begins : (awaited : Awaited) (log : List Act) → BeginsOne log (Held awaited ∷ log)
held_begins awaited log = record { message = refl; begun = refl }

-- The log after an answer, which is added or, if it doesn't fit, dropped with error -430.
abbrev log_after_answer : Bool → List ℕ → List Act → List Act
log_after_answer fits text log = if fits then Exchanged (Answered text) ∷ log else Reported QueryDeadlocked ∷ Exchanged AnswersDropped ∷ log

pub counts_after_answer : {start : List Act} {layers : LayerState} (fits : Bool) (text : List ℕ) (log : List Act)
    → fits ≡ fits_response (answers (exchange_acts log)) text → Counts start layers (log_after_answer fits text log)
    → Counts start layers (after_answering text log)
counts_after_answer {start} {layers} fits text log same = subst (λ (b : Bool). Counts start layers (log_after_answer b text log)) same

answer_begins_one : (fits : Bool) (text : List ℕ) (log : List Act) → BeginsOne log (log_after_answer fits text (done log))
answer_begins_one true text log = record { message = refl; begun = omega arith }
answer_begins_one false text log = record { message = refl; begun = omega arith }

answer_leaves_none_held : (fits : Bool) (text : List ℕ) (log : List Act) → None ≡ held_unit (log_after_answer fits text (done log))
answer_leaves_none_held true text log = refl
answer_leaves_none_held false text log = refl

pub behaves_done : (start log : List Act) (layers : LayerState) → Counts start layers (done log)
    → Behaves (λ new. new ≡ done log) start layers None log
behaves_done start log layers counts =
    record { new = done log; makes = refl; counts = counts; held = refl; begins = done_begins log }

pub behaves_held : (start log : List Act) (awaited : Awaited) (layers : LayerState) → Counts start layers (Held awaited ∷ log)
    → Behaves (λ new. new ≡ Held awaited ∷ log) start layers (Some awaited) log
behaves_held start log awaited layers counts =
    record { new = Held awaited ∷ log; makes = refl; counts = counts; held = refl; begins = held_begins awaited log }

pub behaves_answered : (start log : List Act) (text : List ℕ) (layers : LayerState) → Counts start layers (after_answering text (done log))
    → Behaves (λ new. new ≡ after_answering text (done log)) start layers None log
behaves_answered start log text layers counts =
    let fits = fits_response (answers (exchange_acts (done log))) text in
    record {
      new = after_answering text (done log);
      makes = refl;
      counts = counts;
      held = answer_leaves_none_held fits text log;
      begins = answer_begins_one fits text log;
    }

pub behaves_unless : {start : List Act} {layers : LayerState} {awaited : Option Awaited} {fault given : Option Code} {log : List Act}
    (acts : List Act) → fault ≡ given → Behaves (λ new. new ≡ unless given acts log) start layers awaited log
    → Behaves (λ new. new ≡ unless fault acts log) start layers awaited log
behaves_unless {start} {layers} {awaited} {fault} {given} {log} acts is =
    subst (λ (f : Option Code). Behaves (λ new. new ≡ unless f acts log) start layers awaited log) (sym is)

pub behaves_replied : {start : List Act} {layers : LayerState} {awaited : Option Awaited} {fault : Option Code} (asked : Question)
    (text : List ℕ) (log : List Act) → fault ≡ None → Says asked log text
    → Behaves (λ new. new ≡ after_answering text (done (after_query asked log))) start layers awaited log
    → Behaves (Replies fault asked log) start layers awaited log
behaves_replied {start} {layers} {awaited} {fault} asked text log is says b =
    subst (λ (f : Option Code). Behaves (Replies f asked log) start layers awaited log) (sym is) (record {
      new = b.new;
      makes = (text, says, b.makes);
      counts = b.counts;
      held = b.held;
      begins = b.begins;
    })

pub behaves_follows : {start : List Act} {layers : LayerState} {awaited : Option Awaited} (unit : List ℕ) (front behind : List (List ℕ))
    (outcome : Result Order Code) (log : List Act) → IsReadAs front unit outcome behind
    → Behaves (Does outcome log) start layers awaited log → Behaves (Follows unit front behind log) start layers awaited log
behaves_follows unit front behind outcome log read b =
    record { new = b.new; makes = (outcome, read, b.makes); counts = b.counts; held = b.held; begins = b.begins }

pub behaves_if_equal_log : {start log made wanted : List Act} {layers : LayerState} {awaited : Option Awaited} → made ≡ wanted
    → Behaves (λ new. new ≡ made) start layers awaited log → Behaves (λ new. new ≡ wanted) start layers awaited log
behaves_if_equal_log {start} {log} {made} {wanted} {layers} {awaited} =
    subst (λ (acts : List Act). Behaves (λ new. new ≡ acts) start layers awaited log)
