-- At most one step of the instrument is due, and it has only one result.
use Rattle.std.proofs.Common.{◌≡◌, ℕ, List, [], ◌∷◌, sym, ap, ◌∙◌}
use Rattle.std.specs.Prelude.{Option, Some, None, Result, Ok, Err, decimal}
use Rattle.sv_errors.specs.declared.code.Code.{Code}
use Rattle.sv_exchange.specs.Exchange.{Due, NothingDue, OverrunDue, InterruptDue, UnitDue, FinishDue, due, next_unit}
use Rattle.sv_instrument.specs.declared.command.order.Order.{Order}
use Rattle.sv_instrument.specs.declared.command.order.Order.TheVariants as order
use Rattle.sv_header.specs.declared.command.Question.{Question}
use Rattle.sv_header.specs.declared.command.Question.TheVariants as question
use Rattle.sv_instrument.proofs.OneReading.{one_reading}
use Rattle.sv_layers.specs.declared.change.Awaited.{Awaited}
use Rattle.sv_layers.specs.Act.{Act, exchange_acts}
use Rattle.sv_layers.proofs.PolledByte.{one_word}
use Rattle.sv_instrument.specs.HeldUnit.{held_unit}
use Rattle.sv_instrument.specs.QueryResponse.{Says, IsWord}
use Rattle.sv_instrument.specs.CommandEffect.{Performs, Replies, question_fault, after_answering, done, after_query}
use Rattle.sv_instrument.specs.Path.{Leaves}
use Rattle.sv_instrument.specs.Step.{StepOf, Starts, Does, after_interrupt}
use Rattle.sv_instrument.specs.Laws.{OneStep}

pub equal_to_same : {A : Type 0} {a b it : A} → a ≡ it → b ≡ it → a ≡ b
equal_to_same first second = first ∙ sym second

word_once : (Bit : ℕ → Type 0) (a b : List ℕ) → IsWord Bit a → IsWord Bit b → a ≡ b
word_once Bit a b first second =
    first.text_is ∙ ap decimal (one_word Bit first.word second.word first.bits second.bits) ∙ sym second.text_is

says_once : (asked : Question) (log : List Act) (a b : List ℕ) → Says asked log a → Says asked log b → a ≡ b
says_once question.StandardEvents log a b = word_once _ a b
says_once question.StatusByte log a b = word_once _ a b
says_once (question.Events name) log a b = word_once _ a b
says_once _ log a b = equal_to_same

replies_once : (fault : Option Code) (asked : Question) (log a b : List Act) → Replies fault asked log a → Replies fault asked log b → a ≡ b
replies_once (Some code) asked log a b x y = equal_to_same x y
replies_once None asked log a b x y =
    x.2 ∙ ap (λ (text : List ℕ). after_answering text (done (after_query asked log))) (says_once asked log x.0 y.0 x.1 y.1) ∙ sym y.2

performs_once : (ordered : Order) (log a b : List Act) → Performs ordered log a → Performs ordered log b → a ≡ b
performs_once (order.Ask asked) log a b = replies_once (question_fault asked log) asked log a b
performs_once _ log a b = equal_to_same

does_once : (outcome : Result Order Code) (log a b : List Act) → Does outcome log a → Does outcome log b → a ≡ b
does_once (Ok ordered) log a b = performs_once ordered log a b
does_once (Err code) log a b = equal_to_same

leaves_once : (us : List (List ℕ)) (p q : List (List ℕ)) → Leaves us p → Leaves us q → p ≡ q
leaves_once [] p q x y = equal_to_same x y
leaves_once (unit ∷ before) p q (front, outcome, x, read) (other, result, y, again) =
    let same = leaves_once before front other x y in
    (one_reading other unit outcome result p q (rw same at read) again).1

starts_once : (unit : List ℕ) (log a b : List Act) → Starts unit log a → Starts unit log b → a ≡ b
starts_once unit log a b (front, behind, outcome, x, read, does) (other, left, result, y, again, done_so) =
    let same : front ≡ other = leaves_once _ front other x y in
    let is = (one_reading other unit outcome result behind left (rw same at read) again).0 in
    does_once result log a b (rw is at does) done_so

pub next_once : (next : Option (List ℕ)) (a b : List ℕ) → next ≡ Some a → next ≡ Some b → a ≡ b
next_once next a b x y = cc

step_once : (kept : Option Awaited) (next : Due) (log a b : List Act) → StepOf kept next log a → StepOf kept next log b → a ≡ b
step_once (Some awaited) next log a b x y = equal_to_same x.1 y.1
step_once None NothingDue log a b x y = absurd x
step_once None OverrunDue log a b x y = equal_to_same x y
step_once None InterruptDue log a b (unit, is, x) (other, same, y) =
    let one = next_once (next_unit (exchange_acts log)) unit other is same in
    starts_once other (after_interrupt log) a b (rw one at x) y
step_once None (UnitDue unit) log a b x y = starts_once unit log a b x y
step_once None FinishDue log a b x y = equal_to_same x y

pub one_step : OneStep
one_step log = step_once (held_unit log) (due (exchange_acts log)) log
