-- A step adds few acts to the log, so the counter of requests for service, which saturates at 255,
-- is exact.
use Rattle.std.proofs.Common.{ℕ, ◌+◌, ◌≤◌, Bool, true, false, List, ◌∷◌, length, arith}
use Rattle.std.specs.Prelude.{Option, Some, None, Result, Ok, Err, codes, if◌then◌else◌}
use Rattle.sv_errors.specs.declared.code.Code.{Code}
use Rattle.sv_errors.specs.declared.code.Code.TheVariants.{QueryDeadlocked}
use Rattle.sv_errors.specs.declared.source.Source.TheVariants.{Bus}
use Rattle.sv_scan.specs.declared.acts.ScanAct.TheVariants as scan
use Rattle.sv_scan.specs.Scan.{readings}
use Rattle.sv_exchange.specs.Exchange.{Answered, AnswersDropped, Due, NothingDue, OverrunDue, InterruptDue, UnitDue, FinishDue, due, answers, fits_response}
use Rattle.sv_instrument.specs.declared.command.order.Order.{Order}
use Rattle.sv_instrument.specs.declared.command.order.Order.TheVariants as order
use Rattle.sv_header.specs.declared.command.Action.{Action}
use Rattle.sv_header.specs.declared.command.Action.TheVariants as action
use Rattle.sv_header.specs.declared.command.Question.{Question}
use Rattle.sv_header.specs.declared.command.Question.TheVariants as question
use Rattle.sv_layers.specs.declared.change.Awaited.{Awaited}
use Rattle.sv_layers.specs.declared.change.Awaited.TheVariants.{Nothing, One, Readings}
use Rattle.sv_layers.specs.Act.{Act, Exchanged, Held, Reported, Scanned, exchange_acts}
use Rattle.sv_layers.specs.Condition.{effective_acts}
use Rattle.sv_instrument.specs.HeldUnit.{held_unit}
use Rattle.sv_instrument.specs.QueryResponse.{readings_text}
use Rattle.sv_instrument.specs.CommandEffect.{Performs, Replies, after_action, after_answering, after_configure, done, after_query, unless}
use Rattle.sv_instrument.specs.Step.{Does, IsStep, Starts, StepOf, after_interrupt, after_release}
use Rattle.sv_instrument.specs.Inside.Acted.{IsCountable}

-- The new log has at most so many acts more than the old one.
abbrev IsWithin : ℕ → List Act → List Act → Type 0
IsWithin most log new = length new ≤ length log + most

told_few : (fits : Bool) (text : List ℕ) (log : List Act)
    → IsWithin 2 log (if fits then Exchanged (Answered text) ∷ log else Reported QueryDeadlocked ∷ Exchanged AnswersDropped ∷ log)
told_few true text log = omega arith
told_few false text log = omega arith

answered_few : (text : List ℕ) (log : List Act) → IsWithin 2 log (after_answering text log)
answered_few text log = told_few (fits_response (answers (exchange_acts log)) text) text log

taken_few : (asked : Question) (log : List Act) → IsWithin 1 log (after_query asked log)
taken_few question.StandardEvents log = omega arith
taken_few _ log = omega arith

replies_few : (fault : Option Code) (asked : Question) (log new : List Act) → Replies fault asked log new → IsWithin 9 log new
replies_few (Some code) asked log new is = rw is (omega arith)
replies_few None asked log new (text, says, is) =
    let answers = answered_few text (done (after_query asked log)) in
    let takes = taken_few asked log in
    rw is (omega arith)

unless_few : (fault : Option Code) (acts log : List Act) → IsWithin 9 log acts → IsWithin 9 log (unless fault acts log)
unless_few None acts log few = few
unless_few (Some code) acts log few = omega arith

configured_few : (list : Option (List ℕ)) (log : List Act) → IsWithin 5 log (after_configure list log)
configured_few None log = omega arith
configured_few (Some channels) log = omega arith

acted_few : (done_so : Action) (log : List Act) → IsWithin 9 log (after_action done_so log)
acted_few action.Trigger log = unless_few _ (done (Scanned (scan.Trigger Bus) ∷ log)) log (omega arith)
acted_few action.Initiate log = unless_few _ (done (Scanned scan.Init ∷ log)) log (omega arith)
acted_few action.Read log = unless_few _ (Held Readings ∷ Scanned scan.Init ∷ Scanned scan.Abort ∷ log) log (omega arith)
acted_few _ log = omega arith

performs_few : (ordered : Order) (log new : List Act) → Performs ordered log new → IsWithin 9 log new
performs_few (order.Set given) log new is = rw is (unless_few _ (done (Scanned (scan.Configure given) ∷ log)) log (omega arith))
performs_few (order.Configure list) log new is = let few = configured_few list log in rw is (omega arith)
performs_few (order.Measure list) log new is = let few = configured_few list log in rw is (omega arith)
performs_few (order.Do given) log new is = rw is (acted_few given log)
performs_few (order.Ask asked) log new does = replies_few _ asked log new does
performs_few _ log new is = rw is (omega arith)

does_few : (outcome : Result Order Code) (log new : List Act) → Does outcome log new → IsWithin 9 log new
does_few (Ok ordered) log new does = performs_few ordered log new does
does_few (Err code) log new is = rw is (omega arith)

released_few : (awaited : Awaited) (log : List Act) → IsWithin 9 log (after_release awaited log)
released_few Nothing log = omega arith
released_few One log = let few = answered_few (codes "1") (done log) in omega arith
released_few Readings log = let few = answered_few (readings_text (readings (effective_acts log))) (done log) in omega arith

starts_few : (unit : List ℕ) (log new : List Act) → Starts unit log new → IsWithin 9 log new
starts_few unit log new (path, behind, outcome, front, read, does) = does_few outcome log new does

step_few : (awaited : Option Awaited) (next : Due) (log new : List Act) → StepOf awaited next log new → IsCountable log new
step_few (Some awaited) next log new (idle, is) = let few = released_few awaited log in rw is (omega arith)
step_few None NothingDue log new none = absurd none
step_few None OverrunDue log new is = rw is (omega arith)
step_few None InterruptDue log new (unit, is, starts) = let few = starts_few unit (after_interrupt log) new starts in omega arith
step_few None (UnitDue unit) log new starts = let few = starts_few unit log new starts in omega arith
step_few None FinishDue log new is = rw is (omega arith)

pub step_countable : (log new : List Act) → IsStep log new → IsCountable log new
step_countable log new = step_few (held_unit log) (due (exchange_acts log)) log new
