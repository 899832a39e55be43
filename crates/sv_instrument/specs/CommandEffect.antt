-- The acts that an order adds to the log (IEEE 488.2, chapter 10; SCPI-1999, volume 2): first those
-- of its effect; then the end of its unit; then its answer, if it has one. An order that can't be
-- performed in the present state reports an error and has no other effect.
use Rattle.std.specs.Prelude.{◌≡◌, ℕ, List, ◌∷◌, Option, Some, None, pos, if◌then◌else◌}
use Rattle.sv_errors.specs.declared.code.Code.{Code}
use Rattle.sv_errors.specs.declared.code.Code.TheVariants.{QueryDeadlocked, DataCorruptOrStale}
use Rattle.sv_errors.specs.declared.source.Source.TheVariants.{Immediate, Bus}
use Rattle.sv_scan.specs.declared.acts.ScanAct.TheVariants as scan
use Rattle.sv_scan.specs.declared.setting.Setting.TheVariants as setting
use Rattle.sv_scan.specs.Counted.{setting_fault, init_fault, trigger_fault, read_fault}
use Rattle.sv_scan.specs.Scan.{is_complete}
use Rattle.sv_exchange.specs.Exchange.{UnitDone, Answered, AnswersDropped, answers, fits_response}
use Rattle.sv_header.specs.declared.command.Action.{Action}
use Rattle.sv_header.specs.declared.command.Action.TheVariants as action
use Rattle.sv_header.specs.declared.command.Question.{Question}
use Rattle.sv_header.specs.declared.command.Question.TheVariants as question
use Rattle.sv_instrument.specs.declared.command.order.Order.{Order}
use Rattle.sv_instrument.specs.declared.command.order.Order.TheVariants as order
use Rattle.sv_layers.specs.declared.change.Awaited.TheVariants as awaited
use Rattle.sv_layers.specs.declared.change.RegisterChange.TheVariants.{ReadEvents}
use Rattle.sv_layers.specs.declared.change.StatusChange.TheVariants as status
use Rattle.sv_layers.specs.Act.{Act, Exchanged, Scanned, Held, Reported, EntryTaken, Cleared, Preset, OpcAsked, StatusChanged, exchange_acts}
use Rattle.sv_layers.specs.Condition.{effective_acts}
use Rattle.sv_instrument.specs.QueryResponse.{Says}

-- the log after the unit is done
abbrev pub done : List Act → List Act
done log = Exchanged UnitDone ∷ log

-- if the answer fits, the log after it is added to the answers of the message; else the log after
-- all answers of the message are dropped and -430 is reported
abbrev pub after_answering : List ℕ → List Act → List Act
after_answering text log =
    if fits_response (answers (exchange_acts log)) text then Exchanged (Answered text) ∷ log
    else Reported QueryDeadlocked ∷ Exchanged AnswersDropped ∷ log

-- with an error: the log after this error is reported and the unit is done; without an error:
-- `acts`, the log after the order is performed
abbrev pub unless : Option Code → List Act → List Act → List Act
unless (Some code) acts log = done (Reported code ∷ log)
unless None acts log = acts

-- the log after the scan list is set, if one is given
abbrev pub set_list : Option (List ℕ) → List Act → List Act
set_list None log = log
set_list (Some channels) log = Scanned (scan.Configure (setting.List channels)) ∷ log

-- the log after a measurement is configured: the previous measurement is aborted; range (10 V),
-- source of triggers (immediate) and number of scans (1) get their defaults; then the scan list is
-- set, if one is given
abbrev pub after_configure : Option (List ℕ) → List Act → List Act
after_configure list log = set_list list
    (Scanned (scan.Configure (setting.Count 1)) ∷ Scanned (scan.Configure (setting.Source Immediate))
    ∷ Scanned (scan.Configure (setting.Range (pos 10000000))) ∷ Scanned scan.Abort ∷ log)

-- the log after a query's effect: a query that removes an entry of the error queue or clears a
-- register adds an act; every other query adds none
abbrev pub after_query : Question → List Act → List Act
after_query question.StandardEvents log = StatusChanged status.ReadStandard ∷ log
after_query question.Error log = EntryTaken ∷ log
after_query (question.Events name) log = StatusChanged (status.Register name ReadEvents) ∷ log
after_query asked log = log

-- the error of a query that can't be answered: -230 if the query fetches the readings, and the
-- measurement isn't complete, was aborted or doesn't exist. `None` if the query can be answered.
abbrev pub question_fault : Question → List Act → Option Code
question_fault question.Readings log = if is_complete (effective_acts log) then None else Some DataCorruptOrStale
question_fault asked log = None

-- The query can't be answered (`Some`): its error is reported, and the unit is done without an
-- answer. Or the query is answered (`None`): if it removes an entry of the error queue or clears a
-- register, this happens before its answer is added.
abbrev pub Replies : Option Code → Question → List Act → List Act → Type 0
Replies (Some code) asked log new = new ≡ done (Reported code ∷ log)
Replies None asked log new = (text : List ℕ) × Says asked log text × (new ≡ after_answering text (done (after_query asked log)))

-- the log after a command without a parameter, or after a query whose answer might have to wait
abbrev pub after_action : Action → List Act → List Act
after_action action.ClearStatus log = done (Cleared ∷ log)
after_action action.Reset log = done (Scanned scan.Reset ∷ log)
after_action action.TellComplete log = done (OpcAsked ∷ log)
after_action action.Wait log = Held awaited.Nothing ∷ log
after_action action.WaitAndTell log = Held awaited.One ∷ log
after_action action.Trigger log = unless (trigger_fault (effective_acts log) Bus) (done (Scanned (scan.Trigger Bus) ∷ log)) log
after_action action.Preset log = done (Preset ∷ log)
after_action action.Initiate log = unless (init_fault (effective_acts log)) (done (Scanned scan.Init ∷ log)) log
after_action action.Abort log = done (Scanned scan.Abort ∷ log)
after_action action.Read log = unless (read_fault (effective_acts log))
    (Held awaited.Readings ∷ Scanned scan.Init ∷ Scanned scan.Abort ∷ log) log

-- Performing the order leads from `log` to `new`.
abbrev pub Performs : Order → List Act → List Act → Type 0
Performs (order.Do action) log new = new ≡ after_action action log
Performs (order.Ask asked) log new = Replies (question_fault asked log) asked log new
Performs (order.Apply change) log new = new ≡ done (StatusChanged change ∷ log)
Performs (order.Set given) log new = new
    ≡ unless (setting_fault (effective_acts log) given) (done (Scanned (scan.Configure given) ∷ log)) log
Performs (order.Configure list) log new = new ≡ done (after_configure list log)
Performs (order.Measure list) log new = new ≡ Held awaited.Readings ∷ Scanned scan.Init ∷ after_configure list log
