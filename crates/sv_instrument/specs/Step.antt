-- The step of message exchange that is due (IEEE 488.2, 6.1.4 and 6.3): a held unit ends; the next
-- unit starts; an error is reported for a message that is too long; or a message that has ended is
-- finished.
use Rattle.std.specs.Prelude.{◌≡◌, ℕ, Bool, true, false, not, ◌&&◌, ◌||◌, List, ◌∷◌, Option, Some, None, Result, Ok, Err, codes}
use Rattle.sv_errors.specs.declared.code.Code.{Code}
use Rattle.sv_errors.specs.declared.code.Code.TheVariants.{InputBufferOverrun, QueryInterrupted}
use Rattle.sv_scan.specs.Scan.{readings}
use Rattle.sv_exchange.specs.Exchange.{Overran, Finished, Interrupted, Due, NothingDue, OverrunDue, InterruptDue, UnitDue, FinishDue, due, next_unit, response, is_something, has_ended}
use Rattle.sv_instrument.specs.declared.command.order.Order.{Order}
use Rattle.sv_instrument.specs.Command.Unit.{IsReadAs}
use Rattle.sv_layers.specs.declared.change.Awaited.{Awaited}
use Rattle.sv_layers.specs.declared.change.Awaited.TheVariants.{Nothing, One, Readings}
use Rattle.sv_layers.specs.Act.{Act, Exchanged, Reported, exchange_acts}
use Rattle.sv_layers.specs.Condition.{effective_acts, is_idle}
use Rattle.sv_instrument.specs.HeldUnit.{held_unit}
use Rattle.sv_instrument.specs.Path.{IsPath}
use Rattle.sv_instrument.specs.QueryResponse.{readings_text}
use Rattle.sv_instrument.specs.CommandEffect.{Performs, done, after_answering}

-- the log after the held unit ends: the unit is done, and its answer, if it has one, is added to
-- the answers of the message
abbrev pub after_release : Awaited → List Act → List Act
after_release Nothing log = done log
after_release One log = after_answering (codes "1") (done log)
after_release Readings log = after_answering (readings_text (readings (effective_acts log))) (done log)

-- The unit was read as an order, and the order is performed. Or the unit has an error, and the
-- error is reported.
abbrev pub Does : Result Order Code → List Act → List Act → Type 0
Does (Err code) log new = new ≡ done (Reported code ∷ log)
Does (Ok order) log new = Performs order log new

-- A unit starts: it is read relative to the path that the units before it leave.
abbrev pub Starts : List ℕ → List Act → List Act → Type 0
Starts unit log new = (path behind : List (List ℕ)) × (outcome : Result Order Code) × IsPath log path × IsReadAs path unit outcome behind
    × Does outcome log new

-- the log after a new message interrupted the response: the response is dropped, and -410 is
-- reported
abbrev pub after_interrupt : List Act → List Act
after_interrupt log = Reported QueryInterrupted ∷ Exchanged Interrupted ∷ log

-- The step that is due leads from `log` to `new`. Which step is due depends on whether a unit is
-- held, and on what is due in message exchange. A held unit ends only while no measurement is under
-- way.
abbrev pub StepOf : Option Awaited → Due → List Act → List Act → Type 0
StepOf (Some awaited) next log new = (is_idle log ≡ true) × (new ≡ after_release awaited log)
StepOf None NothingDue log new = ⊥
StepOf None OverrunDue log new = new ≡ Reported InputBufferOverrun ∷ Exchanged Overran ∷ log
StepOf None InterruptDue log new = (unit : List ℕ) × (next_unit (exchange_acts log) ≡ Some unit) × Starts unit (after_interrupt log) new
StepOf None (UnitDue unit) log new = Starts unit log new
StepOf None FinishDue log new = new ≡ Exchanged Finished ∷ log

-- The step that is due leads from `log` to `new`.
abbrev pub IsStep : List Act → List Act → Type 0
IsStep log new = StepOf (held_unit log) (due (exchange_acts log)) log new

-- whether a unit is held: it waits for the end of the measurement
abbrev pub is_held : Option Awaited → Bool
is_held None = false
is_held (Some awaited) = true

-- whether a read can be answered now: there is a response; or no response can come without another
-- write, so that the read fails at once
abbrev pub is_answerable : List Act → Bool
is_answerable log = is_something (response (exchange_acts log)) || (not (is_held (held_unit log)) && not (has_ended (exchange_acts log)))
