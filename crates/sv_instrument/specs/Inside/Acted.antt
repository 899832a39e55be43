-- What the parts of a step do to the instrument's layers and to its log.
use Rattle.std.specs.Prelude.{◌≡◌, ℕ, ◌+◌, ◌*◌, ◌<◌, ◌≤◌, min, Bool, true, false, List, length, Option, Some, Result}
use Rattle.sv_errors.specs.declared.code.Code.{Code}
use Rattle.sv_exchange.specs.Exchange.{units_done, current, message, next_unit}
use Rattle.sv_exchange.specs.Contents.{exchange_measure}
use Rattle.sv_instrument.specs.declared.command.order.Order.{Order}
use Rattle.sv_instrument.specs.Command.Unit.{IsReadAs}
use Rattle.sv_layers.specs.declared.change.Awaited.{Awaited}
use Rattle.sv_layers.specs.Act.{Act, exchange_acts}
use Rattle.sv_layers.specs.Inside.Representation.{LayerState, StandsFor as Layers, max_count}
use Rattle.sv_instrument.specs.HeldUnit.{held_unit}
use Rattle.sv_instrument.specs.Path.{IsPath, units_begun}
use Rattle.sv_instrument.specs.RequestCount.{Raises}
use Rattle.sv_instrument.specs.Step.{Does, Starts, IsStep}
use Rattle.sv_instrument.specs.Looking.{IsNoneDue}
use Rattle.sv_instrument.specs.Representation.{Kept, StandsFor, one_if_unheld, instrument_measure, IsHeldRight}

-- The layers stand for the log. The counter `requests` in `layers` is the number of requests for
-- service that were raised since the log `start`, or 255 if more were raised.
pub record Counts (start : List Act) (layers : LayerState) (log : List Act) : Type 0 where
  pub stands : Layers layers log
  pub raised : ℕ
  pub raises : Raises start log raised
  pub count : layers.requests ≡ min raised max_count

-- At most 255 acts came since the log `start`. Each raises at most one request for service, so the
-- layers' counter, which stops at 255, counts all these requests.
abbrev pub IsCountable : List Act → List Act → Type 0
IsCountable start log = length log ≤ length start + max_count

-- The state of the instrument stands for the log, and its layers count the requests for service
-- that were raised since the log `start`.
pub record Runs (start : List Act) (kept : Kept) (log : List Act) : Type 0 where
  pub layers : Counts start kept.layers log
  pub held : kept.held ≡ held_unit log
  pub path : IsPath log kept.path

-- No act of message exchange came between `log` and `new`.
abbrev pub IsApart : List Act → List Act → Type 0
IsApart log new = exchange_acts new ≡ exchange_acts log

-- The current program message is the same in `log` and in `new`. If n units of this message are
-- done in `log`, then n + 1 of its units have begun in `new`.
pub record BeginsOne (log new : List Act) : Type 0 where
  pub message : message (exchange_acts new) ≡ message (exchange_acts log)
  pub begun : units_begun new ≡ units_done (current (exchange_acts log)) + 1

-- A unit began, and its acts led from `log` to a log `new` for which `Makes` holds. The counter in
-- `layers` has the number of requests for service that were raised since the log `start`. If the
-- unit has to wait for the end of the measurement, `awaited` is what the unit will answer then;
-- else `awaited` is `None`.
pub record Behaves (Makes : List Act → Type 0) (start : List Act) (layers : LayerState) (awaited : Option Awaited) (log : List Act)
    : Type 0 where
  pub new : List Act
  pub makes : Makes new
  pub counts : Counts start layers new
  pub held : awaited ≡ held_unit new
  pub begins : BeginsOne log new

-- The unit is read relative to the path `front`. The unit's acts lead from `log` to `new`, and
-- `behind` is the path for the next unit.
abbrev pub Follows : List ℕ → List (List ℕ) → List (List ℕ) → List Act → List Act → Type 0
Follows unit front behind log new = (outcome : Result Order Code) × IsReadAs front unit outcome behind × Does outcome log new

-- The number that measures how many steps of the instrument remain is smaller than before. If a
-- unit is held, this unit is the one that is due in message exchange.
pub record Advances (before after : LayerState) (held_unit : Option Awaited) : Type 0 where
  pub less : 2 * exchange_measure after.exchange + one_if_unheld held_unit < 2 * exchange_measure before.exchange + 1
  pub right : IsHeldRight held_unit after

-- The unit that is next in `log` started, and the state of the instrument stands for the log after
-- this start.
pub record StartsUnit (start log : List Act) (kept : Kept) : Type 0 where
  pub unit : List ℕ
  pub new : List Act
  pub next : next_unit (exchange_acts log) ≡ Some unit
  pub starts : Starts unit log new
  pub runs : Runs start kept new

-- For `true`: the instrument took the step that was due, and the number that measures how many
-- steps remain is smaller than before. For `false`: no step is due, and the state is unchanged.
abbrev pub Steps : Bool → Kept → Kept → Type 0
Steps true before after = ((log : List Act) → StandsFor before log → (new : List Act) × IsStep log new × Runs log after new)
    × (instrument_measure after < instrument_measure before)
Steps false before after = ((log : List Act) → StandsFor before log → (new : List Act) → IsStep log new → ⊥)
    × ((log : List Act) → StandsFor before log → IsNoneDue log) × (after ≡ before)
