-- The state of the instrument, and when it stands for a log.
use Rattle.std.specs.Prelude.{◌≡◌, ℕ, ◌+◌, ◌*◌, ⊤, List, Option, Some, None}
use Rattle.sv_scan.specs.declared.setting.State.{State}
use Rattle.sv_scan.specs.declared.setting.State.TheVariants.{Idle, Waiting, Scanning}
use Rattle.sv_exchange.specs.Contents.{IsUnitDue, next_of, exchange_measure}
use Rattle.sv_layers.specs.declared.change.Awaited.{Awaited}
use Rattle.sv_layers.specs.Act.{Act}
use Rattle.sv_layers.specs.Inside.Representation.{LayerState, AllRead as Layers, state_by}
use Rattle.sv_instrument.specs.HeldUnit.{held_unit}
use Rattle.sv_instrument.specs.Path.{IsPath}
use Rattle.sv_instrument.specs.RequestCount.{Raises}

-- the state of the instrument: its layers; what the held unit will answer, or `None` if no unit is
-- held; and the path for the next header
pub record Kept : Type 0 where
  pub layers : LayerState
  pub held : Option Awaited
  pub path : List (List ℕ)

-- The state of the instrument stands for the log.
pub record StandsFor (kept : Kept) (log : List Act) : Type 0 where
  pub layers : Layers kept.layers log
  pub held : kept.held ≡ held_unit log
  pub path : IsPath log kept.path

-- The state of the instrument stands for the log `new`, and `count` requests for service were
-- raised since `log`.
pub record Ran (kept : Kept) (count : ℕ) (log new : List Act) : Type 0 where
  pub stands : StandsFor kept new
  pub raises : Raises log new count

-- For `Some count`: the instrument took the step that was due (`IsNext` says which), and this step
-- raised `count` requests for service. For `None`: no step is due.
abbrev pub Takes : (List Act → List Act → Type 0) → Kept → Option ℕ → List Act → Type 0
Takes IsNext kept None log = (new : List Act) → IsNext log new → ⊥
Takes IsNext kept (Some count) log = (new : List Act) × IsNext log new × Ran kept count log new

-- 1 if no unit is held, so that the next unit can start; else 0
abbrev pub one_if_unheld : Option Awaited → ℕ
one_if_unheld None = 1
one_if_unheld (Some awaited) = 0

-- 1 if the scanner waits for a trigger, else 0
abbrev pub waits : State → ℕ
waits Waiting = 1
waits Idle = 0
waits Scanning = 0

-- a number that measures how many steps of the instrument remain. Each step and each immediate
-- trigger makes this number smaller. So a loop that takes all steps that are due comes to an end.
abbrev pub instrument_measure : Kept → ℕ
instrument_measure kept = 2 * (2 * exchange_measure kept.layers.exchange + one_if_unheld kept.held)
    + waits (state_by kept.layers)

-- If a unit is held, this unit is the one that is due in message exchange.
abbrev pub IsHeldRight : Option Awaited → LayerState → Type 0
IsHeldRight None layers = ⊤
IsHeldRight (Some awaited) layers = IsUnitDue (next_of layers.exchange)
