-- The outcome of a call of the core channel: the call is answered, or suspended.
use Rattle.std.specs.Prelude.{List, [], ◌∷◌, Option, Some, None}
use Rattle.sv_vxi.specs.Results.{Outcome}
use Rattle.sv_links.specs.Waiting.{WaitAct}
use Rattle.sv_history.specs.Act.{DeviceAct, Waited}

-- the acts of the device that the call adds to the log, the newest first; and the result of the
-- call, `None` if the call is suspended
pub record CallOutcome : Type 0 where
  pub adds : List DeviceAct
  pub result : Option Outcome

-- the outcome of a call that adds these acts, and is answered with this result
abbrev pub answer_with : List DeviceAct → Outcome → CallOutcome
answer_with adds result = record { adds = adds; result = Some result }

-- the outcome of a call that adds no act, and is answered with this result
abbrev pub only : Outcome → CallOutcome
only result = answer_with [] result

-- the outcome of a call that is suspended by this act
abbrev pub suspend_by : WaitAct → CallOutcome
suspend_by act = record { adds = Waited act ∷ []; result = None }
