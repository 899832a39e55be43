-- What private functions that tell steps leave behind.
use Rattle.std.specs.Prelude.{◌≡◌, ℕ, Bool, true, false, List, [], ◌++◌, Result, Ok, Err, None}
use Rattle.sv_history.specs.declared.event.Config.{Config}
use Rattle.sv_history.specs.declared.event.Did.{Did}
use Rattle.sv_history.specs.declared.event.Refused.{Refused}
use Rattle.sv_history.specs.Event.{PlainEvent, Turn, Refuse, Tick}
use Rattle.sv_history.specs.Act.{Act, device_acts}
use Rattle.sv_history.specs.PolledStatus.{IsPolled}
use Rattle.sv_history.specs.Settling.{Settles}
use Rattle.sv_history.specs.History.{own_acts, did}
use Rattle.sv_explain.specs.declared.shown.Shown.{Shown}
use Rattle.sv_explain.specs.Shown.{IsShown}
use Rattle.sv_explain.specs.Steps.{head_line}
use Rattle.sv_server.specs.Server.State.{State, Represents}
use Rattle.sv_server.specs.Server.Inside.Acting.{Acts, IsRefusal, Reaches, Settled}
use Rattle.sv_server.specs.Explain.Telling.{TellsIn, clock_at, taken_line}

-- If the steps after `mid` tell some text, the steps after `log` tell `text` and then this text.
abbrev pub ReachesBy : Config → List Act → Shown → List ℕ → List Act → Shown → Type 0
ReachesBy config log shown text mid next = (n : ℕ) (new : List Act) (rest : List ℕ) → TellsIn n config mid next rest new
    → (m : ℕ) × TellsIn m config log shown (text ++ rest) new

-- The server took some of the steps that were due, perhaps none; `text` tells them.
abbrev pub Goes : Config → List Act → Shown → Shown → List ℕ → State → Type 0
Goes config log shown next text new = (mid : List Act) × ReachesBy config log shown text mid next × Reaches config log mid
    × IsShown next mid × Represents new config mid

-- The server took all steps that were due; `text` tells them.
abbrev pub Ends : Config → List Act → Shown → List ℕ → State → Type 0
Ends config log shown text new = (last : List Act) × (n : ℕ) × TellsIn n config log shown text last × Settles config log last
    × Represents new config last

-- The server took steps up to one in which a call went on (true), or all steps that were due
-- (false).
abbrev pub TellsSome : Bool → Config → List Act → Shown → Shown → List ℕ → State → Type 0
TellsSome true config log shown next text new = Goes config log shown next text new
TellsSome false config log shown next text new = Ends config log shown text new

-- the lines of an event that are written before it is applied; none of a Tick
abbrev pub lines_before : ℕ → Config → PlainEvent → List Act → List ℕ
lines_before line config Tick log = []
lines_before line config (Turn c) log = head_line line (clock_at config log) ++ taken_line (Turn c) log
lines_before line config (Refuse c) log = head_line line (clock_at config log) ++ taken_line (Refuse c) log
lines_before line config _ log = head_line line (clock_at config log)

-- the line of a Tick, which is written after it
abbrev pub tick_line : ℕ → ℕ → PlainEvent → List ℕ
tick_line line clock Tick = head_line line clock
tick_line line clock _ = []

-- The event was applied, and all steps that were due after it are taken; or it was refused, and the
-- server is as it was.
abbrev pub IsActed : Config → PlainEvent → List Act → Result Did Refused → State → State → Type 0
IsActed config event log (Ok what) old new = IsRefusal config event log None × (what ≡ did event log)
    × ((polled : ℕ) → IsPolled polled (device_acts log) → Settled config (own_acts config polled event log ++ log) new)
IsActed config event log (Err refused) old new = Acts config event log (Err refused) old × (new ≡ old)
