-- What each query of the server returns, recomputed from the history alone.
use Rattle.std.specs.Prelude.{◌≡◌, ◌≢◌, ◌↔◌, ℕ, suc, ◌≤◌, Bool, true, List, []}
use Rattle.sv_links.specs.Channels.{ChannelAct}
use Rattle.sv_history.specs.declared.event.Config.{Config}
use Rattle.sv_history.specs.declared.event.Port.{Port}
use Rattle.sv_history.specs.Event.{PlainEvent}
use Rattle.sv_history.specs.Act.{Act, of, device_acts}
use Rattle.sv_history.specs.Connection.{waiting_on}
use Rattle.sv_history.specs.Requests.{HearsOf}
use Rattle.sv_history.specs.History.{IsLogOf}

-- These bytes wait to be sent on a port after this history.
abbrev pub WaitOn : Port → Config → List PlainEvent → List ℕ → Type 0
WaitOn port config history bytes = (log : List Act) × (channel_log : List ChannelAct) × IsLogOf config history log
    × HearsOf (device_acts log) channel_log
    × (bytes ≡ waiting_on channel_log port log)

-- The result of a query is what `answer` returns for the log of the history.
abbrev pub Answered : {A : Type 0} → (List Act → A) → Config → List PlainEvent → A → Type 0
Answered answer config history result = (log : List Act) × IsLogOf config history log × (result ≡ answer log)

-- The result of a query is true exactly if `IsSuch` holds of the log of the history.
abbrev pub Decided : (List Act → Type 0) → Config → List PlainEvent → Bool → Type 0
Decided IsSuch config history result = (log : List Act) × IsLogOf config history log × ((result ≡ true) ↔ IsSuch log)

-- The log has no act of a connection with this number or a higher one.
abbrev pub IsUnused : ℕ → List Act → Type 0
IsUnused n log = (c : ℕ) → n ≤ c → of c log ≡ []

-- This is the lowest number such that the log has no act of a connection with this number or a
-- higher one.
abbrev pub IsUsed : ℕ → List Act → Type 0
IsUsed n log = IsUnused n log × ((c : ℕ) → n ≡ suc c → of c log ≢ [])
