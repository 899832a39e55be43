-- What a step of a driver requires of the driver's state when the step begins.
use Rattle.std.specs.Prelude.{◌≡◌, ℕ, ◌<◌, Bool, true, List, length, Some, Result, Err}
use Rattle.sv_links.specs.Channels.{ChannelAct}
use Rattle.sv_history.specs.declared.event.Config.{Config}
use Rattle.sv_history.specs.declared.event.Dial.{Dial}
use Rattle.sv_history.specs.declared.event.Did.{Did}
use Rattle.sv_history.specs.declared.event.Port.{Port}
use Rattle.sv_history.specs.declared.event.Refused.{Refused}
use Rattle.sv_history.specs.declared.event.Refused.TheVariants.{NoMemory}
use Rattle.sv_history.specs.Event.{PlainEvent, Turn}
use Rattle.sv_history.specs.Act.{Act, device_acts}
use Rattle.sv_history.specs.Requests.{HearsOf}
use Rattle.sv_history.specs.History.{IsLogOf, Answers}
use Rattle.sv_laws.specs.Laws.{Suits}
use Rattle.sv_serve.specs.declared.wire.Answer.{Answer}
use Rattle.sv_serve.specs.Heard.{IsWithin}
use Rattle.sv_serve.specs.DriverView.{DriverState, DriverView, driver_view, Stands}
use Rattle.sv_serve.specs.Asked.{Wants, Waits}

-- The driver takes this step, if `IsSo` holds of the driver's state when the step begins.
abbrev pub From : {W J : Type 0} → (J → List PlainEvent → J → Type 0) → (Config → DriverView W → Type 0)
    → (Config → DriverView W → DriverView W → Type 0) → DriverState W J → DriverState W J → Type 0
From {J = J} notes IsSo step old new = (first : J) (config : Config) (history : List PlainEvent) → Stands (notes first) old config history
    → IsSo config (driver_view old history)
    → (after : List PlainEvent) × Stands (notes first) new config after × step config (driver_view old history) (driver_view new after)

-- The answers of the server's queries allow this event at this moment (`Suits`).
abbrev pub IsSuited : {W : Type 0} → PlainEvent → Config → DriverView W → Type 0
IsSuited event config at = (log : List Act) × (channel_log : List ChannelAct) × IsLogOf config at.history log
    × HearsOf (device_acts log) channel_log
    × Suits event channel_log log

-- A create_intr_chan of a connection is suspended, so that its interrupt channel has to be
-- connected.
abbrev pub IsAwaited : {W : Type 0} → ℕ → Config → DriverView W → Type 0
IsAwaited c config at = (dial : Dial) × Wants c config at (Some dial)

-- At least one byte waited to be sent on a port, and the wire took no more bytes than the number
-- that waited.
abbrev pub Handed : {W : Type 0} → Port → Answer ℕ → Config → DriverView W → Type 0
Handed port answer config at = (bytes : List ℕ) × Waits port config at bytes × (0 < length bytes) × IsWithin answer (length bytes)

-- There was a call to take on a connection, and memory for this call was refused.
abbrev pub FoundNone : {W : Type 0} → ℕ → Config → DriverView W → Type 0
FoundNone c config at = (log : List Act) × IsLogOf config at.history log × Answers config (Turn c) log (Err NoMemory)

-- If the server's answer to a Turn is that memory was refused, there was a call to take, and memory
-- for this call was refused.
abbrev pub MayFindNone : {W : Type 0} → ℕ → Result Did Refused → Config → DriverView W → Type 0
MayFindNone c answer config at = answer ≡ Err NoMemory → FoundNone c config at

-- If `so` is true, there was a call to take, and memory for this call was refused.
abbrev pub FindsNoneIf : {W : Type 0} → ℕ → Bool → Config → DriverView W → Type 0
FindsNoneIf c so config at = so ≡ true → FoundNone c config at
