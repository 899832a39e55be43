-- How long a server may sleep.
use Rattle.std.specs.Prelude.{◌≡◌, ◌⊎◌, ℕ, ◌-◌, ◌*◌, ◌/◌, ◌<◌, ◌≤◌, true, false, List, [], Option, Some, None}
use Rattle.std.specs.Duration.{as_nanos}
use Rattle.std.specs.declared.time.Duration.{Duration}
use Rattle.sv_history.specs.declared.event.Config.{Config}
use Rattle.sv_history.specs.Event.{PlainEvent}
use Rattle.sv_server.specs.Server.State.{StandsFor}
use Rattle.sv_serve.specs.Asked.{IsReady}
use Rattle.sv_serve.specs.DriverView.{DriverState, driver_view}
use Rattle.sv_serve.specs.Still.{StaysStill}

-- No connection has a call to take, for any history that the server stands for.
abbrev pub NoneReady : {W J : Type 0} → DriverState W J → Type 0
NoneReady driving = (config : Config) (history : List PlainEvent) → StandsFor driving.server config history
    → (c : ℕ) → IsReady c config (driver_view driving history) false

-- No connection has a call to take, and nothing becomes due within `most` milliseconds.
abbrev pub IsIdle : {W J : Type 0} → ℕ → DriverState W J → Type 0
IsIdle most driving = NoneReady driving × ((config : Config) (history : List PlainEvent) → StandsFor driving.server config history
    → StaysStill most config (driver_view driving history) true)

-- how many nanoseconds remain until a certain time: `ticks` milliseconds after the start of the
-- millisecond in which the last sweep began
abbrev pub left_until : ℕ → ℕ → ℕ → ℕ
left_until ticks swept now = ticks * 1000000 - (now - swept / 1000000 * 1000000)

-- How long the server is allowed to sleep when `left` sweeps remain. The server is idle for some
-- milliseconds to come if no connection has a call to take, and nothing becomes due within these
-- milliseconds. The server may sleep without a limit only if more than 1,000,000 sweeps remain, the
-- scenario has no more entries, and the server is idle for the next 4294967295 milliseconds, the
-- longest timeout (32 bits: VXI-11 revision 1.0, B.4.4). If it is idle for the next 100
-- milliseconds, it may sleep at most until 100 milliseconds after the start of the millisecond in
-- which the last sweep began. Else it may sleep at most until the end of the millisecond in which
-- the last sweep began.
abbrev pub MaySleep : {W J : Type 0} → ℕ → ℕ → ℕ → Option Duration → DriverState W J → Type 0
MaySleep left swept now None driving = (1000000 < left) × (driving.ahead ≡ []) × IsIdle 4294967295 driving
MaySleep left swept now (Some limit) driving =
    (as_nanos limit ≤ left_until 1 swept now) ⊎ ((as_nanos limit ≤ left_until 100 swept now) × IsIdle 100 driving)
