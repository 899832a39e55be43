-- A sweep of a driver: the steps of the sweep, and their order; and runs of sweeps.
use Rattle.std.specs.Prelude.{◌≡◌, ℕ, ◌+◌, ◌<◌, ◌≤◌, ◌==◌, Bool, true, false, List, [], ◌∷◌, Result, Ok, Err, ⊤, if◌then◌else◌}
use Rattle.sv_history.specs.declared.event.Config.{Config}
use Rattle.sv_history.specs.declared.event.Did.{Did}
use Rattle.sv_history.specs.declared.event.Port.TheVariants.{Conn, Intr}
use Rattle.sv_history.specs.declared.event.Refused.{Refused}
use Rattle.sv_history.specs.declared.event.Role.TheVariants.{Core, Abort, Portmap}
use Rattle.sv_history.specs.Event.{PlainEvent, Tick}
use Rattle.sv_replay.specs.Entry.{stimulus_event, IsAccepted}
use Rattle.sv_replay.specs.declared.entry.Entry.{Entry}
use Rattle.sv_replay.specs.declared.entry.Stimulus.{Stimulus}
use Rattle.sv_serve.specs.Heard.{Heard}
use Rattle.sv_serve.specs.DriverView.{DriverState, DriverView, Steps, ◌then◌, ForEach}
use Rattle.sv_serve.specs.Steps.{Given, IsApplied, Accepts, ReadsFrom, Turns, Dials, WritesTo, Ends}

-- The server is given an event, and applies or refuses it.
abbrev pub Applies : {W : Type 0} → PlainEvent → Config → DriverView W → DriverView W → Type 0
Applies event config before after = (result : Result Did Refused) × Given event result config before after

-- The scenario's next entry is due, and is applied to the server.
abbrev pub PlaysOne : {W : Type 0} → Config → DriverView W → DriverView W → Type 0
PlaysOne config before after = (entry : Entry) × (others : List Entry) × (between : DriverView _) × (before.ahead ≡ entry ∷ others)
    × (entry.tick ≤ before.ticks) × Applies (stimulus_event entry.stimulus) config before between
    × (after ≡ record between { ahead = others })

-- When the driver has counted `ticks` milliseconds, the first of these entries of the scenario
-- isn't due yet, or there is no entry.
abbrev pub IsNoneDue : ℕ → List Entry → Type 0
IsNoneDue ticks [] = ⊤
IsNoneDue ticks (entry ∷ entries) = ticks < entry.tick

-- If the flag is true, the scenario's next entry is due and is applied. If the flag is false, no
-- entry is due.
abbrev pub PlaysIf : {W : Type 0} → Bool → Config → DriverView W → DriverView W → Type 0
PlaysIf true config before after = PlaysOne config before after
PlaysIf false config before after = (after ≡ before) × IsNoneDue after.ticks after.ahead

-- All entries of the scenario that are due are applied.
abbrev pub Plays : {W : Type 0} → Config → DriverView W → DriverView W → Type 0
Plays config before after = (n : ℕ) × ForEach n (λ i. PlaysOne) config before after × IsNoneDue after.ticks after.ahead

-- the highest number of milliseconds that a driver can count
abbrev pub most_ticks : ℕ
most_ticks = 18446744073709551615

-- The driver counts one more millisecond, unless the Tick was refused.
abbrev pub Counts : {W : Type 0} → Result Did Refused → Config → DriverView W → DriverView W → Type 0
Counts (Ok did) config before after =
    after ≡ record before { ticks = (if before.ticks == most_ticks then before.ticks else before.ticks + 1) }
Counts (Err refused) config before after = after ≡ before

-- A millisecond passes.
abbrev pub TicksOnce : {W : Type 0} → Config → DriverView W → DriverView W → Type 0
TicksOnce config before after = (result : Result Did Refused) × (Given Tick result then Counts result) config before after

-- This many milliseconds pass. The scenario's entries that are due are applied before each
-- millisecond, and after the last one.
abbrev pub Passes : {W : Type 0} → ℕ → Config → DriverView W → DriverView W → Type 0
Passes ticks = ForEach ticks (λ i. Plays then TicksOnce) then Plays

-- The scenario's entries that are due are applied, and then a stimulus that was handed in.
abbrev pub Stimulates : {W : Type 0} → Stimulus → Config → DriverView W → DriverView W → Type 0
Stimulates stimulus = Plays then IsApplied (stimulus_event stimulus)

-- A sweep, in this order: on each of the three listening ports a connection is accepted; each
-- connection is read; one call of each connection is taken; the peers of interrupt channels are
-- dialed; time passes; the bytes that wait are written, first those of connections, then those of
-- interrupt channels; connections at fault are closed.
abbrev pub Sweeps : {W : Type 0} → (W → Heard → W → Type 0) → ℕ → Config → DriverView W → DriverView W → Type 0
Sweeps hears ticks = Accepts hears Core then Accepts hears Abort then Accepts hears Portmap then ForEach 16 (ReadsFrom hears)
    then ForEach 16 Turns then ForEach 16 (Dials hears) then Passes ticks then ForEach 16 (λ c. WritesTo hears (Conn c))
    then ForEach 16 (λ c. WritesTo hears (Intr c)) then ForEach 16 (Ends hears)

-- What is handed to a driver: a number of milliseconds, which pass in a sweep; or a stimulus,
-- between two sweeps.
pub data Handed : Type 0 where
  Passing : (ticks : ℕ) → Handed
  Stimulated : (stimulus : Stimulus) → Handed

-- A run of sweeps, with stimuli between them, leads from one state of the driver to another. The
-- list has what was handed to the driver, the newest first: for each sweep the number of
-- milliseconds that pass in it; and the stimuli, which the server accepts.
abbrev pub Swept : {W J : Type 0} → (W → Heard → W → Type 0) → (J → List PlainEvent → J → Type 0) → List Handed → DriverState W J
    → DriverState W J → Type 0
Swept hears notes [] start now = now ≡ start
Swept hears notes (Passing ticks ∷ handed) start now = (between : DriverState _ _) × Swept hears notes handed start between × Steps notes
    (Sweeps hears ticks) between now
Swept hears notes (Stimulated stimulus ∷ handed) start now = (between : DriverState _ _) × Swept hears notes handed start between
    × IsAccepted stimulus
    × Steps notes (Stimulates stimulus) between now
