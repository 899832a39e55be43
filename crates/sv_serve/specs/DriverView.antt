-- The state of a driver at a moment, and steps from one moment to another.
use Rattle.std.specs.Prelude.{◌≡◌, ℕ, zero, suc, List, Option}
use Rattle.sv_history.specs.declared.event.Config.{Config}
use Rattle.sv_history.specs.declared.event.Dial.{Dial}
use Rattle.sv_history.specs.Event.{PlainEvent}
use Rattle.sv_server.specs.Server.State.{State, StandsFor}
use Rattle.sv_replay.specs.declared.entry.Entry.{Entry}

-- The state of a driver: its server; its wire; for each connection, which peer the driver dialed
-- for the interrupt channel; the entries of the scenario that weren't applied yet; how many
-- milliseconds have passed; and its journal.
pub record DriverState (W J : Type 0) : Type 0 where
  pub server : State
  pub wire : W
  pub dials : List (Option Dial)
  pub ahead : List Entry
  pub ticks : ℕ
  pub journal : J

-- The state of a driver, with the server's history in place of the server.
pub record DriverView (W : Type 0) : Type 0 where
  pub wire : W
  pub history : List PlainEvent
  pub dials : List (Option Dial)
  pub ahead : List Entry
  pub ticks : ℕ

-- the state of a driver, with this history in place of the server
abbrev pub driver_view : {W J : Type 0} → DriverState W J → List PlainEvent → DriverView W
driver_view driving history =
    record { wire = driving.wire; history = history; dials = driving.dials; ahead = driving.ahead; ticks = driving.ticks }

-- the step that changes nothing
abbrev pub Unchanged : {W : Type 0} → Config → DriverView W → DriverView W → Type 0
Unchanged config before after = after ≡ before

-- the step that consists of one step and then a second one
infixr 10 ◌then◌
abbrev pub ◌then◌ : {W : Type 0} → (Config → DriverView W → DriverView W → Type 0) → (Config → DriverView W → DriverView W → Type 0)
    → Config → DriverView W → DriverView W → Type 0
(first then next) config before after = (between : DriverView _) × first config before between × next config between after

-- the step that consists of n steps: one for each number below n, in rising order of the numbers
abbrev pub ForEach : {W : Type 0} → ℕ → (ℕ → Config → DriverView W → DriverView W → Type 0) → Config → DriverView W → DriverView W → Type 0
ForEach zero step config before after = after ≡ before
ForEach (suc n) step config before after = (between : DriverView _) × ForEach n step config before between × step n config between after

-- The driver's server stands for this history, and its journal holds this history.
abbrev pub Stands : {W J : Type 0} → (List PlainEvent → J → Type 0) → DriverState W J → Config → List PlainEvent → Type 0
Stands holds driver config history = StandsFor driver.server config history × holds history driver.journal

-- The driver takes this step, whatever history its server had before.
abbrev pub Steps : {W J : Type 0} → (J → List PlainEvent → J → Type 0) → (Config → DriverView W → DriverView W → Type 0) → DriverState W J
    → DriverState W J → Type 0
Steps {J = J} notes step old new = (first : J) (config : Config) (history : List PlainEvent) → Stands (notes first) old config history
    → (after : List PlainEvent) × Stands (notes first) new config after × step config (driver_view old history) (driver_view new after)
