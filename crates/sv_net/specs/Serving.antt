-- What a loop of sweeps does: it makes sweeps, and waits and hands in stimuli between them. A list
-- of a loop's actions has the newest action first.
use Rattle.std.specs.Prelude.{◌≡◌, ◌⊎◌, ℕ, ◌+◌, ◌-◌, ◌/◌, ◌<◌, ◌≤◌, min, Bool, true, false, List, [], ◌∷◌, Option, Some, None}
use Rattle.std.specs.declared.time.Duration.{Duration}
use Rattle.sv_logs.specs.Since.{last_given}
use Rattle.sv_history.specs.Event.{PlainEvent}
use Rattle.sv_replay.specs.Entry.{IsAccepted}
use Rattle.sv_replay.specs.declared.entry.Stimulus.{Stimulus}
use Rattle.sv_serve.specs.Sweep.{Swept, Sweeps, Stimulates, Handed, Passing, Stimulated}
use Rattle.sv_serve.specs.Heard.{Heard}
use Rattle.sv_serve.specs.DriverView.{DriverState, Steps}
use Rattle.sv_net.specs.Sleep.{MaySleep}

-- An action of a loop: a sweep; a wait for reports about sockets; the passing of these reports to
-- the wire (`Told`); or a question for a stimulus (`Asked`), which is handed to the driver if there
-- is one. A wait has its limit, whether reports came, and when the wait ended, in nanoseconds since
-- the beginning. A `Told` has the state in which the wire gets the reports.
pub data Doing (W : Type 0) : Type 0 where
  MadeSweep : Doing W
  Waited : (limit : Option Duration) (reported : Bool) (ended : ℕ) → Doing W
  Told : (wire : W) → Doing W
  Asked : (answer : Option Stimulus) → Doing W

-- when the last wait ended, in nanoseconds since the beginning; 0 before the first wait
abbrev pub time_of : {W : Type 0} → List (Doing W) → ℕ
time_of = last_given (elim [ Waited limit reported ended ↦ Some ended | _ ↦ None ]) 0

-- when the last sweep began, in nanoseconds since the beginning; 0 before the first sweep
abbrev pub swept_at : {W : Type 0} → List (Doing W) → ℕ
swept_at [] = 0
swept_at (MadeSweep ∷ doings) = time_of doings
swept_at (_ ∷ doings) = swept_at doings

-- how many milliseconds pass between two times that are given in nanoseconds: each time is rounded
-- down to a whole millisecond, and the result is at most 1,000
abbrev pub ticks_between : ℕ → ℕ → ℕ
ticks_between before now = min (now / 1000000 - before / 1000000) 1000

-- how many sweeps these actions have
abbrev pub sweeps_in : {W : Type 0} → List (Doing W) → ℕ
sweeps_in [] = 0
sweeps_in (MadeSweep ∷ doings) = sweeps_in doings + 1
sweeps_in (_ ∷ doings) = sweeps_in doings

-- what is handed to the driver: each stimulus; and for each sweep, how many milliseconds the sweep
-- lets pass for the server: those since the previous sweep, at most 1,000
abbrev pub handed_in : {W : Type 0} → List (Doing W) → List Handed
handed_in [] = []
handed_in (MadeSweep ∷ doings) = Passing (ticks_between (swept_at doings) (time_of doings)) ∷ handed_in doings
handed_in (Asked (Some stimulus) ∷ doings) = Stimulated stimulus ∷ handed_in doings
handed_in (_ ∷ doings) = handed_in doings

-- whether the loop's last action but for questions was a wait, whose reports haven't been passed to
-- the sockets yet; also true if there was no such action yet
abbrev pub is_fresh : {W : Type 0} → List (Doing W) → Bool
is_fresh [] = true
is_fresh (MadeSweep ∷ doings) = false
is_fresh (Waited limit reported ended ∷ doings) = true
is_fresh (Told wire ∷ doings) = false
is_fresh (Asked answer ∷ doings) = is_fresh doings

-- whether all reports so far were passed to the sockets
abbrev pub is_told : {W : Type 0} → List (Doing W) → Bool
is_told = last_given (elim [ Waited limit true ended ↦ Some false | Told wire ↦ Some true | _ ↦ None ]) true

-- After these actions, a loop that is to make `sweeps` sweeps may wait with this limit: the wait
-- isn't longer than is allowed for the number of sweeps that remain, and all earlier reports were
-- passed to the sockets.
abbrev pub MayWait : {W J : Type 0} → ℕ → List (Doing W) → Option Duration → DriverState W J → Type 0
MayWait sweeps doings limit now =
    MaySleep (sweeps - sweeps_in doings) (swept_at doings) (time_of doings) limit now × (is_told doings ≡ true)

-- These actions of a loop lead from the driver's state `start` to its state `now`. The loop is to
-- make `sweeps` sweeps. Each sweep lets the milliseconds since the previous sweep pass. If at least
-- one millisecond passes, the reports of the last wait are passed to the sockets only after the
-- sweep. Each wait is allowed (`MayWait`). Each stimulus is accepted by the server, and handed to
-- the driver.
abbrev pub Serves : {W J : Type 0} → ℕ → (W → Heard → W → Type 0) → (J → List PlainEvent → J → Type 0) → List (Doing W) → DriverState W J
    → DriverState W J → Type 0
Serves sweeps hears notes [] start now = now ≡ start
Serves sweeps hears notes (MadeSweep ∷ doings) start now = let ticks = ticks_between (swept_at doings) (time_of doings) in
    (between : DriverState _ _) × Serves sweeps hears notes doings start between × Steps notes (Sweeps hears ticks) between now
    × (0 < ticks → is_fresh doings ≡ true)
Serves sweeps hears notes (Waited limit reported ended ∷ doings) start now =
    Serves sweeps hears notes doings start now × MayWait sweeps doings limit now
Serves sweeps hears notes (Told wire ∷ doings) start now = Serves sweeps hears notes doings start now × (wire ≡ now.wire)
Serves sweeps hears notes (Asked (Some stimulus) ∷ doings) start now = (between : DriverState _ _)
    × Serves sweeps hears notes doings start between × IsAccepted stimulus × Steps notes (Stimulates stimulus) between now
Serves sweeps hears notes (Asked None ∷ doings) start now = Serves sweeps hears notes doings start now

-- The machine made the waits among these actions, and answered the questions, in the order and with
-- the results that the actions record. The machine also passed the reports to the wire wherever the
-- actions say so.
abbrev pub Waits : {W M : Type 0} → (M → Doing W → M → Type 0) → List (Doing W) → M → M → Type 0
Waits answers [] start now = now ≡ start
Waits answers (MadeSweep ∷ doings) start now = Waits answers doings start now
Waits answers (doing ∷ doings) start now = (between : _) × Waits answers doings start between × answers between doing now

-- These actions of a loop lead from the driver's state `old` to its state `new`, and from the
-- machine's state `first` to its state `now`. The sweeps and the stimuli alone, without the waits
-- but with the same milliseconds, also lead from `old` to `new`.
abbrev pub Loops : {W J M : Type 0} → ℕ → (W → Heard → W → Type 0) → (J → List PlainEvent → J → Type 0) → (M → Doing W → M → Type 0)
    → List (Doing W) → DriverState W J → DriverState W J → M → M → Type 0
Loops sweeps hears notes answers doings old new first now = Serves sweeps hears notes doings old new × Waits answers doings first now
    × Swept hears notes (handed_in doings) old new

-- A loop made all its `sweeps` sweeps, and then a last wait, if it was to make any sweep; then the
-- journal has lost nothing.
abbrev pub Served : {W J M : Type 0} → ℕ → (W → Heard → W → Type 0) → (J → List PlainEvent → J → Type 0) → (J → Bool)
    → (M → Doing W → M → Type 0) → DriverState W J → DriverState W J → M → M → Type 0
Served sweeps hears notes lost answers old new first now = (doings : List (Doing _)) × (sweeps_in doings ≡ sweeps)
    × (is_fresh doings ≡ true) × (0 < sweeps → lost new.journal ≡ false) × Loops sweeps hears notes answers doings old new first now

-- A loop made some of its `sweeps` sweeps, until a wait failed, or the journal had lost an event.
-- How the wait changed the machine is said by `fails`.
abbrev pub Stopped : {W J M : Type 0} → ℕ → (W → Heard → W → Type 0) → (J → List PlainEvent → J → Type 0) → (J → Bool)
    → (M → Doing W → M → Type 0) → (M → Option Duration → M → Type 0) → DriverState W J → DriverState W J → M → M → Type 0
Stopped sweeps hears notes lost answers fails old new first now = (doings : List (Doing _)) × (between : _)
    × (0 < sweeps_in doings) × (sweeps_in doings ≤ sweeps) × Loops sweeps hears notes answers doings old new first between
    × (((limit : Option Duration) × MayWait sweeps doings limit new × fails between limit now × (lost new.journal ≡ false))
    ⊎ ((lost new.journal ≡ true) × (now ≡ between)))
