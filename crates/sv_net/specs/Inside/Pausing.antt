-- What the parts of a loop of sweeps do.
use Rattle.std.specs.Prelude.{◌≡◌, ℕ, ◌+◌, ◌-◌, Bool, true, false, List, ◌∷◌, Option}
use Rattle.std.specs.declared.time.Duration.{Duration}
use Rattle.sv_history.specs.Event.{PlainEvent}
use Rattle.sv_serve.specs.Heard.{Heard}
use Rattle.sv_serve.specs.DriverView.{DriverState}
use Rattle.sv_net.specs.Sleep.{MaySleep}
use Rattle.sv_net.specs.Serving.{Doing, Waited, time_of, swept_at, ticks_between, sweeps_in, is_fresh, is_told, Serves, Waits}

-- whether the loop's last action was a wait in which nothing was reported, and all earlier reports
-- were passed to the sockets
abbrev pub is_quiet : {W : Type 0} → List (Doing W) → Bool
is_quiet (Waited limit false ended ∷ doings) = is_told doings
is_quiet _ = false

-- A loop is to make `sweeps` sweeps, and made `many` sweeps so far. The machine made the loop's
-- waits, with the results that the loop's actions record. The last sweep began at `swept`, the time
-- is now `time`, and the condition `is_so` holds of the loop's actions.
pub record Running {W J M : Type 0} (hears : W → Heard → W → Type 0) (notes : J → List PlainEvent → J → Type 0)
    (answers : M → Doing W → M → Type 0) (is_so : List (Doing W) → Bool)
    (sweeps many swept time : ℕ) (old new : DriverState W J) (first now : M) : Type 0 where
  pub doings : List (Doing W)
  pub made : sweeps_in doings ≡ many
  pub last : swept_at doings ≡ swept
  pub ended : time_of doings ≡ time
  pub so : is_so doings ≡ true
  pub serves : Serves sweeps hears notes doings old new
  pub waits : Waits answers doings first now

-- The loop makes one more sweep, in which `ticks` milliseconds pass for the server.
pub record Rounds {W J M : Type 0} (hears : W → Heard → W → Type 0) (notes : J → List PlainEvent → J → Type 0)
    (answers : M → Doing W → M → Type 0) (ticks : ℕ) (old new : DriverState W J)
    (first now : M) : Type 0 where
  pub goes : (sweeps many swept time : ℕ) (start : DriverState W J) (machine : M) → ticks ≡ ticks_between swept time
      → Running hears notes answers is_fresh sweeps many swept time start old machine first
      → Running hears notes answers is_told sweeps (many + 1) time time start new machine now

-- The loop asks for stimuli, and hands them to the driver.
pub record Hands {W J M : Type 0} (hears : W → Heard → W → Type 0) (notes : J → List PlainEvent → J → Type 0)
    (answers : M → Doing W → M → Type 0) (old new : DriverState W J) (first now : M) : Type 0 where
  pub goes : (sweeps many swept time : ℕ) (start : DriverState W J) (machine : M)
      → Running hears notes answers is_fresh sweeps many swept time start old machine first
      → Running hears notes answers is_fresh sweeps many swept time start new machine now

-- The loop waits, and makes no sweep. `left` sweeps remain. Before the waits the time was `began`,
-- and the condition `was` held of the loop's actions. After the waits the time is `time`, and the
-- condition `is_so` holds of the loop's actions.
pub record Pauses {W J M : Type 0} (hears : W → Heard → W → Type 0) (notes : J → List PlainEvent → J → Type 0)
    (answers : M → Doing W → M → Type 0) (driver : DriverState W J)
    (was is_so : List (Doing W) → Bool) (left swept began time : ℕ) (old now : M) : Type 0 where
  pub goes : (sweeps many : ℕ) (start : DriverState W J) (first : M) → left ≡ sweeps - many
      → Running hears notes answers was sweeps many swept began start driver first old
      → Running hears notes answers is_so sweeps many swept time start driver first now

-- The loop waits, until a wait fails; `left` sweeps remain. Before the waits the time was `began`,
-- and the condition `was` held of the loop's actions.
pub record Fails {W J M : Type 0} (hears : W → Heard → W → Type 0) (notes : J → List PlainEvent → J → Type 0)
    (answers : M → Doing W → M → Type 0)
    (fails : M → Option Duration → M → Type 0)
    (driver : DriverState W J) (was : List (Doing W) → Bool) (left swept began : ℕ) (old now : M) : Type 0 where
  pub goes : (sweeps many : ℕ) (start : DriverState W J) (first : M) → left ≡ sweeps - many
      → Running hears notes answers was sweeps many swept began start driver first old
      → (time : ℕ) × (between : M) × (limit : Option Duration) × MaySleep left swept time limit driver × fails between limit now
      × Running hears notes answers is_told sweeps many swept time start driver first between
