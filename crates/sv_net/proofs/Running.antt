-- A loop of sweeps goes on sweep by sweep, until all are made or the loop stops.
use Rattle.std.proofs.Common.{◌≡◌, ℕ, ◌-◌, ◌<◌, ◌≤◌, Bool, true, false, List, [], ◌∷◌, Option, Some, None, inl, inr, refl, sym, arith}
use Rattle.std.specs.declared.time.Duration.{Duration}
use Rattle.sv_history.specs.Event.{PlainEvent}
use Rattle.sv_replay.specs.Entry.{IsAccepted}
use Rattle.sv_replay.specs.declared.entry.Stimulus.{Stimulus}
use Rattle.sv_serve.specs.Sweep.{Swept, Sweeps, Stimulates}
use Rattle.sv_serve.specs.Heard.{Heard}
use Rattle.sv_serve.specs.DriverView.{DriverState, Steps}
use Rattle.sv_net.specs.Serving.{Doing, MadeSweep, Waited, Told, Asked, handed_in, is_fresh, is_told, Serves, Served, Stopped}
use Rattle.sv_net.specs.Inside.Pausing.{Running, Rounds, Hands, Fails}

-- The sweeps and the stimuli of a loop, without its waits, lead to the same state of the driver.
pub swept_alone : {W J : Type 0} (sweeps : ℕ) (hears : W → Heard → W → Type 0) (notes : J → List PlainEvent → J → Type 0)
    (doings : List (Doing W)) (start now : DriverState W J)
    → Serves sweeps hears notes doings start now → Swept hears notes (handed_in doings) start now
swept_alone sweeps hears notes [] start now same = same
swept_alone sweeps hears notes (MadeSweep ∷ doings) start now (between, serves, goes, front) =
    (between, swept_alone sweeps hears notes doings start between serves, goes)
swept_alone sweeps hears notes (Waited limit reported ended ∷ doings) start now (serves, may) =
    swept_alone sweeps hears notes doings start now serves
swept_alone sweeps hears notes (Told wire ∷ doings) start now (serves, same) = swept_alone sweeps hears notes doings start now serves
swept_alone sweeps hears notes (Asked None ∷ doings) start now serves = swept_alone sweeps hears notes doings start now serves
swept_alone sweeps hears notes (Asked (Some stimulus) ∷ doings) start now (between, serves, accepted, goes) =
    (between, swept_alone sweeps hears notes doings start between serves, accepted, goes)

-- The loop has made all its sweeps.
pub served_by : {W J M : Type 0} {hears : W → Heard → W → Type 0} {notes : J → List PlainEvent → J → Type 0}
    {answers : M → Doing W → M → Type 0} {sweeps swept time : ℕ} {old new : DriverState W J} {first now : M} (lost : J → Bool)
    → (0 < sweeps → lost new.journal ≡ false) → Running hears notes answers is_fresh sweeps sweeps swept time old new first now
    → Served sweeps hears notes lost answers old new first now
served_by {hears = hears} {notes = notes} {sweeps = sweeps} {old = old} {new = new} lost kept r =
    (r.doings, r.made, r.so, kept, (r.serves, r.waits, swept_alone sweeps hears notes r.doings old new r.serves))

-- A wait failed after some of the sweeps.
pub stopped_by : {W J M : Type 0} {hears : W → Heard → W → Type 0} {notes : J → List PlainEvent → J → Type 0}
    {answers : M → Doing W → M → Type 0} {fails : M → Option Duration → M → Type 0} {left sweeps many swept began : ℕ}
    {start driver : DriverState W J} {first old now : M} (lost : J → Bool)
    → Fails hears notes answers fails driver is_told left swept began old now → left ≡ sweeps - many → 0 < many → many ≤ sweeps
    → lost driver.journal ≡ false → Running hears notes answers is_told sweeps many swept began start driver first old
    → Stopped sweeps hears notes lost answers fails start driver first now
stopped_by {hears = hears} {notes = notes} {sweeps = sweeps} {start = start} {driver = driver} lost failing remain some most kept ran =
    let (time, between, limit, may, failed, r) = failing.goes _ _ _ _ remain ran in (
      r.doings,
      between,
      rw r.made some,
      rw r.made most,
      (r.serves, r.waits, swept_alone sweeps hears notes r.doings start driver r.serves),
      inl (limit, (rw (r.made, sym remain, r.last, r.ended) may, r.so), failed, kept),
    )

-- The journal had lost an event after a sweep.
pub stopped_by_lost_event : {W J M : Type 0} {hears : W → Heard → W → Type 0} {notes : J → List PlainEvent → J → Type 0}
    {answers : M → Doing W → M → Type 0} {sweeps many swept time : ℕ} {start driver : DriverState W J} {first now : M} (lost : J → Bool)
    (fails : M → Option Duration → M → Type 0) → 0 < many → many ≤ sweeps → lost driver.journal ≡ true
    → Running hears notes answers is_told sweeps many swept time start driver first now
    → Stopped sweeps hears notes lost answers fails start driver first now
stopped_by_lost_event {hears = hears} {notes = notes} {sweeps = sweeps} {start = start} {driver = driver} lost fails some most gone r = (
  r.doings,
  _,
  rw r.made some,
  rw r.made most,
  (r.serves, r.waits, swept_alone sweeps hears notes r.doings start driver r.serves),
  inr (gone, refl),
)

not_any : {P : Type 0} {ticks : ℕ} → ticks ≡ 0 → 0 < ticks → P
not_any none some = absurd (omega (arith, none, some))

-- No whole millisecond has passed, so the wire gets the reports before the sweep.
pub reports_before_sweep : {W J M : Type 0} (hears : W → Heard → W → Type 0) (notes : J → List PlainEvent → J → Type 0)
    (answers : M → Doing W → M → Type 0) (ticks : ℕ) (old new : DriverState W J)
    (first now : M) → ticks ≡ 0 → answers first (Told old.wire) now → Steps notes (Sweeps hears ticks) old new
    → Rounds hears notes answers ticks old new first now
reports_before_sweep hears notes answers ticks old new first now none told goes = record {
  goes = λ sweeps many swept time start machine is r. record {
    doings = MadeSweep ∷ Told old.wire ∷ r.doings;
    made = omega (arith, r.made);
    last = r.ended;
    ended = r.ended;
    so = refl;
    serves = (old, (r.serves, refl), rw (r.last, r.ended, sym is) goes, rw (r.last, r.ended, sym is) (not_any none));
    waits = (first, r.waits, told);
  };
}

-- The sweep lets its milliseconds pass, and then the wire gets the reports.
pub sweep_before_reports : {W J M : Type 0} (hears : W → Heard → W → Type 0) (notes : J → List PlainEvent → J → Type 0)
    (answers : M → Doing W → M → Type 0) (ticks : ℕ) (old new : DriverState W J)
    (first now : M) → answers first (Told new.wire) now → Steps notes (Sweeps hears ticks) old new
    → Rounds hears notes answers ticks old new first now
sweep_before_reports hears notes answers ticks old new first now told goes = record {
  goes = λ sweeps many swept time start machine is r. record {
    doings = Told new.wire ∷ MadeSweep ∷ r.doings;
    made = omega (arith, r.made);
    last = r.ended;
    ended = r.ended;
    so = refl;
    serves = ((old, r.serves, rw (r.last, r.ended, sym is) goes, λ some. r.so), refl);
    waits = (first, r.waits, told);
  };
}

-- No stimulus is there, and the driver stays as it is.
pub hands_no_stimulus : {W J M : Type 0} (hears : W → Heard → W → Type 0) (notes : J → List PlainEvent → J → Type 0)
    (answers : M → Doing W → M → Type 0) (driver : DriverState W J)
    (answer : Option Stimulus) (first now : M) → answer ≡ None → answers first (Asked answer) now
    → Hands hears notes answers driver driver first now
hands_no_stimulus hears notes answers driver answer first now none asked = record {
  goes = λ sweeps many swept time start machine r. record {
    doings = Asked None ∷ r.doings;
    made = r.made;
    last = r.last;
    ended = r.ended;
    so = r.so;
    serves = r.serves;
    waits = (first, r.waits, rw none at asked);
  };
}

-- A stimulus is there, and is handed to the driver.
pub hands_stimulus : {W J M : Type 0} (hears : W → Heard → W → Type 0) (notes : J → List PlainEvent → J → Type 0)
    (answers : M → Doing W → M → Type 0) (old new : DriverState W J)
    (answer : Option Stimulus) (stimulus : Stimulus) (first now : M) → answer ≡ Some stimulus → answers first (Asked answer) now
    → IsAccepted stimulus → Steps notes (Stimulates stimulus) old new → Hands hears notes answers old new first now
hands_stimulus hears notes answers old new answer stimulus first now some asked accepted goes = record {
  goes = λ sweeps many swept time start machine r. record {
    doings = Asked (Some stimulus) ∷ r.doings;
    made = r.made;
    last = r.last;
    ended = r.ended;
    so = r.so;
    serves = (old, r.serves, accepted, goes);
    waits = (first, r.waits, rw some at asked);
  };
}

pub hands_same : {W J M : Type 0} (hears : W → Heard → W → Type 0) (notes : J → List PlainEvent → J → Type 0)
    (answers : M → Doing W → M → Type 0) (driver : DriverState W J)
    (now : M) → Hands hears notes answers driver driver now now
hands_same hears notes answers driver now = record { goes = λ sweeps many swept time start machine r. r }

pub hands_then : {W J M : Type 0} {hears : W → Heard → W → Type 0} {notes : J → List PlainEvent → J → Type 0}
    {answers : M → Doing W → M → Type 0} {one two three : DriverState W J}
    {first mid now : M} → Hands hears notes answers one two first mid → Hands hears notes answers two three mid now
    → Hands hears notes answers one three first now
hands_then x y = record {
  goes = λ sweeps many swept time start machine r. y.goes sweeps many swept time start machine
      (x.goes sweeps many swept time start machine r);
}
