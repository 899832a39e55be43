-- For connections that were never opened a sweep does nothing.
use Rattle.std.proofs.Common.{◌≡◌, ℕ, zero, suc, ◌≤◌, Bool, true, false, List, [], None, nat_lt, replicate, slice_index_or, refl, sym, ap, subst, arith, inl, inr}
use Rattle.std.proofs.Math.Nat.{eq-or-lt_of_le}
use Rattle.std.specs.Prelude.{Option, not, ◌||◌}
use Rattle.sv_history.specs.declared.event.Config.{Config}
use Rattle.sv_history.specs.declared.event.Port.TheVariants.{Conn}
use Rattle.sv_history.specs.Act.{Act, of, device_acts}
use Rattle.sv_history.specs.Event.{PlainEvent}
use Rattle.sv_history.specs.Connection.{room, waiting}
use Rattle.sv_history.specs.History.{is_port_shut}
use Rattle.sv_history.proofs.AlwaysTold.{channel_log_exists}
use Rattle.sv_history.proofs.Unrecorded.{nothing_idle, nothing_faulted, nothing_dialed}
use Rattle.sv_serve.specs.Heard.{Heard}
use Rattle.sv_serve.specs.DriverView.{DriverView, DriverState, ForEach, Steps, Stands, driver_view}
use Rattle.sv_serve.specs.Asked.{NoneUsed}
use Rattle.sv_serve.specs.Steps.{dialed_of, ReadsFrom, Turns, Dials, WritesTo, Ends}

-- Steps that change nothing may follow for further numbers.
pub for_each_unused_rest : {W : Type 0} (step : ℕ → Config → DriverView W → DriverView W → Type 0) (config : Config) (n m : ℕ)
    (a b : DriverView W) → n
    ≤ m
    → ForEach n step config a b → ((c : ℕ) → n ≤ c → step c config b b) → ForEach m step config a b
for_each_unused_rest step config n zero a b le each stays =
    let none : n ≡ zero = omega (arith, le) in subst (λ (k : ℕ). ForEach k step config a b) none each
for_each_unused_rest step config n (suc m) a b le each stays = elim (eq-or-lt_of_le le) [
  | inl same ↦ subst (λ (k : ℕ). ForEach k step config a b) same each
  | inr less ↦ (let low : n ≤ m = omega (arith, less) in (b, for_each_unused_rest step config n m a b low each stays, stays m low))
]

-- The same for steps of a driver, whatever the history of its server.
pub steps_unused_rest : {W J : Type 0} (notes : J → List PlainEvent → J → Type 0) (step : ℕ → Config → DriverView W → DriverView W
    → Type 0) (n m : ℕ) (first last : DriverState W J) → n ≤ m → Steps notes (ForEach n step) first last
    → ((start : J) (config : Config) (history : List PlainEvent) → Stands (notes start) last config history → (c : ℕ) → n ≤ c
    → step c config (driver_view last history) (driver_view last history)) → Steps notes (ForEach m step) first last
steps_unused_rest notes step n m first last le each stays = λ origin config history stands.
    let (h0, s0, p0) = each _ config history stands in
    (h0, s0, for_each_unused_rest step config n m (driver_view first history) (driver_view last h0) le p0 (stays _ config h0 s0))

never_open : (c : ℕ) (log : List Act) → of c log ≡ [] → false ≡ not (is_port_shut (Conn c) log)
never_open c log none = rw none (shut_by (nat_lt 15 c))
  where
    shut_by : (b : Bool) → false ≡ not (b || true)
    shut_by true = refl
    shut_by false = refl

pub reads_none : {W : Type 0} (hears : W → Heard → W → Type 0) (n : ℕ) (config : Config) (at : DriverView W) → NoneUsed n config at
    → (c : ℕ) → n ≤ c → ReadsFrom hears c config at at
reads_none hears n config at (log, is_log, none) c le =
    (0, (log, is_log, ap room (sym (none c le))), inl (refl, (false, (log, is_log, never_open c log (none c le)), refl)))

pub turns_none : {W : Type 0} (n : ℕ) (config : Config) (at : DriverView W) → NoneUsed n config at → (c : ℕ) → n ≤ c → Turns c config at at
turns_none n config at (log, is_log, none) c le =
    (false, (log, is_log, nothing_idle _ (none c le)), refl)

pub writes_none : {W : Type 0} (hears : W → Heard → W → Type 0) (n : ℕ) (config : Config) (at : DriverView W) → NoneUsed n config at
    → (c : ℕ) → n ≤ c → WritesTo hears (Conn c) config at at
writes_none hears n config at (log, is_log, none) c le =
    let (channel_log, tells) = channel_log_exists (device_acts log) in
    ([], (log, channel_log, is_log, tells, ap waiting (sym (none c le))), inl (refl, refl))

pub ends_none : {W : Type 0} (hears : W → Heard → W → Type 0) (n : ℕ) (config : Config) (at : DriverView W) → NoneUsed n config at
    → (c : ℕ) → n ≤ c → Ends hears c config at at
ends_none hears n config at (log, is_log, none) c le = (false, (log, is_log, nothing_faulted _ (none c le)), refl)

pub nobody : {A : Type 0} (n c : ℕ) → slice_index_or {A = Option A} (replicate n None) c None ≡ None
nobody zero c = refl
nobody (suc n) zero = refl
nobody (suc n) (suc c) = nobody n c

pub dials_none : {W : Type 0} (hears : W → Heard → W → Type 0) (n : ℕ) (config : Config) (at : DriverView W) → NoneUsed n config at
    → ((c : ℕ) → n ≤ c → dialed_of c at ≡ None) → (c : ℕ) → n ≤ c → Dials hears c config at at
dials_none hears n config at (log, is_log, none) uncalled c le =
    let nobody = uncalled c le in (
      at,
      rw nobody refl,
      (None, (log, is_log, nothing_dialed c log (none c le)), refl),
    )
