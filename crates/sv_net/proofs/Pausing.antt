-- How the waits of a loop follow each other, until one fails.
use Rattle.std.proofs.Common.{◌≡◌, ℕ, Bool, true, false, List, [], ◌∷◌, Some, refl, sym, inl, arith}
use Rattle.std.specs.Prelude.{Option, Result, Ok, Err, IfOk, OnErr}
use Rattle.std.specs.Duration.{as_nanos}
use Rattle.std.specs.declared.time.Duration.{Duration}
use Rattle.sv_history.specs.Event.{PlainEvent}
use Rattle.sv_serve.specs.Heard.{Heard}
use Rattle.sv_serve.specs.DriverView.{DriverState}
use Rattle.sv_net.specs.Sleep.{MaySleep}
use Rattle.sv_net.specs.Serving.{Doing, MadeSweep, Waited, Told, Asked, is_fresh, is_told}
use Rattle.sv_net.specs.Inside.Pausing.{is_quiet, Running, Pauses, Fails}

told_where_quiet : {W : Type 0} (doings : List (Doing W)) → is_quiet doings ≡ true → is_told doings ≡ true
told_where_quiet [] quiet = refl
told_where_quiet (MadeSweep ∷ doings) quiet = absurd (let z : false ≡ true = quiet in cc)
told_where_quiet (Waited limit true ended ∷ doings) quiet = quiet
told_where_quiet (Waited limit false ended ∷ doings) quiet = quiet
told_where_quiet (Told wire ∷ doings) quiet = refl
told_where_quiet (Asked answer ∷ doings) quiet = absurd (let z : false ≡ true = quiet in cc)

fresh_where_quiet : {W : Type 0} (doings : List (Doing W)) → is_quiet doings ≡ true → is_fresh doings ≡ true
fresh_where_quiet [] quiet = refl
fresh_where_quiet (MadeSweep ∷ doings) quiet = quiet
fresh_where_quiet (Waited limit reported ended ∷ doings) quiet = refl
fresh_where_quiet (Told wire ∷ doings) quiet = quiet
fresh_where_quiet (Asked answer ∷ doings) quiet = absurd (let z : false ≡ true = quiet in cc)

module _ {W J M : Type 0} (hears : W → Heard → W → Type 0) (notes : J → List PlainEvent → J → Type 0)
    (answers : M → Doing W → M → Type 0) (driver : DriverState W J) where
  also : {is_so is_such : List (Doing W) → Bool} {sweeps many swept time : ℕ} {start : DriverState W J} {first now : M}
      → ((doings : List (Doing W)) → is_so doings ≡ true → is_such doings ≡ true)
      → Running hears notes answers is_so sweeps many swept time start driver first now
      → Running hears notes answers is_such sweeps many swept time start driver first now
  also step r = record {
    doings = r.doings;
    made = r.made;
    last = r.last;
    ended = r.ended;
    so = step r.doings r.so;
    serves = r.serves;
    waits = r.waits;
  }

  -- A wait that is no longer than allowed.
  pub one_wait : (left swept began time : ℕ) (limit : Option Duration) (reported : Bool) (old now : M)
      → MaySleep left swept began limit driver → answers old (Waited limit reported time) now
      → Pauses hears notes answers driver is_told is_fresh left swept began time old now
  one_wait left swept began time limit reported old now may waited = record {
    goes = λ sweeps many start first remain r. record {
      doings = Waited limit reported time ∷ r.doings;
      made = r.made;
      last = r.last;
      ended = refl;
      so = refl;
      serves = (r.serves, (rw (r.made, sym remain, r.last, r.ended) may, r.so));
      waits = (old, r.waits, waited);
    };
  }

  -- A poll, which takes no time.
  pub one_look : (left swept began time : ℕ) (limit : Duration) (reported : Bool) (old now : M) → as_nanos limit ≡ 0
      → answers old (Waited (Some limit) reported time) now
      → Pauses hears notes answers driver is_told is_fresh left swept began time old now
  one_look left swept began time limit reported old now none waited =
      one_wait left swept began time (Some limit) reported old now (inl (omega (arith, none))) waited

  -- A poll in which nothing is reported.
  pub in_vain : (left swept began time : ℕ) (limit : Duration) (old now : M) → as_nanos limit ≡ 0
      → answers old (Waited (Some limit) false time) now → Pauses hears notes answers driver is_told is_quiet left swept began time old now
  in_vain left swept began time limit old now none waited = record {
    goes = λ sweeps many start first remain r. record {
      doings = Waited (Some limit) false time ∷ r.doings;
      made = r.made;
      last = r.last;
      ended = refl;
      so = r.so;
      serves = (r.serves, (rw (r.last, r.ended) (inl (omega (arith, none))), r.so));
      waits = (old, r.waits, waited);
    };
  }

  pub no_wait : (left swept time : ℕ) (now : M) → Pauses hears notes answers driver is_quiet is_quiet left swept time time now now
  no_wait left swept time now = record { goes = λ sweeps many start first remain r. r }

pub pauses_from_quiet : {W J M : Type 0} {hears : W → Heard → W → Type 0} {notes : J → List PlainEvent → J → Type 0}
    {answers : M → Doing W → M → Type 0} {driver : DriverState W J}
    {is_so : List (Doing W) → Bool} {left swept began time : ℕ} {old now : M}
    → Pauses hears notes answers driver is_told is_so left swept began time old now
    → Pauses hears notes answers driver is_quiet is_so left swept began time old now
pauses_from_quiet {hears = hears} {notes = notes} {answers = answers} {driver = driver} pauses =
    record {
      goes = λ sweeps many start first remain r. pauses.goes sweeps many start first remain
          (also hears notes answers driver told_where_quiet r);
    }

pub pauses_to_fresh : {W J M : Type 0} {hears : W → Heard → W → Type 0} {notes : J → List PlainEvent → J → Type 0}
    {answers : M → Doing W → M → Type 0} {driver : DriverState W J}
    {was : List (Doing W) → Bool} {left swept began time : ℕ} {old now : M}
    → Pauses hears notes answers driver was is_quiet left swept began time old now
    → Pauses hears notes answers driver was is_fresh left swept began time old now
pauses_to_fresh {hears = hears} {notes = notes} {answers = answers} {driver = driver} pauses =
    record {
      goes = λ sweeps many start first remain r. also hears notes answers driver fresh_where_quiet
          (pauses.goes sweeps many start first remain r);
    }

pub pauses_then : {W J M : Type 0} {hears : W → Heard → W → Type 0} {notes : J → List PlainEvent → J → Type 0}
    {answers : M → Doing W → M → Type 0} {driver : DriverState W J}
    {was between is_so : List (Doing W) → Bool} {left swept began at time : ℕ} {old mid now : M}
    → Pauses hears notes answers driver was between left swept began at old mid
    → Pauses hears notes answers driver between is_so left swept at time mid now
    → Pauses hears notes answers driver was is_so left swept began time old now
pauses_then one other = record {
  goes = λ sweeps many start first remain r. other.goes sweeps many start first remain (one.goes sweeps many start first remain r);
}

pub if_ok : {A E : Type 0} {P Q : A → Type 0} (result : Result A E) → IfOk result P → ((a : A) → P a → Q a) → IfOk result Q
if_ok (Ok a) p more = more a p
if_ok (Err e) p more = p

-- The first wait fails.
pub fails_at_once : {W J M : Type 0} {hears : W → Heard → W → Type 0} {notes : J → List PlainEvent → J → Type 0}
    {answers : M → Doing W → M → Type 0}
    {fails : M → Option Duration → M → Type 0}
    {driver : DriverState W J} {left swept began : ℕ} {old now : M} (limit : Option Duration) → MaySleep left swept began limit driver
    → fails old limit now → Fails hears notes answers fails driver is_told left swept began old now
fails_at_once {began = began} {old = old} limit may failed =
    record { goes = λ sweeps many start first remain r. (began, old, limit, may, failed, r) }

-- A poll fails.
pub poll_fails : {W J M : Type 0} {hears : W → Heard → W → Type 0} {notes : J → List PlainEvent → J → Type 0}
    {answers : M → Doing W → M → Type 0}
    {fails : M → Option Duration → M → Type 0}
    {driver : DriverState W J} {left swept began : ℕ} {old now : M} (limit : Duration) → as_nanos limit ≡ 0
    → fails old (Some limit) now → Fails hears notes answers fails driver is_told left swept began old now
poll_fails limit none failed = fails_at_once (Some limit) (inl (omega (arith, none))) failed

pub fails_from_quiet : {W J M : Type 0} {hears : W → Heard → W → Type 0} {notes : J → List PlainEvent → J → Type 0}
    {answers : M → Doing W → M → Type 0}
    {fails : M → Option Duration → M → Type 0} {driver : DriverState W J} {left swept began : ℕ} {old now : M}
    → Fails hears notes answers fails driver is_told left swept began old now
    → Fails hears notes answers fails driver is_quiet left swept began old now
fails_from_quiet {hears = hears} {notes = notes} {answers = answers} {driver = driver} failing =
    record {
      goes = λ sweeps many start first remain r. failing.goes sweeps many start first remain
          (also hears notes answers driver told_where_quiet r);
    }

-- Some waits don't fail, and then one fails.
pub pauses_then_fails : {W J M : Type 0} {hears : W → Heard → W → Type 0} {notes : J → List PlainEvent → J → Type 0}
    {answers : M → Doing W → M → Type 0}
    {fails : M → Option Duration → M → Type 0}
    {driver : DriverState W J} {was between : List (Doing W) → Bool} {left swept began at : ℕ} {old mid now : M}
    → Pauses hears notes answers driver was between left swept began at old mid
    → Fails hears notes answers fails driver between left swept at mid now
    → Fails hears notes answers fails driver was left swept began old now
pauses_then_fails one other = record {
  goes = λ sweeps many start first remain r. other.goes sweeps many start first remain (one.goes sweeps many start first remain r);
}

pub if_err : {A E : Type 0} {P Q : Type 0} (result : Result A E) → OnErr result P → (P → Q) → OnErr result Q
if_err (Ok a) p more = tt
if_err (Err e) p more = more p

pub on_err : {A E P : Type 0} (result : Result A E) → P → OnErr result P
on_err (Ok a) p = tt
on_err (Err e) p = p
