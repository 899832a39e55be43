-- All steps of a sweep but the passing of time leave the scenario, the milliseconds and the timed
-- events alone.
use Rattle.std.proofs.Common.{◌≡◌, ℕ, zero, suc, Bool, true, false, List, length, filter, Option, Some, None, Result, Ok, Err, refl, ap, ◌∙◌, inl, inr}
use Rattle.std.specs.Prelude.{◌==◌, ⊤}
use Rattle.sv_history.specs.declared.event.Config.{Config}
use Rattle.sv_history.specs.declared.event.Dial.{Dial}
use Rattle.sv_history.specs.declared.event.Did.{Did}
use Rattle.sv_history.specs.declared.event.Did.TheVariants.{Done}
use Rattle.sv_history.specs.declared.event.Refused.{Refused}
use Rattle.sv_history.specs.declared.event.Role.{Role}
use Rattle.sv_history.specs.declared.event.Port.{Port}
use Rattle.sv_history.specs.declared.event.Port.TheVariants.{Conn, Intr}
use Rattle.sv_history.specs.Event.{PlainEvent, Open, Bytes, Turn, Refuse, Took, Close, Dialed}
use Rattle.sv_history.specs.Print.{is_no_memory}
use Rattle.sv_laws.proofs.Brought.{is_tick}
use Rattle.sv_serve.specs.declared.wire.Answer.{Answer}
use Rattle.sv_serve.specs.declared.wire.Answer.TheVariants.{Got, Pending, Failed}
use Rattle.sv_serve.specs.Heard.{Heard, WasClosed}
use Rattle.sv_serve.specs.DriverView.{DriverView, ForEach}
use Rattle.sv_serve.specs.Steps.{Hears, Given, IsApplied, Remembers, dialed_of, Opens, Accepts, ClosesChannelOn, Closes, ClosesIf, Comes, Drops, ProbesIf, ReadsFrom, RefusesIf, EndsTurn, TurnsIf, Turns, KeepsDial, CancelsUnwanted, ConnectResult, PollResult, DialsFor, Dials, EndsWrite, WritesTo, EndsIf, Ends}
use Rattle.sv_driver_laws.specs.Timed.{is_timed}

-- The entries to come, the milliseconds counted and the timed events of the history are the same.
abbrev pub Idles : {W : Type 0} → DriverView W → DriverView W → Type 0
Idles a b = (b.ahead ≡ a.ahead) × (b.ticks ≡ a.ticks) × (filter is_timed b.history ≡ filter is_timed a.history)
    × (filter is_tick b.history ≡ filter is_tick a.history)

pub idles_refl : {W : Type 0} (a b : DriverView W) → b ≡ a → Idles a b
idles_refl a b is =
    (ap (λ m. m.ahead) is, ap (λ m. m.ticks) is, ap (λ m. filter is_timed m.history) is, ap (λ m. filter is_tick m.history) is)

pub idles_trans : {W : Type 0} (a b c : DriverView W) → Idles a b → Idles b c → Idles a c
idles_trans a b c x y = (y.0 ∙ x.0, y.1 ∙ x.1, y.2 ∙ x.2, y.3 ∙ x.3)

pub idles_each : {W : Type 0} (config : Config) (step : ℕ → Config → DriverView W → DriverView W → Type 0) (n : ℕ)
    → ((c : ℕ) (a b : DriverView W) → step c config a b → Idles a b) → (a b : DriverView W) → ForEach n step config a b → Idles a b
idles_each config step zero each a b is = idles_refl a b is
idles_each config step (suc n) each a b (m, front, last) = idles_trans a m b (idles_each config step n each a m front) (each n m b last)

hears_idles : {W : Type 0} (hears : W → Heard → W → Type 0) (heard : Heard) (config : Config) (a b : DriverView W)
    → Hears hears heard config a b → Idles a b
hears_idles hears heard config a b (wire, was, is) =
    (ap (λ m. m.ahead) is, ap (λ m. m.ticks) is, ap (λ m. filter is_timed m.history) is, ap (λ m. filter is_tick m.history) is)

remembers_idles : {W : Type 0} (c : ℕ) (dial : Option Dial) (config : Config) (a b : DriverView W) → Remembers c dial config a b → Idles a b
remembers_idles c dial config a b is =
    (ap (λ m. m.ahead) is, ap (λ m. m.ticks) is, ap (λ m. filter is_timed m.history) is, ap (λ m. filter is_tick m.history) is)

given_idles : {W : Type 0} (event : PlainEvent) (result : Result Did Refused) (config : Config) (a b : DriverView W) → is_timed event
    ≡ false
    → is_tick event ≡ false → Given event result config a b → Idles a b
given_idles event (Err refused) config a b e k (log, was, answers, is) = idles_refl a b is
given_idles event (Ok what) config a b e k (log, was, answers, is) = (
  ap (λ m. m.ahead) is,
  ap (λ m. m.ticks) is,
  ap (λ m. filter is_timed m.history) is ∙ rw e refl,
  ap (λ m. filter is_tick m.history) is ∙ rw k refl,
)

applied_idles : {W : Type 0} (event : PlainEvent) (config : Config) (a b : DriverView W) → is_timed event ≡ false → is_tick event ≡ false
    → IsApplied event config a b → Idles a b
applied_idles event config a b e k given = given_idles event (Ok Done) config a b e k given

opens_idles : {W : Type 0} (role : Role) (number : Option ℕ) (answer : Answer ⊤) (config : Config) (a b : DriverView W)
    → Opens role number answer config a b → Idles a b
opens_idles role (Some c) (Got all) config a b h = applied_idles (Open c role) config a b refl refl h
opens_idles role _ _ config a b is = idles_refl a b is

pub accepts_idles : {W : Type 0} (hears : W → Heard → W → Type 0) (role : Role) (config : Config) (a b : DriverView W)
    → Accepts hears role config a b → Idles a b
accepts_idles hears role config a b (number, answer, low, (m, heard, opens)) =
    idles_trans a m b (hears_idles hears _ config a m heard) (opens_idles role number answer config m b opens)

closes_channel_on_idles : {W : Type 0} (hears : W → Heard → W → Type 0) (c : ℕ) (found : Option Dial) (config : Config) (a b : DriverView W)
    → ClosesChannelOn hears c found config a b → Idles a b
closes_channel_on_idles hears c None config a b is = idles_refl a b is
closes_channel_on_idles hears c (Some dial) config a b (m, heard, notes) =
    idles_trans a m b (hears_idles hears (WasClosed (Intr c)) config a m heard) (remembers_idles c None config m b notes)

closes_idles : {W : Type 0} (hears : W → Heard → W → Type 0) (c : ℕ) (config : Config) (a b : DriverView W) → Closes hears c config a b
    → Idles a b
closes_idles hears c config a b (m, heard, (n, hangs, applies)) = idles_trans a m b
    (hears_idles hears (WasClosed (Conn c)) config a m heard)
    (idles_trans m n b (closes_channel_on_idles hears c (dialed_of c m) config m n hangs)
    (applied_idles (Close (Conn c)) config n b refl refl applies))

comes_idles : {W : Type 0} (hears : W → Heard → W → Type 0) (c : ℕ) (answer : Answer (List ℕ)) (config : Config) (a b : DriverView W)
    → Comes hears c answer config a b → Idles a b
comes_idles hears c (Got bytes) config a b h = applied_idles (Bytes c bytes) config a b refl refl h
comes_idles hears c Pending config a b is = idles_refl a b is
comes_idles hears c Failed config a b h = closes_idles hears c config a b h

probes_idles : {W : Type 0} (hears : W → Heard → W → Type 0) (c : ℕ) (opened : Bool) (config : Config) (a b : DriverView W)
    → ProbesIf hears c opened config a b → Idles a b
probes_idles hears c false config a b is = idles_refl a b is
probes_idles hears c true config a b (drops, answer, overlong, (m, heard, gone)) =
    idles_trans a m b (hears_idles hears _ config a m heard) (by answer gone)
  where
    by : (answer : Answer ⊤) → Drops hears c answer config m b → Idles m b
    by (Got all) is = idles_refl m b is
    by Pending is = idles_refl m b is
    by Failed h = closes_idles hears c config m b h

pub reads_idles : {W : Type 0} (hears : W → Heard → W → Type 0) (c : ℕ) (config : Config) (a b : DriverView W)
    → ReadsFrom hears c config a b → Idles a b
reads_idles hears c config a b (most, room, inl (none, (opened, is_open, probes))) = probes_idles hears c opened config a b probes
reads_idles hears c config a b (most, room, inr (some, answer, few, (m, heard, comes))) =
    idles_trans a m b (hears_idles hears _ config a m heard) (comes_idles hears c answer config m b comes)

refuses_idles : {W : Type 0} (c : ℕ) (so : Bool) (config : Config) (a b : DriverView W) → RefusesIf c so config a b → Idles a b
refuses_idles c true config a b h = applied_idles (Refuse c) config a b refl refl h
refuses_idles c false config a b is = idles_refl a b is

ends_turn_idles : {W : Type 0} (c : ℕ) (result : Result Did Refused) (config : Config) (a b : DriverView W) → EndsTurn c result config a b
    → Idles a b
ends_turn_idles c (Ok did) config a b is = idles_refl a b is
ends_turn_idles c (Err refused) config a b h = refuses_idles c (is_no_memory refused) config a b h

turns_if_idles : {W : Type 0} (c : ℕ) (ready : Bool) (config : Config) (a b : DriverView W) → TurnsIf c ready config a b → Idles a b
turns_if_idles c false config a b is = idles_refl a b is
turns_if_idles c true config a b (result, (m, given, ends)) =
    idles_trans a m b (given_idles (Turn c) result config a m refl refl given) (ends_turn_idles c result config m b ends)

pub turns_idles : {W : Type 0} (c : ℕ) (config : Config) (a b : DriverView W) → Turns c config a b → Idles a b
turns_idles c config a b (ready, is, h) = turns_if_idles c ready config a b h

keeps_dial_idles : {W : Type 0} (hears : W → Heard → W → Type 0) (c : ℕ) (so : Bool) (config : Config) (a b : DriverView W)
    → KeepsDial hears c so config a b → Idles a b
keeps_dial_idles hears c true config a b is = idles_refl a b is
keeps_dial_idles hears c false config a b h = closes_channel_on_idles hears c (dialed_of c a) config a b h

cancels_unwanted_idles : {W : Type 0} (hears : W → Heard → W → Type 0) (c : ℕ) (dialed : Option Dial) (config : Config) (a b : DriverView W)
    → CancelsUnwanted hears c dialed config a b → Idles a b
cancels_unwanted_idles hears c None config a b is = idles_refl a b is
cancels_unwanted_idles hears c (Some dialed) config a b (channel, wanted, opened, wants, h) = keeps_dial_idles hears c _ config a b h

connect_result_idles : {W : Type 0} (c : ℕ) (dial : Dial) (answer : Answer ⊤) (config : Config) (a b : DriverView W)
    → ConnectResult c dial answer config a b → Idles a b
connect_result_idles c dial (Got all) config a b (m, notes, applies) =
    idles_trans a m b (remembers_idles c (Some dial) config a m notes) (applied_idles (Dialed c true) config m b refl refl applies)
connect_result_idles c dial Pending config a b notes = remembers_idles c (Some dial) config a b notes
connect_result_idles c dial Failed config a b applies = applied_idles (Dialed c false) config a b refl refl applies

poll_result_idles : {W : Type 0} (hears : W → Heard → W → Type 0) (c : ℕ) (answer : Answer ⊤) (config : Config) (a b : DriverView W)
    → PollResult hears c answer config a b → Idles a b
poll_result_idles hears c (Got all) config a b applies = applied_idles (Dialed c true) config a b refl refl applies
poll_result_idles hears c Pending config a b is = idles_refl a b is
poll_result_idles hears c Failed config a b (m, hangs, applies) =
    idles_trans a m b (closes_channel_on_idles hears c (dialed_of c a) config a m hangs)
    (applied_idles (Dialed c false) config m b refl refl applies)

dials_for_idles : {W : Type 0} (hears : W → Heard → W → Type 0) (c : ℕ) (wanted dialed : Option Dial) (config : Config) (a b : DriverView W)
    → DialsFor hears c wanted dialed config a b → Idles a b
dials_for_idles hears c None dialed config a b is = idles_refl a b is
dials_for_idles hears c (Some dial) None config a b (answer, (m, heard, h)) =
    idles_trans a m b (hears_idles hears _ config a m heard) (connect_result_idles c dial answer config m b h)
dials_for_idles hears c (Some dial) (Some dialed) config a b (answer, (m, heard, h)) =
    idles_trans a m b (hears_idles hears _ config a m heard) (poll_result_idles hears c answer config m b h)

pub dials_idles : {W : Type 0} (hears : W → Heard → W → Type 0) (c : ℕ) (config : Config) (a b : DriverView W) → Dials hears c config a b
    → Idles a b
dials_idles hears c config a b (m, goes, (wanted, wants, h)) = idles_trans a m b
    (cancels_unwanted_idles hears c (dialed_of c a) config a m goes)
    (dials_for_idles hears c wanted (dialed_of c m) config m b h)

ends_write_idles : {W : Type 0} (hears : W → Heard → W → Type 0) (port : Port) (answer : Answer ℕ) (config : Config) (a b : DriverView W)
    → EndsWrite hears port answer config a b → Idles a b
ends_write_idles hears port (Got n) config a b h = applied_idles (Took port n) config a b refl refl h
ends_write_idles hears port Pending config a b is = idles_refl a b is
ends_write_idles hears (Conn c) Failed config a b h = closes_idles hears c config a b h
ends_write_idles hears (Intr c) Failed config a b (m, hangs, applies) =
    idles_trans a m b (closes_channel_on_idles hears c (dialed_of c a) config a m hangs)
    (applied_idles (Close (Intr c)) config m b refl refl applies)

pub writes_idles : {W : Type 0} (hears : W → Heard → W → Type 0) (port : Port) (config : Config) (a b : DriverView W)
    → WritesTo hears port config a b → Idles a b
writes_idles hears port config a b (bytes, waits, inl (none, is)) = idles_refl a b is
writes_idles hears port config a b (bytes, waits, inr (some, answer, few, (m, heard, ends))) =
    idles_trans a m b (hears_idles hears _ config a m heard) (ends_write_idles hears port answer config m b ends)

closes_if_idles : {W : Type 0} (hears : W → Heard → W → Type 0) (c : ℕ) (so : Bool) (config : Config) (a b : DriverView W)
    → ClosesIf hears c so config a b → Idles a b
closes_if_idles hears c true config a b h = closes_idles hears c config a b h
closes_if_idles hears c false config a b is = idles_refl a b is

ends_if_idles : {W : Type 0} (hears : W → Heard → W → Type 0) (c : ℕ) (so : Bool) (config : Config) (a b : DriverView W)
    → EndsIf hears c so config a b → Idles a b
ends_if_idles hears c false config a b is = idles_refl a b is
ends_if_idles hears c true config a b (bytes, waits, h) = closes_if_idles hears c (length bytes == 0) config a b h

pub ends_idles : {W : Type 0} (hears : W → Heard → W → Type 0) (c : ℕ) (config : Config) (a b : DriverView W) → Ends hears c config a b
    → Idles a b
ends_idles hears c config a b (faulted, is, h) = ends_if_idles hears c faulted config a b h
