-- Which events each part of a sweep adds to the history.
use Rattle.std.proofs.Common.{◌≡◌, ℕ, zero, suc, ◌≤◌, ◌+◌, Bool, true, false, cond, eqb, List, [], ◌∷◌, ◌++◌, length, filter, ℤ, Option, Some, None, Result, Ok, Err, refl, sym, ap, subst, ◌∙◌, inl, inr, append_assoc, arith}
use Rattle.std.specs.Prelude.{◌==◌, ⊤}
use Rattle.std.specs.List.{AllByRecursion}
use Rattle.std.proofs.lemmas.Bool.{eqb-true}
use Rattle.std.proofs.lemmas.List.{append_cancel_right, length-append}
use Rattle.std.proofs.lemmas.List.Elements.{filter-append}
use Rattle.sv_history.specs.declared.event.Config.{Config}
use Rattle.sv_history.specs.declared.event.Dial.{Dial}
use Rattle.sv_history.specs.declared.event.Did.{Did}
use Rattle.sv_history.specs.declared.event.Did.TheVariants.{Done}
use Rattle.sv_history.specs.declared.event.Refused.{Refused}
use Rattle.sv_history.specs.declared.event.Role.{Role}
use Rattle.sv_history.specs.declared.event.Port.{Port}
use Rattle.sv_history.specs.declared.event.Port.TheVariants.{Conn, Intr}
use Rattle.sv_history.specs.Event.{PlainEvent, Open, Bytes, Turn, Refuse, Took, Close, Dialed, Input, External, Tick}
use Rattle.sv_history.specs.Print.{is_no_memory}
use Rattle.sv_replay.specs.Entry.{stimulus_event}
use Rattle.sv_replay.specs.declared.entry.Stimulus.{Stimulus}
use Rattle.sv_replay.specs.declared.entry.Stimulus.TheVariants as stimuli
use Rattle.sv_serve.specs.declared.wire.Answer.{Answer}
use Rattle.sv_serve.specs.declared.wire.Answer.TheVariants.{Got, Pending, Failed}
use Rattle.sv_serve.specs.Heard.{Heard, WasClosed}
use Rattle.sv_serve.specs.DriverView.{DriverView, ForEach, ◌then◌}
use Rattle.sv_serve.specs.Steps.{Hears, Given, IsApplied, dialed_of, Opens, Accepts, ClosesChannelOn, Closes, ClosesIf, Comes, Drops, ProbesIf, ReadsFrom, RefusesIf, EndsTurn, TurnsIf, Turns, KeepsDial, CancelsUnwanted, ConnectResult, PollResult, DialsFor, Dials, EndsWrite, WritesTo, EndsIf, Ends}
use Rattle.sv_serve.specs.Sweep.{PlaysOne, Plays, Counts, TicksOnce, Passes}
use Rattle.sv_driver_laws.specs.Served.{takes_call, is_taking}

all_join : {A : Type 0} (P : A → Type 0) (a b : List A) → AllByRecursion P a → AllByRecursion P b → AllByRecursion P (a ++ b)
all_join P [] b h k = k
all_join P (x ∷ a) b h k = (h.0, all_join P a b h.1 k)

-- From one state to the other, only events that satisfy `P` were added to the history.
abbrev pub Grows : {W : Type 0} → (PlainEvent → Type 0) → DriverView W → DriverView W → Type 0
Grows P a b = (events : List PlainEvent) × (b.history ≡ events ++ a.history) × AllByRecursion P events

pub grows_same_history : {W : Type 0} (P : PlainEvent → Type 0) (a b : DriverView W) → b.history ≡ a.history → Grows P a b
grows_same_history P a b is = ([], is, tt)

pub grows_refl : {W : Type 0} (P : PlainEvent → Type 0) (a b : DriverView W) → b ≡ a → Grows P a b
grows_refl P a b is = ([], ap (λ m. m.history) is, tt)

pub grows_trans : {W : Type 0} (P : PlainEvent → Type 0) (a b c : DriverView W) → Grows P a b → Grows P b c → Grows P a c
grows_trans P a b c (xs, x, h) (ys, y, k) =
    (ys ++ xs, y ∙ ap (λ (l : List PlainEvent). ys ++ l) x ∙ sym (append_assoc ys xs a.history), all_join P ys xs k h)

pub grows_each : {W : Type 0} (P : PlainEvent → Type 0) (config : Config) (step : ℕ → Config → DriverView W → DriverView W → Type 0) (n : ℕ)
    → ((c : ℕ) (a b : DriverView W) → step c config a b → Grows P a b) → (a b : DriverView W) → ForEach n step config a b → Grows P a b
grows_each P config step zero each a b is = grows_refl P a b is
grows_each P config step (suc n) each a b (m, front, last) =
    grows_trans P a m b (grows_each P config step n each a m front) (each n m b last)

pub grows_weaker : {W : Type 0} (P Q : PlainEvent → Type 0) (a b : DriverView W) → ((event : PlainEvent) → P event → Q event) → Grows P a b
    → Grows Q a b
grows_weaker P Q a b so (events, grown, all) = (events, grown, each events all)
  where
    each : (events : List PlainEvent) → AllByRecursion P events → AllByRecursion Q events
    each [] h = tt
    each (event ∷ events) h = (so event h.0, each events h.1)

-- If the added events are these, each of them satisfies `P`.
pub grown_events_satisfy : {W : Type 0} (P : PlainEvent → Type 0) (a b : DriverView W) (events : List PlainEvent)
    → b.history ≡ events ++ a.history → Grows P a b → AllByRecursion P events
grown_events_satisfy P a b events grown (xs, x, h) = subst (AllByRecursion P) (append_cancel_right xs events a.history (sym x ∙ grown)) h

hears_grows : {W : Type 0} (P : PlainEvent → Type 0) (hears : W → Heard → W → Type 0) (heard : Heard) (config : Config) (a b : DriverView W)
    → Hears hears heard config a b → Grows P a b
hears_grows P hears heard config a b (wire, was, is) = grows_same_history P a b (ap (λ m. m.history) is)

given_grows : {W : Type 0} (P : PlainEvent → Type 0) (event : PlainEvent) (result : Result Did Refused) (config : Config)
    (a b : DriverView W) → P event → Given event result config a b → Grows P a b
given_grows P event (Err refused) config a b so (log, was, answers, is) = grows_same_history P a b (ap (λ m. m.history) is)
given_grows P event (Ok what) config a b so (log, was, answers, is) = (event ∷ [], ap (λ m. m.history) is, (so, tt))

happens_grows : {W : Type 0} (P : PlainEvent → Type 0) (event : PlainEvent) (config : Config) (a b : DriverView W) → P event
    → IsApplied event config a b → Grows P a b
happens_grows P event config a b so given = given_grows P event (Ok Done) config a b so given

pub opens_grows : {W : Type 0} (P : PlainEvent → Type 0) (role : Role) (number : Option ℕ) (answer : Answer ⊤) (config : Config)
    (a b : DriverView W) → ((c : ℕ) → P (Open c role)) → Opens role number answer config a b → Grows P a b
opens_grows P role (Some c) (Got all) config a b so h = happens_grows P (Open c role) config a b (so c) h
opens_grows P role _ _ config a b so is = grows_refl P a b is

pub accepts_grows : {W : Type 0} (P : PlainEvent → Type 0) (hears : W → Heard → W → Type 0) (role : Role) (config : Config)
    (a b : DriverView W) → ((c : ℕ) → P (Open c role)) → Accepts hears role config a b → Grows P a b
accepts_grows P hears role config a b so (number, answer, low, (m, heard, opens)) =
    grows_trans P a m b (hears_grows P hears _ config a m heard) (opens_grows P role number answer config m b so opens)

closes_channel_on_grows : {W : Type 0} (P : PlainEvent → Type 0) (hears : W → Heard → W → Type 0) (c : ℕ) (found : Option Dial)
    (config : Config)
    (a b : DriverView W) → ClosesChannelOn hears c found config a b → Grows P a b
closes_channel_on_grows P hears c None config a b is = grows_refl P a b is
closes_channel_on_grows P hears c (Some dial) config a b (m, heard, notes) =
    grows_trans P a m b (hears_grows P hears (WasClosed (Intr c)) config a m heard) (grows_same_history P m b (ap (λ m. m.history) notes))

closes_grows : {W : Type 0} (P : PlainEvent → Type 0) (hears : W → Heard → W → Type 0) (c : ℕ) (config : Config) (a b : DriverView W)
    → P (Close (Conn c)) → Closes hears c config a b → Grows P a b
closes_grows P hears c config a b so (m, heard, (n, hangs, applies)) =
    grows_trans P a m b (hears_grows P hears (WasClosed (Conn c)) config a m heard)
    (grows_trans P m n b (closes_channel_on_grows P hears c (dialed_of c m) config m n hangs)
    (happens_grows P (Close (Conn c)) config n b so applies))

pub comes_grows : {W : Type 0} (P : PlainEvent → Type 0) (hears : W → Heard → W
    → Type 0) (c : ℕ) (answer : Answer (List ℕ)) (config : Config)
    (a b : DriverView W) → ((bytes : List ℕ) → P (Bytes c bytes)) → P (Close (Conn c)) → Comes hears c answer config a b → Grows P a b
comes_grows P hears c (Got bytes) config a b so close h = happens_grows P (Bytes c bytes) config a b (so bytes) h
comes_grows P hears c Pending config a b so close is = grows_refl P a b is
comes_grows P hears c Failed config a b so close h = closes_grows P hears c config a b close h

pub drops_grows : {W : Type 0} (P : PlainEvent → Type 0) (hears : W → Heard → W → Type 0) (c : ℕ) (answer : Answer ⊤) (config : Config)
    (a b : DriverView W) → P (Close (Conn c)) → Drops hears c answer config a b → Grows P a b
drops_grows P hears c (Got all) config a b close is = grows_refl P a b is
drops_grows P hears c Pending config a b close is = grows_refl P a b is
drops_grows P hears c Failed config a b close h = closes_grows P hears c config a b close h

probes_grows : {W : Type 0} (P : PlainEvent → Type 0) (hears : W → Heard → W → Type 0) (c : ℕ) (opened : Bool) (config : Config)
    (a b : DriverView W) → P (Close (Conn c)) → ProbesIf hears c opened config a b → Grows P a b
probes_grows P hears c false config a b close is = grows_refl P a b is
probes_grows P hears c true config a b close (drops, answer, overlong, (m, heard, gone)) =
    grows_trans P a m b (hears_grows P hears _ config a m heard) (drops_grows P hears c answer config m b close gone)

pub reads_grows : {W : Type 0} (P : PlainEvent → Type 0) (hears : W → Heard → W → Type 0) (c : ℕ) (config : Config) (a b : DriverView W)
    → ((bytes : List ℕ) → P (Bytes c bytes)) → P (Close (Conn c)) → ReadsFrom hears c config a b → Grows P a b
reads_grows P hears c config a b so close (most, room, inl (none, (opened, is_open, probes))) =
    probes_grows P hears c opened config a b close probes
reads_grows P hears c config a b so close (most, room, inr (some, answer, few, (m, heard, comes))) =
    grows_trans P a m b (hears_grows P hears _ config a m heard) (comes_grows P hears c answer config m b so close comes)

keeps_dial_grows : {W : Type 0} (P : PlainEvent → Type 0) (hears : W → Heard → W → Type 0) (c : ℕ) (so : Bool) (config : Config)
    (a b : DriverView W) → KeepsDial hears c so config a b → Grows P a b
keeps_dial_grows P hears c true config a b is = grows_refl P a b is
keeps_dial_grows P hears c false config a b h = closes_channel_on_grows P hears c (dialed_of c a) config a b h

pub cancels_unwanted_grows : {W : Type 0} (P : PlainEvent → Type 0) (hears : W → Heard → W → Type 0) (c : ℕ) (dialed : Option Dial)
    (config : Config)
    (a b : DriverView W) → CancelsUnwanted hears c dialed config a b → Grows P a b
cancels_unwanted_grows P hears c None config a b is = grows_refl P a b is
cancels_unwanted_grows P hears c (Some dialed) config a b (channel, wanted, opened, wants, h) = keeps_dial_grows P hears c _ config a b h

pub connect_result_grows : {W : Type 0} (P : PlainEvent → Type 0) (c : ℕ) (dial : Dial) (answer : Answer ⊤) (config : Config)
    (a b : DriverView W)
    → ((ok : Bool) → P (Dialed c ok)) → ConnectResult c dial answer config a b → Grows P a b
connect_result_grows P c dial (Got all) config a b so (m, notes, applies) = grows_trans P a m b
    (grows_same_history P a m (ap (λ m. m.history) notes)) (happens_grows P (Dialed c true) config m b (so true) applies)
connect_result_grows P c dial Pending config a b so notes = grows_same_history P a b (ap (λ m. m.history) notes)
connect_result_grows P c dial Failed config a b so applies = happens_grows P (Dialed c false) config a b (so false) applies

pub poll_result_grows : {W : Type 0} (P : PlainEvent → Type 0) (hears : W → Heard → W → Type 0) (c : ℕ) (answer : Answer ⊤)
    (config : Config)
    (a b : DriverView W) → ((ok : Bool) → P (Dialed c ok)) → PollResult hears c answer config a b → Grows P a b
poll_result_grows P hears c (Got all) config a b so applies = happens_grows P (Dialed c true) config a b (so true) applies
poll_result_grows P hears c Pending config a b so is = grows_refl P a b is
poll_result_grows P hears c Failed config a b so (m, hangs, applies) = grows_trans P a m b
    (closes_channel_on_grows P hears c (dialed_of c a) config a m hangs) (happens_grows P (Dialed c false) config m b (so false) applies)

pub dials_for_grows : {W : Type 0} (P : PlainEvent → Type 0) (hears : W → Heard → W → Type 0) (c : ℕ) (wanted dialed : Option Dial)
    (config : Config) (a b : DriverView W) → ((ok : Bool) → P (Dialed c ok)) → DialsFor hears c wanted dialed config a b → Grows P a b
dials_for_grows P hears c None dialed config a b so is = grows_refl P a b is
dials_for_grows P hears c (Some dial) None config a b so (answer, (m, heard, h)) =
    grows_trans P a m b (hears_grows P hears _ config a m heard) (connect_result_grows P c dial answer config m b so h)
dials_for_grows P hears c (Some dial) (Some dialed) config a b so (answer, (m, heard, h)) =
    grows_trans P a m b (hears_grows P hears _ config a m heard) (poll_result_grows P hears c answer config m b so h)

pub dials_grows : {W : Type 0} (P : PlainEvent → Type 0) (hears : W → Heard → W → Type 0) (c : ℕ) (config : Config) (a b : DriverView W)
    → ((ok : Bool) → P (Dialed c ok)) → Dials hears c config a b → Grows P a b
dials_grows P hears c config a b so (m, goes, (wanted, wants, h)) =
    grows_trans P a m b (cancels_unwanted_grows P hears c (dialed_of c a) config a m goes)
    (dials_for_grows P hears c wanted (dialed_of c m) config m b so h)

-- ---- time passes

-- Each timed event satisfies `P`.
abbrev pub OnTimedEvents : (PlainEvent → Type 0) → Type 0
OnTimedEvents P = ((channel : ℕ) (microvolts : ℤ) → P (Input channel microvolts)) × P External × P Tick

plays_grows : {W : Type 0} (P : PlainEvent → Type 0) (config : Config) (a b : DriverView W) → OnTimedEvents P → PlaysOne config a b
    → Grows P a b
plays_grows P config a b so (entry, others, m, first, due, (result, given), is) =
    grows_trans P a m b (given_grows P (stimulus_event entry.stimulus) result config a m (such entry.stimulus) given)
    (grows_same_history P m b (ap (λ m. m.history) is))
  where
    such : (stimulus : Stimulus) → P (stimulus_event stimulus)
    such (stimuli.Input channel microvolts) = so.0 channel microvolts
    such stimuli.External = so.1

all_plays : {W : Type 0} (P : PlainEvent → Type 0) (config : Config) (a b : DriverView W) → OnTimedEvents P → Plays config a b → Grows P a b
all_plays P config a b so (n, each, none) =
    grows_each P config (λ i. PlaysOne) n (λ c a b. plays_grows P config a b so) a b each

counts_grows : {W : Type 0} (P : PlainEvent → Type 0) (config : Config) (result : Result Did Refused) (a b : DriverView W)
    → Counts result config a b → Grows P a b
counts_grows P config (Ok did) a b is = grows_same_history P a b (ap (λ m. m.history) is)
counts_grows P config (Err refused) a b is = grows_refl P a b is

tick_grows : {W : Type 0} (P : PlainEvent → Type 0) (config : Config) (a b : DriverView W) → OnTimedEvents P
    → (Plays then TicksOnce) config a b → Grows P a b
tick_grows P config a b so (m, plays, (result, (n, given, counts))) = grows_trans P a m b (all_plays P config a m so plays)
    (grows_trans P m n b (given_grows P Tick result config m n so.2 given) (counts_grows P config result n b counts))

pub passes_grows : {W : Type 0} (P : PlainEvent → Type 0) (ticks : ℕ) (config : Config) (a b : DriverView W) → OnTimedEvents P
    → Passes ticks config a b → Grows P a b
passes_grows P ticks config a b so (m, each, last) = grows_trans P a m b
    (grows_each P config (λ i. Plays then TicksOnce) ticks (λ c a b. tick_grows P config a b so) a m each) (all_plays P config m b so last)

-- ---- writes

-- Each Took and each Close of the port satisfies `P`.
abbrev pub OnPortEvents : (PlainEvent → Type 0) → Port → Type 0
OnPortEvents P port = ((n : ℕ) → P (Took port n)) × P (Close port)

pub ends_write_grows : {W : Type 0} (P : PlainEvent → Type 0) (hears : W → Heard → W → Type 0) (port : Port) (answer : Answer ℕ)
    (config : Config) (a b : DriverView W) → OnPortEvents P port → EndsWrite hears port answer config a b → Grows P a b
ends_write_grows P hears port (Got n) config a b so h = happens_grows P (Took port n) config a b (so.0 n) h
ends_write_grows P hears port Pending config a b so is = grows_refl P a b is
ends_write_grows P hears (Conn c) Failed config a b so h = closes_grows P hears c config a b so.1 h
ends_write_grows P hears (Intr c) Failed config a b so (m, hangs, applies) =
    grows_trans P a m b (closes_channel_on_grows P hears c (dialed_of c a) config a m hangs)
    (happens_grows P (Close (Intr c)) config m b so.1 applies)

pub writes_grows : {W : Type 0} (P : PlainEvent → Type 0) (hears : W → Heard → W → Type 0) (port : Port) (config : Config)
    (a b : DriverView W) → OnPortEvents P port → WritesTo hears port config a b → Grows P a b
writes_grows P hears port config a b so (bytes, waits, inl (none, is)) = grows_refl P a b is
writes_grows P hears port config a b so (bytes, waits, inr (some, answer, few, (m, heard, ends))) =
    grows_trans P a m b (hears_grows P hears _ config a m heard) (ends_write_grows P hears port answer config m b so ends)

ends_if_grows : {W : Type 0} (P : PlainEvent → Type 0) (hears : W → Heard → W → Type 0) (c : ℕ) (so : Bool) (config : Config)
    (a b : DriverView W) → P (Close (Conn c)) → EndsIf hears c so config a b → Grows P a b
ends_if_grows P hears c false config a b close is = grows_refl P a b is
ends_if_grows P hears c true config a b close (bytes, waits, h) = by (length bytes == 0) h
  where
    by : (so : Bool) → ClosesIf hears c so config a b → Grows P a b
    by true h = closes_grows P hears c config a b close h
    by false is = grows_refl P a b is

pub ends_grows : {W : Type 0} (P : PlainEvent → Type 0) (hears : W → Heard → W → Type 0) (c : ℕ) (config : Config) (a b : DriverView W)
    → P (Close (Conn c)) → Ends hears c config a b → Grows P a b
ends_grows P hears c config a b close (faulted, is, h) = ends_if_grows P hears c faulted config a b close h

-- ---- calls are taken

turn_grows : {W : Type 0} (P : PlainEvent → Type 0) (c : ℕ) (result : Result Did Refused) (config : Config) (a b : DriverView W)
    → P (Refuse c) → EndsTurn c result config a b → Grows P a b
turn_grows P c (Ok did) config a b so is = grows_refl P a b is
turn_grows P c (Err refused) config a b so h = by (is_no_memory refused) h
  where
    by : (so : Bool) → RefusesIf c so config a b → Grows P a b
    by true h = happens_grows P (Refuse c) config a b so h
    by false is = grows_refl P a b is

pub turns_grows : {W : Type 0} (P : PlainEvent → Type 0) (c : ℕ) (config : Config) (a b : DriverView W) → P (Turn c) → P (Refuse c)
    → Turns c config a b → Grows P a b
turns_grows P c config a b turn refuse (ready, is, h) = by ready h
  where
    by : (ready : Bool) → TurnsIf c ready config a b → Grows P a b
    by false is = grows_refl P a b is
    by true (result, (m, given, ends)) =
        grows_trans P a m b (given_grows P (Turn c) result config a m turn given) (turn_grows P c result config m b refuse ends)

-- At most one call is taken, and it is one of this connection.
abbrev pub Takes : {W : Type 0} → ℕ → DriverView W → DriverView W → Type 0
Takes c a b = (events : List PlainEvent) × (b.history ≡ events ++ a.history)
    × ((d : ℕ) → length (filter (takes_call d) events) ≤ cond (eqb c d) 1 0)

takes_none : {W : Type 0} (c : ℕ) (a b : DriverView W) → b.history ≡ a.history → Takes c a b
takes_none c a b is = ([], is, λ d. omega arith)

one_at_most : (b : Bool) (event : PlainEvent) → length (cond b (event ∷ []) []) ≤ cond b 1 0
one_at_most true event = omega arith
one_at_most false event = omega arith

takes_turn : {W : Type 0} (c : ℕ) (result : Result Did Refused) (config : Config) (a m b : DriverView W)
    → Given (Turn c) result config a m → EndsTurn c result config m b → Takes c a b
takes_turn c (Ok did) config a m b (log, was, answers, is) same =
    (Turn c ∷ [], ap (λ m. m.history) same ∙ ap (λ m. m.history) is, λ d. one_at_most (eqb c d) (Turn c))
takes_turn c (Err refused) config a m b (log, was, answers, is) ends = by (is_no_memory refused) ends
  where
    by : (so : Bool) → RefusesIf c so config m b → Takes c a b
    by true (log, was, answers, to) = (
      Refuse c ∷ [],
      ap (λ m. m.history) to ∙ ap (λ (l : List PlainEvent). Refuse c ∷ l) (ap (λ m. m.history) is),
      λ d. one_at_most (eqb c d) (Refuse c),
    )
    by false same = takes_none c a b (ap (λ m. m.history) same ∙ ap (λ m. m.history) is)

takes_if : {W : Type 0} (c : ℕ) (ready : Bool) (config : Config) (a b : DriverView W) → TurnsIf c ready config a b → Takes c a b
takes_if c false config a b same = takes_none c a b (ap (λ m. m.history) same)
takes_if c true config a b (result, (m, given, ends)) = takes_turn c result config a m b given ends

-- At most one call of each connection below this number is taken, and no other call.
abbrev pub TakesBelow : {W : Type 0} → ℕ → DriverView W → DriverView W → Type 0
TakesBelow n a b = (events : List PlainEvent) × (b.history ≡ events ++ a.history)
    × ((d : ℕ) → (length (filter (takes_call d) events) ≤ 1) × (n ≤ d → length (filter (takes_call d) events) ≡ 0))

count_join : (d : ℕ) (ys xs : List PlainEvent)
    → length (filter (takes_call d) (ys ++ xs)) ≡ length (filter (takes_call d) ys) + length (filter (takes_call d) xs)
count_join d ys xs = ap length (filter-append (takes_call d) ys xs)
    ∙ length-append (filter (takes_call d) ys) (filter (takes_call d) xs)

below_more : (n d x y : ℕ) (same : Bool) → (same ≡ true → n ≡ d) → y ≤ cond same 1 0 → (x ≤ 1) × (n ≤ d → x ≡ 0)
    → (y + x ≤ 1) × (suc n ≤ d → y + x ≡ 0)
below_more n d x y true is le h =
    let e = is refl in let none = h.1 (omega (arith, e)) in (omega (arith, le, none), λ lt. absurd (omega (arith, lt, e)))
below_more n d x y false is le h =
    let few = h.0 in (omega (arith, le, few), λ lt. let none = h.1 (omega (arith, lt)) in omega (arith, le, none))

pub takes_below : {W : Type 0} (n : ℕ) (config : Config) (a b : DriverView W) → ForEach n Turns config a b → TakesBelow n a b
takes_below zero config a b same = ([], ap (λ m. m.history) same, λ d. (omega arith, λ le. refl))
takes_below (suc n) config a b (m, front, (ready, is, h)) =
    let (xs, x, few) = takes_below n config a m front in
    let (ys, y, one) = takes_if n ready config m b h in (
      ys ++ xs,
      y ∙ ap (λ (l : List PlainEvent). ys ++ l) x ∙ sym (append_assoc ys xs a.history),
      λ d. subst (λ (k : ℕ). (k ≤ 1) × (suc n ≤ d → k ≡ 0)) (sym (count_join d ys xs))
          (below_more n d (length (filter (takes_call d) xs)) (length (filter (takes_call d) ys)) (eqb n d) (eqb-true n d) (one d) (few d)),
    )

not_taking : (d : ℕ) (event : PlainEvent) → is_taking event ≡ false → takes_call d event ≡ false
not_taking d (Turn c) e = absurd cc
not_taking d (Refuse c) e = absurd cc
not_taking d _ e = refl

pub none_taken : (d : ℕ) (events : List PlainEvent) → AllByRecursion (λ event. is_taking event ≡ false) events
    → length (filter (takes_call d) events) ≡ 0
none_taken d [] h = refl
none_taken d (event ∷ events) h = rw (not_taking d event h.0) (none_taken d events h.1)

pub once_taken : (d : ℕ) (later turns earlier : List PlainEvent) → AllByRecursion (λ event. is_taking event ≡ false) later
    → AllByRecursion (λ event. is_taking event ≡ false) earlier → length (filter (takes_call d) turns) ≤ 1
    → length (filter (takes_call d) (later ++ (turns ++ earlier))) ≤ 1
once_taken d later turns earlier h k le =
    let a = count_join d later (turns ++ earlier) in
    let b = count_join d turns earlier in
    let x = none_taken d later h in
    let y = none_taken d earlier k in omega (arith, a, b, x, y, le)
