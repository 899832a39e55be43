-- Each step over a wire is a step over the trace of what the wire was asked and answered.
use Rattle.std.proofs.Common.{◌≡◌, ℕ, zero, suc, Bool, true, false, List, [], ◌∷◌, ◌++◌, length, Option, Some, None, Result, Ok, Err, refl, sym, ap, subst, ◌∙◌, inl, inr, append_assoc}
use Rattle.std.specs.Prelude.{◌==◌, ◌||◌, ⊤}
use Rattle.sv_history.specs.declared.event.Config.{Config}
use Rattle.sv_history.specs.declared.event.Dial.{Dial}
use Rattle.sv_history.specs.declared.event.Did.{Did}
use Rattle.sv_history.specs.declared.event.Did.TheVariants.{Done}
use Rattle.sv_history.specs.declared.event.Refused.{Refused}
use Rattle.sv_history.specs.declared.event.Role.{Role}
use Rattle.sv_history.specs.declared.event.Role.TheVariants.{Core, Abort, Portmap}
use Rattle.sv_history.specs.declared.event.Port.{Port}
use Rattle.sv_history.specs.declared.event.Port.TheVariants.{Conn, Intr}
use Rattle.sv_history.specs.Event.{PlainEvent, Turn, Tick, Close, Dialed}
use Rattle.sv_history.specs.Print.{is_no_memory}
use Rattle.sv_replay.specs.Entry.{stimulus_event}
use Rattle.sv_replay.specs.declared.entry.Stimulus.{Stimulus}
use Rattle.sv_serve.specs.declared.wire.Answer.{Answer}
use Rattle.sv_serve.specs.declared.wire.Answer.TheVariants.{Got, Pending, Failed}
use Rattle.sv_serve.specs.Heard.{Heard, WasClosed, Through}
use Rattle.sv_serve.specs.DriverView.{DriverView, ForEach, ◌then◌}
use Rattle.sv_serve.specs.Asked.{IsLowest}
use Rattle.sv_serve.specs.Steps.{Hears, Given, IsApplied, Remembers, dialed_of, is_wanted, Opens, Accepts, ClosesChannelOn, ClosesChannel, Closes, ClosesIf, Comes, Drops, ProbesIf, ReadsFrom, RefusesIf, EndsTurn, TurnsIf, Turns, KeepsDial, CancelsUnwanted, LetsGo, ConnectResult, PollResult, DialsFor, Connects, Dials, BreaksOff, EndsWrite, WritesTo, EndsIf, Ends}
use Rattle.sv_serve.specs.Sweep.{PlaysOne, Plays, Counts, TicksOnce, Passes, Stimulates, Sweeps}
use Rattle.sv_driver_laws.proofs.Keeps.{through_join}

-- The wire whose state is the trace of its own answers.
abbrev pub Records : List Heard → Heard → List Heard → Type 0
Records before heard after = after ≡ heard ∷ before

abbrev pub Step : Type 0 → Type 1
Step W = Config → DriverView W → DriverView W → Type 0

-- The state with this trace in place of the wire.
abbrev pub over_trace : {W : Type 0} → DriverView W → List Heard → DriverView (List Heard)
over_trace a trace = record { wire = trace; history = a.history; dials = a.dials; ahead = a.ahead; ticks = a.ticks }

-- The answers that lead from one state of the wire to the other lead from one trace to the other.
abbrev pub Along : {W : Type 0} → (W → Heard → W → Type 0) → List Heard → W → List Heard → W → Type 0
Along hears trace from later to = (piece : List Heard) × (later ≡ piece ++ trace) × Through hears piece from to

-- The step, taken over the recorded trace instead of the wire.
abbrev pub Lifts : {W : Type 0} → (W → Heard → W → Type 0) → Step (List Heard) → Config → DriverView W → DriverView W → List Heard → Type 0
Lifts hears step config a b trace = (later : List Heard) × Along hears trace a.wire later b.wire
    × step config (over_trace a trace) (over_trace b later)

along_none : {W : Type 0} (hears : W → Heard → W → Type 0) (trace : List Heard) (from to : W) → to ≡ from → Along hears trace from trace to
along_none hears trace from to is = ([], refl, is)

along_then : {W : Type 0} (hears : W → Heard → W → Type 0) (trace between later : List Heard) (from mid to : W)
    → Along hears trace from between mid → Along hears between mid later to → Along hears trace from later to
along_then hears trace between later from mid to (one, x, h) (other, y, k) =
    (other ++ one, y ∙ ap (λ l. other ++ l) x ∙ sym (append_assoc other one trace), through_join hears one other from mid to h k)

pub lift_then : {W : Type 0} (hears : W → Heard → W → Type 0) (one other : Step (List Heard)) (config : Config) (a m b : DriverView W)
    (trace : List Heard) → Lifts hears one config a m trace → ((between : List Heard) → Lifts hears other config m b between)
    → Lifts hears (one then other) config a b trace
lift_then hears one other config a m b trace (between, along, x) next =
    let last = next between in
    (last.0, along_then hears trace between last.0 a.wire m.wire b.wire along last.1, (over_trace m between, x, last.2))

pub lift_each : {W : Type 0} (hears : W → Heard → W → Type 0) (step : ℕ → Step W) (on : ℕ → Step (List Heard)) (config : Config) (n : ℕ)
    → ((c : ℕ) (a b : DriverView W) (trace : List Heard) → step c config a b → Lifts hears (on c) config a b trace)
    → (a b : DriverView W) (trace : List Heard) → ForEach n step config a b → Lifts hears (ForEach n on) config a b trace
lift_each hears step on config zero each a b trace is =
    (trace, along_none hears trace a.wire b.wire (ap (λ m. m.wire) is), ap (λ m. over_trace m trace) is)
lift_each hears step on config (suc n) each a b trace (m, front, last) =
    let (between, along, x) = lift_each hears step on config n each a m trace front in
    let (later, more, y) = each n m b between last in
    (later, along_then hears trace between later a.wire m.wire b.wire along more, (over_trace m between, x, y))

pub lift_same : {W : Type 0} (hears : W → Heard → W → Type 0) (config : Config) (a b : DriverView W) (trace : List Heard) → b ≡ a
    → Lifts hears (λ config x y. y ≡ x) config a b trace
lift_same hears config a b trace is =
    (trace, along_none hears trace a.wire b.wire (ap (λ m. m.wire) is), ap (λ m. over_trace m trace) is)

pub lift_heard : {W : Type 0} (hears : W → Heard → W → Type 0) (heard : Heard) (config : Config) (a b : DriverView W) (trace : List Heard)
    → Hears hears heard config a b → Lifts hears (Hears Records heard) config a b trace
lift_heard hears heard config a b trace (wire, was, is) = (
  heard ∷ trace,
  (heard ∷ [], refl, (a.wire, refl, subst (λ w. hears a.wire heard w) (sym (ap (λ m. m.wire) is)) was)),
  (heard ∷ trace, refl, ap (λ m. over_trace m (heard ∷ trace)) is),
)

pub lift_given : {W : Type 0} (hears : W → Heard → W → Type 0) (event : PlainEvent) (result : Result Did Refused) (config : Config)
    (a b : DriverView W) (trace : List Heard) → Given event result config a b → Lifts hears (Given event result) config a b trace
lift_given hears event result config a b trace (log, was, answers, is) = (
  trace,
  along_none hears trace a.wire b.wire (ap (λ m. m.wire) is),
  (log, was, answers, ap (λ m. over_trace m trace) is),
)

pub lift_remembers : {W : Type 0} (hears : W → Heard → W → Type 0) (c : ℕ) (dial : Option Dial) (config : Config) (a b : DriverView W)
    (trace : List Heard) → Remembers c dial config a b → Lifts hears (Remembers c dial) config a b trace
lift_remembers hears c dial config a b trace is =
    (trace, along_none hears trace a.wire b.wire (ap (λ m. m.wire) is), ap (λ m. over_trace m trace) is)

pub lift_opens : {W : Type 0} (hears : W → Heard → W → Type 0) (role : Role) (number : Option ℕ) (answer : Answer ⊤) (config : Config)
    (a b : DriverView W) (trace : List Heard) → Opens role number answer config a b
    → Lifts hears (Opens role number answer) config a b trace
lift_opens hears role (Some c) (Got all) config a b trace h = lift_given hears _ (Ok Done) config a b trace h
lift_opens hears role _ _ config a b trace h = lift_same hears config a b trace h

pub lift_accepts : {W : Type 0} (hears : W → Heard → W → Type 0) (role : Role) (config : Config) (a b : DriverView W) (trace : List Heard)
    → Accepts hears role config a b → Lifts hears (Accepts Records role) config a b trace
lift_accepts hears role config a b trace (number, answer, low, (m, heard, opens)) =
    let (later, along, h) = lift_then hears (Hears Records _) (Opens role number answer) config a m b trace
    (lift_heard hears _ config a m trace heard) (λ t. lift_opens hears role number answer config m b t opens) in
    (later, along, (number, answer, lowest number low, h))
  where
    lowest : (number : Option ℕ) → IsLowest number config a → IsLowest number config (over_trace a trace)
    lowest (Some c) h = h
    lowest None h = h

pub lift_closes_channel_on : {W : Type 0} (hears : W → Heard → W → Type 0) (c : ℕ) (found : Option Dial) (config : Config)
    (a b : DriverView W)
    (trace : List Heard) → ClosesChannelOn hears c found config a b → Lifts hears (ClosesChannelOn Records c found) config a b trace
lift_closes_channel_on hears c None config a b trace is = lift_same hears config a b trace is
lift_closes_channel_on hears c (Some dial) config a b trace (m, heard, notes) =
    lift_then hears (Hears Records (WasClosed (Intr c))) (Remembers c None) config a m b trace
    (lift_heard hears _ config a m trace heard) (λ t. lift_remembers hears c None config m b t notes)

pub lift_closes : {W : Type 0} (hears : W → Heard → W → Type 0) (c : ℕ) (config : Config) (a b : DriverView W) (trace : List Heard)
    → Closes hears c config a b → Lifts hears (Closes Records c) config a b trace
lift_closes hears c config a b trace (m, heard, (n, hangs, applies)) =
    lift_then hears (Hears Records (WasClosed (Conn c))) (ClosesChannel Records c then IsApplied (Close (Conn c))) config a m b trace
    (lift_heard hears _ config a m trace heard)
    (λ t. lift_then hears (ClosesChannel Records c) (IsApplied (Close (Conn c))) config m n b t
    (lift_closes_channel_on hears c (dialed_of c m) config m n t hangs) (λ u. lift_given hears _ (Ok Done) config n b u applies))

pub lift_comes : {W : Type 0} (hears : W → Heard → W → Type 0) (c : ℕ) (answer : Answer (List ℕ)) (config : Config) (a b : DriverView W)
    (trace : List Heard) → Comes hears c answer config a b → Lifts hears (Comes Records c answer) config a b trace
lift_comes hears c (Got bytes) config a b trace h = lift_given hears _ (Ok Done) config a b trace h
lift_comes hears c Pending config a b trace is = lift_same hears config a b trace is
lift_comes hears c Failed config a b trace h = lift_closes hears c config a b trace h

pub lift_drops : {W : Type 0} (hears : W → Heard → W → Type 0) (c : ℕ) (answer : Answer ⊤) (config : Config) (a b : DriverView W)
    (trace : List Heard) → Drops hears c answer config a b → Lifts hears (Drops Records c answer) config a b trace
lift_drops hears c (Got all) config a b trace is = lift_same hears config a b trace is
lift_drops hears c Pending config a b trace is = lift_same hears config a b trace is
lift_drops hears c Failed config a b trace h = lift_closes hears c config a b trace h

pub lift_probes : {W : Type 0} (hears : W → Heard → W → Type 0) (c : ℕ) (opened : Bool) (config : Config) (a b : DriverView W)
    (trace : List Heard) → ProbesIf hears c opened config a b → Lifts hears (ProbesIf Records c opened) config a b trace
lift_probes hears c false config a b trace is = lift_same hears config a b trace is
lift_probes hears c true config a b trace (drops, answer, overlong, (m, heard, gone)) =
    let (later, along, h) = lift_then hears (Hears Records _) (Drops Records c answer) config a m b trace
    (lift_heard hears _ config a m trace heard) (λ t. lift_drops hears c answer config m b t gone) in
    (later, along, (drops, answer, overlong, h))

pub lift_reads : {W : Type 0} (hears : W → Heard → W → Type 0) (c : ℕ) (config : Config) (a b : DriverView W) (trace : List Heard)
    → ReadsFrom hears c config a b → Lifts hears (ReadsFrom Records c) config a b trace
lift_reads hears c config a b trace (room, has, inl (none, (opened, is_open, probes))) =
    let (later, along, h) = lift_probes hears c opened config a b trace probes in
    (later, along, (room, has, inl (none, (opened, is_open, h))))
lift_reads hears c config a b trace (room, has, inr (some, answer, few, (m, heard, comes))) =
    let (later, along, h) = lift_then hears (Hears Records _) (Comes Records c answer) config a m b trace
    (lift_heard hears _ config a m trace heard) (λ t. lift_comes hears c answer config m b t comes) in
    (later, along, (room, has, inr (some, answer, few, h)))

pub lift_refuses : {W : Type 0} (hears : W → Heard → W → Type 0) (c : ℕ) (so : Bool) (config : Config) (a b : DriverView W)
    (trace : List Heard) → RefusesIf c so config a b → Lifts hears (RefusesIf c so) config a b trace
lift_refuses hears c true config a b trace h = lift_given hears _ (Ok Done) config a b trace h
lift_refuses hears c false config a b trace is = lift_same hears config a b trace is

pub lift_ends_turn : {W : Type 0} (hears : W → Heard → W → Type 0) (c : ℕ) (result : Result Did Refused) (config : Config)
    (a b : DriverView W) (trace : List Heard) → EndsTurn c result config a b → Lifts hears (EndsTurn c result) config a b trace
lift_ends_turn hears c (Ok did) config a b trace is = lift_same hears config a b trace is
lift_ends_turn hears c (Err refused) config a b trace h = lift_refuses hears c (is_no_memory refused) config a b trace h

lift_turns_if : {W : Type 0} (hears : W → Heard → W → Type 0) (c : ℕ) (ready : Bool) (config : Config) (a b : DriverView W)
    (trace : List Heard) → TurnsIf c ready config a b → Lifts hears (TurnsIf c ready) config a b trace
lift_turns_if hears c false config a b trace is = lift_same hears config a b trace is
lift_turns_if hears c true config a b trace (result, (m, given, ends)) =
    let (later, along, h) = lift_then hears (Given (Turn c) result) (EndsTurn c result) config a m b trace
    (lift_given hears _ result config a m trace given) (λ t. lift_ends_turn hears c result config m b t ends) in
    (later, along, (result, h))

pub lift_turns : {W : Type 0} (hears : W → Heard → W → Type 0) (c : ℕ) (config : Config) (a b : DriverView W) (trace : List Heard)
    → Turns c config a b → Lifts hears (Turns c) config a b trace
lift_turns hears c config a b trace (ready, is, h) =
    let (later, along, k) = lift_turns_if hears c ready config a b trace h in (later, along, (ready, is, k))

pub lift_keeps_dial : {W : Type 0} (hears : W → Heard → W → Type 0) (c : ℕ) (so : Bool) (config : Config) (a b : DriverView W)
    (trace : List Heard) → KeepsDial hears c so config a b → Lifts hears (KeepsDial Records c so) config a b trace
lift_keeps_dial hears c true config a b trace is = lift_same hears config a b trace is
lift_keeps_dial hears c false config a b trace h = lift_closes_channel_on hears c (dialed_of c a) config a b trace h

pub lift_cancels : {W : Type 0} (hears : W → Heard → W → Type 0) (c : ℕ) (dialed : Option Dial) (config : Config) (a b : DriverView W)
    (trace : List Heard) → CancelsUnwanted hears c dialed config a b → Lifts hears (CancelsUnwanted Records c dialed) config a b trace
lift_cancels hears c None config a b trace is = lift_same hears config a b trace is
lift_cancels hears c (Some dialed) config a b trace (channel, wanted, opened, wants, h) =
    let (later, along, k) = lift_keeps_dial hears c (channel || is_wanted dialed wanted) config a b trace h in
    (later, along, (channel, wanted, opened, wants, k))

pub lift_connect_result : {W : Type 0} (hears : W → Heard → W → Type 0) (c : ℕ) (dial : Dial) (answer : Answer ⊤) (config : Config)
    (a b : DriverView W) (trace : List Heard) → ConnectResult c dial answer config a b
    → Lifts hears (ConnectResult c dial answer) config a b trace
lift_connect_result hears c dial (Got all) config a b trace (m, notes, applies) =
    lift_then hears (Remembers c (Some dial)) (IsApplied (Dialed c true)) config a m b trace
    (lift_remembers hears c (Some dial) config a m trace notes) (λ t. lift_given hears _ (Ok Done) config m b t applies)
lift_connect_result hears c dial Pending config a b trace notes = lift_remembers hears c (Some dial) config a b trace notes
lift_connect_result hears c dial Failed config a b trace applies = lift_given hears _ (Ok Done) config a b trace applies

pub lift_poll_result : {W : Type 0} (hears : W → Heard → W → Type 0) (c : ℕ) (answer : Answer ⊤) (config : Config) (a b : DriverView W)
    (trace : List Heard) → PollResult hears c answer config a b → Lifts hears (PollResult Records c answer) config a b trace
lift_poll_result hears c (Got all) config a b trace applies = lift_given hears _ (Ok Done) config a b trace applies
lift_poll_result hears c Pending config a b trace is = lift_same hears config a b trace is
lift_poll_result hears c Failed config a b trace (m, hangs, applies) =
    lift_then hears (ClosesChannel Records c) (IsApplied (Dialed c false)) config a m b trace
    (lift_closes_channel_on hears c (dialed_of c a) config a m trace hangs) (λ t. lift_given hears _ (Ok Done) config m b t applies)

pub lift_dials_for : {W : Type 0} (hears : W → Heard → W → Type 0) (c : ℕ) (wanted dialed : Option Dial) (config : Config)
    (a b : DriverView W) (trace : List Heard) → DialsFor hears c wanted dialed config a b
    → Lifts hears (DialsFor Records c wanted dialed) config a b trace
lift_dials_for hears c None dialed config a b trace is = lift_same hears config a b trace is
lift_dials_for hears c (Some dial) None config a b trace (answer, (m, heard, h)) =
    let (later, along, k) = lift_then hears (Hears Records _) (ConnectResult c dial answer) config a m b trace
    (lift_heard hears _ config a m trace heard) (λ t. lift_connect_result hears c dial answer config m b t h) in
    (later, along, (answer, k))
lift_dials_for hears c (Some dial) (Some dialed) config a b trace (answer, (m, heard, h)) =
    let (later, along, k) = lift_then hears (Hears Records _) (PollResult Records c answer) config a m b trace
    (lift_heard hears _ config a m trace heard) (λ t. lift_poll_result hears c answer config m b t h) in
    (later, along, (answer, k))

pub lift_connects : {W : Type 0} (hears : W → Heard → W → Type 0) (c : ℕ) (config : Config) (a b : DriverView W) (trace : List Heard)
    → Connects hears c config a b → Lifts hears (Connects Records c) config a b trace
lift_connects hears c config a b trace (wanted, wants, h) =
    let (later, along, k) = lift_dials_for hears c wanted (dialed_of c a) config a b trace h in (later, along, (wanted, wants, k))

pub lift_dials : {W : Type 0} (hears : W → Heard → W → Type 0) (c : ℕ) (config : Config) (a b : DriverView W) (trace : List Heard)
    → Dials hears c config a b → Lifts hears (Dials Records c) config a b trace
lift_dials hears c config a b trace (m, goes, calls) = lift_then hears (LetsGo Records c) (Connects Records c) config a m b trace
    (lift_cancels hears c (dialed_of c a) config a m trace goes) (λ t. lift_connects hears c config m b t calls)

pub lift_breaks : {W : Type 0} (hears : W → Heard → W → Type 0) (port : Port) (config : Config) (a b : DriverView W) (trace : List Heard)
    → BreaksOff hears port config a b → Lifts hears (BreaksOff Records port) config a b trace
lift_breaks hears (Conn c) config a b trace h = lift_closes hears c config a b trace h
lift_breaks hears (Intr c) config a b trace (m, hangs, applies) =
    lift_then hears (ClosesChannel Records c) (IsApplied (Close (Intr c))) config a m b trace
    (lift_closes_channel_on hears c (dialed_of c a) config a m trace hangs) (λ t. lift_given hears _ (Ok Done) config m b t applies)

pub lift_ends_write : {W : Type 0} (hears : W → Heard → W → Type 0) (port : Port) (answer : Answer ℕ) (config : Config) (a b : DriverView W)
    (trace : List Heard) → EndsWrite hears port answer config a b → Lifts hears (EndsWrite Records port answer) config a b trace
lift_ends_write hears port (Got n) config a b trace h = lift_given hears _ (Ok Done) config a b trace h
lift_ends_write hears port Pending config a b trace is = lift_same hears config a b trace is
lift_ends_write hears port Failed config a b trace h = lift_breaks hears port config a b trace h

pub lift_writes : {W : Type 0} (hears : W → Heard → W → Type 0) (port : Port) (config : Config) (a b : DriverView W) (trace : List Heard)
    → WritesTo hears port config a b → Lifts hears (WritesTo Records port) config a b trace
lift_writes hears port config a b trace (bytes, waits, inl (none, is)) =
    let (later, along, k) = lift_same hears config a b trace is in (later, along, (bytes, waits, inl (none, k)))
lift_writes hears port config a b trace (bytes, waits, inr (some, answer, few, (m, heard, ends))) =
    let (later, along, k) = lift_then hears (Hears Records _) (EndsWrite Records port answer) config a m b trace
    (lift_heard hears _ config a m trace heard) (λ t. lift_ends_write hears port answer config m b t ends) in
    (later, along, (bytes, waits, inr (some, answer, few, k)))

pub lift_closes_if : {W : Type 0} (hears : W → Heard → W → Type 0) (c : ℕ) (so : Bool) (config : Config) (a b : DriverView W)
    (trace : List Heard) → ClosesIf hears c so config a b → Lifts hears (ClosesIf Records c so) config a b trace
lift_closes_if hears c true config a b trace h = lift_closes hears c config a b trace h
lift_closes_if hears c false config a b trace is = lift_same hears config a b trace is

lift_ends_if : {W : Type 0} (hears : W → Heard → W → Type 0) (c : ℕ) (faulted : Bool) (config : Config) (a b : DriverView W)
    (trace : List Heard) → EndsIf hears c faulted config a b → Lifts hears (EndsIf Records c faulted) config a b trace
lift_ends_if hears c false config a b trace is = lift_same hears config a b trace is
lift_ends_if hears c true config a b trace (bytes, waits, h) =
    let (later, along, k) = lift_closes_if hears c (length bytes == 0) config a b trace h in (later, along, (bytes, waits, k))

pub lift_ends : {W : Type 0} (hears : W → Heard → W → Type 0) (c : ℕ) (config : Config) (a b : DriverView W) (trace : List Heard)
    → Ends hears c config a b → Lifts hears (Ends Records c) config a b trace
lift_ends hears c config a b trace (faulted, is, h) =
    let (later, along, k) = lift_ends_if hears c faulted config a b trace h in (later, along, (faulted, is, k))

-- ---- time passes

lift_plays_one : {W : Type 0} (hears : W → Heard → W → Type 0) (config : Config) (a b : DriverView W) (trace : List Heard)
    → PlaysOne config a b → Lifts hears PlaysOne config a b trace
lift_plays_one hears config a b trace (entry, others, m, first, due, (result, given), is) =
    let (later, along, k) = lift_given hears _ result config a m trace given in (
      later,
      subst (λ w. Along hears trace a.wire later w) (sym (ap (λ m. m.wire) is)) along,
      (entry, others, over_trace m later, first, due, (result, k), ap (λ m. over_trace m later) is),
    )

lift_plays : {W : Type 0} (hears : W → Heard → W → Type 0) (config : Config) (a b : DriverView W) (trace : List Heard)
    → Plays config a b → Lifts hears Plays config a b trace
lift_plays hears config a b trace (n, each, none) =
    let (later, along, k) = lift_each hears (λ i. PlaysOne) (λ i. PlaysOne) config n
    (λ c x y t. lift_plays_one hears config x y t) a b trace each in
    (later, along, (n, k, none))

lift_counts : {W : Type 0} (hears : W → Heard → W → Type 0) (result : Result Did Refused) (config : Config) (a b : DriverView W)
    (trace : List Heard) → Counts result config a b → Lifts hears (Counts result) config a b trace
lift_counts hears (Ok did) config a b trace is =
    (trace, along_none hears trace a.wire b.wire (ap (λ m. m.wire) is), ap (λ m. over_trace m trace) is)
lift_counts hears (Err refused) config a b trace is = lift_same hears config a b trace is

lift_tick : {W : Type 0} (hears : W → Heard → W → Type 0) (config : Config) (a b : DriverView W) (trace : List Heard)
    → TicksOnce config a b → Lifts hears TicksOnce config a b trace
lift_tick hears config a b trace (result, (m, given, counts)) =
    let (later, along, k) = lift_then hears (Given Tick result) (Counts result) config a m b trace
    (lift_given hears Tick result config a m trace given) (λ t. lift_counts hears result config m b t counts) in
    (later, along, (result, k))

pub lift_passes : {W : Type 0} (hears : W → Heard → W → Type 0) (ticks : ℕ) (config : Config) (a b : DriverView W) (trace : List Heard)
    → Passes ticks config a b → Lifts hears (Passes ticks) config a b trace
lift_passes hears ticks config a b trace (m, each, last) =
    lift_then hears (ForEach ticks (λ i. Plays then TicksOnce)) Plays config a m b trace
    (lift_each hears (λ i. Plays then TicksOnce) (λ i. Plays then TicksOnce) config ticks
    (λ c x y t h. lift_then hears Plays TicksOnce config x h.0 y t (lift_plays hears config x h.0 t h.1)
    (λ u. lift_tick hears config h.0 y u h.2)) a m trace each)
    (λ t. lift_plays hears config m b t last)

pub lift_stimulates : {W : Type 0} (hears : W → Heard → W → Type 0) (stimulus : Stimulus) (config : Config) (a b : DriverView W)
    (trace : List Heard) → Stimulates stimulus config a b → Lifts hears (Stimulates stimulus) config a b trace
lift_stimulates hears stimulus config a b trace (m, played, applied) =
    lift_then hears Plays (IsApplied (stimulus_event stimulus)) config a m b trace (lift_plays hears config a m trace played)
    (λ t. lift_given hears (stimulus_event stimulus) (Ok Done) config m b t applied)

-- ---- a sweep

pub lift_sweep : {W : Type 0} (hears : W → Heard → W → Type 0) (ticks : ℕ) (config : Config) (a b : DriverView W) (trace : List Heard)
    → Sweeps hears ticks config a b → Lifts hears (Sweeps Records ticks) config a b trace
lift_sweep hears ticks config m0 m10 trace
    (m1, s1, (m2, s2, (m3, s3, (m4, s4, (m5, s5, (m6, s6, (m7, s7, (m8, s8, (m9, s9, s10))))))))) =
    let (t1, a1, k1) = lift_accepts hears Core config m0 m1 trace s1 in
    let (t2, a2, k2) = lift_accepts hears Abort config m1 m2 t1 s2 in
    let (t3, a3, k3) = lift_accepts hears Portmap config m2 m3 t2 s3 in
    let (t4, a4, k4) = lift_each hears (ReadsFrom hears) (ReadsFrom Records) config 16 (λ c. lift_reads hears c config) m3 m4 t3 s4 in
    let (t5, a5, k5) = lift_each hears Turns Turns config 16 (λ c. lift_turns hears c config) m4 m5 t4 s5 in
    let (t6, a6, k6) = lift_each hears (Dials hears) (Dials Records) config 16 (λ c. lift_dials hears c config) m5 m6 t5 s6 in
    let (t7, a7, k7) = lift_passes hears ticks config m6 m7 t6 s7 in
    let (t8, a8, k8) = lift_each hears (λ c. WritesTo hears (Conn c)) (λ c. WritesTo Records (Conn c)) config 16
    (λ c. lift_writes hears (Conn c) config) m7 m8 t7 s8 in
    let (t9, a9, k9) = lift_each hears (λ c. WritesTo hears (Intr c)) (λ c. WritesTo Records (Intr c)) config 16
    (λ c. lift_writes hears (Intr c) config) m8 m9 t8 s9 in
    let (t10, a10, k10) = lift_each hears (Ends hears) (Ends Records) config 16 (λ c. lift_ends hears c config) m9 m10 t9 s10 in
    let follow = λ (t u : List Heard) (m n : DriverView _) (h : Along hears trace m0.wire t m.wire) (k : Along hears t m.wire u n.wire).
    along_then hears trace t u m0.wire m.wire n.wire h k in (
      t10,
      follow t9 t10 m9 m10 (follow t8 t9 m8 m9 (follow t7 t8 m7 m8 (follow t6 t7 m6 m7 (follow t5 t6 m5 m6 (follow t4 t5 m4 m5
          (follow t3 t4 m3 m4
          (follow t2 t3 m2 m3 (follow t1 t2 m1 m2 a1 a2) a3) a4) a5) a6) a7) a8) a9) a10,
      (
        over_trace m1 t1,
        k1,
        (
          over_trace m2 t2,
          k2,
          (
            over_trace m3 t3,
            k3,
            (
              over_trace m4 t4,
              k4,
              (
                over_trace m5 t5,
                k5,
                (
                  over_trace m6 t6,
                  k6,
                  (
                    over_trace m7 t7,
                    k7,
                    (
                      over_trace m8 t8,
                      k8,
                      (over_trace m9 t9, k9, k10),
                    ),
                  ),
                ),
              ),
            ),
          ),
        ),
      ),
    )
