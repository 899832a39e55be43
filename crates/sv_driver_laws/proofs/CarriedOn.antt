-- Any number of sweeps satisfies `Carried`, and two runs of sweeps satisfy `Determined`.
use Rattle.std.proofs.Common.{◌≡◌, ℕ, ◌≤◌, ◌-◌, true, false, List, [], ◌∷◌, ◌++◌, filter, flat_map, nat_lt, ◌⊎◌, inl, inr, Option, None, refl, sym, ap, subst, ◌∙◌}
use Rattle.std.specs.Prelude.{not}
use Rattle.std.proofs.lemmas.List.{append_cancel_right}
use Rattle.sv_links.specs.Channels.{ChannelAct, is_channel_open, bytes_taken as channel_taken, calls}
use Rattle.sv_history.specs.declared.event.Config.{Config}
use Rattle.sv_history.specs.declared.event.Dial.{Dial}
use Rattle.sv_replay.specs.declared.entry.Entry.{Entry}
use Rattle.sv_replay.specs.declared.entry.Stimulus.{Stimulus}
use Rattle.sv_history.specs.Interrupts.{has_channel}
use Rattle.sv_history.specs.Requests.{HearsOf}
use Rattle.sv_history.proofs.Telling.{channel_open_by_channel_log}
use Rattle.sv_history.specs.declared.event.Port.{Port}
use Rattle.sv_history.specs.declared.event.Port.TheVariants.{Conn, Intr}
use Rattle.sv_history.specs.Event.{PlainEvent}
use Rattle.sv_history.specs.Act.{Act, ConnAct, of, device_acts}
use Rattle.sv_history.specs.Connection.{is_open, sent_on, waiting, waiting_on, bytes_sent}
use Rattle.sv_history.specs.History.{is_port_shut, last_clock, IsLogOf}
use Rattle.sv_history.proofs.AlwaysTold.{channel_log_exists}
use Rattle.sv_replay.specs.Scenario.{IsScenario}
use Rattle.sv_server.specs.Server.State.{StandsFor}
use Rattle.sv_driver_laws.specs.Timed.{handed_ticks, with_handed}
use Rattle.sv_driver_laws.proofs.Timing.{Played, played_before_sweeps, played_after_sweep, handed_in}
use Rattle.sv_serve.specs.Heard.{Heard, Through}
use Rattle.sv_serve.specs.DriverView.{DriverState, DriverView, Stands, driver_view}
use Rattle.sv_driver_laws.specs.Served.{event_of, is_outer}
use Rattle.sv_driver_laws.specs.Determined.{SameUntil, Determined}
use Rattle.sv_driver_laws.specs.Carried.{ClosesAtOnce, IsCarried, InSweeps, Carried}
use Rattle.sv_serve.specs.Sweep.{Handed, Passing, Stimulated, Swept, Stimulates, Sweeps}
use Rattle.sv_driver_laws.proofs.Ports.{ConnBytes, PortBytes, BytesMatch, came, went, untaken_calls_bytes}
use Rattle.sv_driver_laws.proofs.Reasons.{HasReasons, matching_append, closes_at_once_append}
use Rattle.sv_driver_laws.proofs.Handing.{HandsOver}
use Rattle.sv_driver_laws.proofs.LettingGo.{ClosesChannelsRightly}
use Rattle.sv_driver_laws.proofs.Keeps.{Subject, AllMay, through_join}
use Rattle.sv_driver_laws.proofs.Peers.{stimulates}
use Rattle.sv_driver_laws.proofs.Serving.{SweptOnce, sweep_once, serves}
use Rattle.sv_driver_laws.proofs.Recorded.{Records, over_trace, lift_stimulates, lift_sweep}
use Rattle.sv_driver_laws.proofs.Alike.{View, Forks, through_records}
use Rattle.sv_driver_laws.proofs.AlikeSweeps.{Runs, runs_alike}
use Rattle.std.proofs.lemmas.Bool.{not-false, or_parts}

keeping_none : (c : ℕ) (log : List Act) (channel_log : List ChannelAct) → log ≡ [] → HearsOf (device_acts log) channel_log
    → PortBytes c (of c log) channel_log []
keeping_none c log channel_log none hears_of =
    let untold : channel_log ≡ [] = rw none at hears_of in
    rw (none, untold) ((refl, (λ opened. absurd cc)), (λ opened. absurd cc))

record Over {W J : Type 0} (hears : W → Heard → W → Type 0) (notes : J → List PlainEvent → J → Type 0) (config : Config)
    (passed : List Handed) (start now : DriverState W J) (swept : Swept hears notes passed start now) : Type 0 where
  pub trace : List Heard
  pub history : List PlainEvent
  pub through : Through hears trace start.wire now.wire
  pub stands : Stands (notes start.journal) now config history
  pub told : filter is_outer history ≡ flat_map event_of trace
  pub keeping : BytesMatch config history trace
  pub once : ClosesAtOnce None trace
  pub reasons : HasReasons config history trace
  pub hands : HandsOver config history trace
  pub lets : ClosesChannelsRightly config history trace
  pub parts : InSweeps hears notes config start passed now swept history trace
  pub time : config.clock ≤ last_clock → start.ticks ≡ 0 → IsScenario 0 start.ahead
      → Played config (with_handed (last_clock - config.clock) passed start.ahead) (handed_ticks passed) (driver_view now history)
  pub runs : Runs config passed (over_trace (driver_view start []) []) (over_trace (driver_view now history) trace)

sends_by : (acts : List ConnAct) (came gone : List ℕ) → ConnBytes acts came gone → is_open acts ≡ true
    → gone ++ waiting acts ≡ bytes_sent acts
sends_by acts came gone h opened = rw opened (h.1 opened).0

sends_all : (port : Port) (log : List Act) (channel_log : List ChannelAct) (trace : List Heard) → HearsOf (device_acts log) channel_log
    → ((c : ℕ) → PortBytes c (of c log) channel_log trace) → is_port_shut port log ≡ false
    → went port trace ++ waiting_on channel_log port log ≡ sent_on channel_log port log
sends_all (Conn c) log channel_log trace tells all free =
    sends_by (of c log) (came c trace) (went (Conn c) trace) (all c).0
    (not-false (is_open (of c log)) (or_parts (nat_lt 15 c) (not (is_open (of c log))) free).1)
sends_all (Intr c) log channel_log trace tells all free =
    let opened : is_channel_open c channel_log ≡ true = channel_open_by_channel_log c (device_acts log) channel_log tells
    ∙ not-false (has_channel c (device_acts log)) (or_parts (nat_lt 15 c) (not (has_channel c (device_acts log))) free).1 in
    rw (opened, untaken_calls_bytes (channel_taken c channel_log) (calls c channel_log)) ((all c).1 opened).0

is_carried : {W J : Type 0} (hears : W → Heard → W → Type 0) (notes : J → List PlainEvent → J → Type 0) (config : Config)
    (passed : List Handed) (start now : DriverState W J) (swept : Swept hears notes passed start now)
    (all : Over hears notes config passed start now swept) → IsCarried config all.history all.trace
is_carried hears notes config passed start now swept all =
    let log = all.stands.0.log in
    let channel_log = channel_log_exists (device_acts log) in record {
      events = all.told;
      streams = λ c. (log, all.stands.0.is_log, sym (all.keeping log channel_log.0 all.stands.0.is_log channel_log.1 c).0.0);
      sends = λ port log channel_log is_log tells free. sends_all port log channel_log all.trace tells
          (all.keeping log channel_log is_log tells) free;
      hands = all.hands;
      failures = all.once;
      reasons = all.reasons;
      lets_go = all.lets;
    }

-- A sweep over a wire, taken as a sweep over the recorded trace.
record Traced {W : Type 0} (hears : W → Heard → W → Type 0) (config : Config) (ticks : ℕ) (x y : DriverView W) (trace : List Heard)
    : Type 0 where
  pub later : List Heard
  pub sweeps : Sweeps Records ticks config (over_trace x trace) (over_trace y later)
  pub swept : SweptOnce Records config (over_trace x trace) (over_trace y later)
  pub is : later ≡ swept.k.piece ++ trace
  pub through : Through hears swept.k.piece x.wire y.wire

traced : {W : Type 0} (hears : W → Heard → W → Type 0) (config : Config) (ticks : ℕ) (x y : DriverView W) (trace : List Heard)
    → Sweeps hears ticks config x y → Traced hears config ticks x y trace
traced hears config ticks x y trace h =
    let (later, (piece, is, through), sweeps) = lift_sweep hears ticks config x y trace h in
    let swept = sweep_once Records config ticks (over_trace x trace) (over_trace y later) sweeps in
    let all : later ≡ swept.k.piece ++ trace = through_records swept.k.piece trace later swept.k.through in
    record {
      later = later;
      sweeps = sweeps;
      swept = swept;
      is = all;
      through = subst (λ l. Through hears l x.wire y.wire) (append_cancel_right piece swept.k.piece trace (sym is ∙ all)) through;
    }

abbrev Nothing : Subject → Type 0
Nothing subject = ⊥

-- A step that may ask the wire nothing adds nothing to the trace.
asks_nothing_is_empty : (piece : List Heard) → AllMay Nothing piece → piece ≡ []
asks_nothing_is_empty [] may = refl
asks_nothing_is_empty (heard ∷ piece) may = absurd may.0

-- A stimulus over a wire is one over the recorded trace, to which it adds nothing.
stimulus_onto : {W : Type 0} (hears : W → Heard → W → Type 0) (config : Config) (stimulus : Stimulus) (x y : DriverView W)
    (trace : List Heard) → Stimulates stimulus config x y → Stimulates stimulus config (over_trace x trace) (over_trace y trace)
stimulus_onto hears config stimulus x y trace h =
    let (later, along, same) = lift_stimulates hears stimulus config x y trace h in
    let k = stimulates Records Nothing config stimulus (over_trace x trace) (over_trace y later) same in
    let is : later ≡ trace = through_records k.piece trace later k.through
    ∙ ap (λ (l : List Heard). l ++ trace) (asks_nothing_is_empty k.piece k.may) in
    subst (λ (l : List Heard). Stimulates stimulus config (over_trace x trace) (over_trace y l)) is same

over_all_sweeps : {W J : Type 0} (hears : W → Heard → W → Type 0) (notes : J → List PlainEvent → J → Type 0) (config : Config)
    (passed : List Handed)
    (start now : DriverState W J) → Stands (notes start.journal) start config [] → (swept : Swept hears notes passed start now)
    → Over hears notes config passed start now swept
over_all_sweeps hears notes config [] start now stands is = record {
  trace = [];
  history = [];
  through = ap (λ d. d.wire) is;
  stands = subst (λ d. Stands (notes start.journal) d config []) (sym is) stands;
  told = refl;
  keeping = λ log channel_log none hears_of c. keeping_none c log channel_log none.1 hears_of;
  once = tt;
  reasons = tt;
  hands = tt;
  lets = tt;
  parts = (refl, refl);
  time = λ clock zero rising. subst (λ d. Played config start.ahead 0 (driver_view d [])) (sym is)
      (played_before_sweeps config start clock zero rising);
  runs = ap (λ d. over_trace (driver_view d []) []) is;
}
over_all_sweeps hears notes config (Passing ticks ∷ passed) start now stands (between, swept, goes) =
    let was = over_all_sweeps hears notes config passed start between stands swept in
    let now_so = goes start.journal config was.history was.stands in
    let t = traced hears config ticks (driver_view between was.history) (driver_view now now_so.0) was.trace now_so.2 in
    let s = t.swept in
    record {
      trace = s.k.piece ++ was.trace;
      history = now_so.0;
      through = through_join hears was.trace s.k.piece start.wire between.wire now.wire was.through t.through;
      stands = now_so.1;
      told = ap (filter is_outer) s.k.grown ∙ matching_append s.k.events was.history s.k.piece was.trace s.k.told was.told;
      keeping = s.k.keeps was.trace was.keeping;
      once = closes_at_once_append None s.k.piece was.trace s.k.closing.once was.once;
      reasons = s.k.closing.reasons was.trace was.told was.reasons;
      hands = s.k.hands was.trace was.told was.hands;
      lets = s.k.lets was.trace was.told was.lets;
      parts = (
        was.history,
        s.k.events,
        was.trace,
        s.k.piece,
        was.parts,
        is_carried hears notes config passed start between swept was,
        s.k.grown,
        refl,
        (
          was.stands.0,
          subst (λ h. StandsFor now.server config h) s.k.grown now_so.1.0,
          t.through,
          s.k.told,
          λ c lt. serves config c was.history s.k.events s.k.piece now_so.1.0.log
              (subst (λ h. IsLogOf config h now_so.1.0.log) s.k.grown now_so.1.0.is_log) (s.offered c lt),
          s.whole now_so.1.0.log now_so.1.0.is_log,
        ),
        λ clock zero rising. (played_after_sweep hears config (with_handed (last_clock - config.clock) passed start.ahead) passed ticks
            (driver_view between was.history)
            (driver_view now now_so.0) now_so.2
            (was.time clock zero rising)).1,
      );
      time = λ clock zero rising. (played_after_sweep hears config (with_handed (last_clock - config.clock) passed start.ahead) passed ticks
          (driver_view between was.history)
          (driver_view now now_so.0) now_so.2
          (was.time clock zero rising)).0;
      runs = (
        over_trace (driver_view between was.history) was.trace,
        was.runs,
        subst (λ l. Sweeps Records ticks config (over_trace (driver_view between was.history) was.trace) (over_trace
            (driver_view now now_so.0) l)) t.is t.sweeps,
      );
    }
over_all_sweeps hears notes config (Stimulated stimulus ∷ passed) start now stands (between, swept, accepted, goes) =
    let was = over_all_sweeps hears notes config passed start between stands swept in
    let now_so = goes start.journal config was.history was.stands in
    let k = stimulates hears Nothing config stimulus (driver_view between was.history) (driver_view now now_so.0) now_so.2 in
    let none : k.piece ≡ [] = asks_nothing_is_empty k.piece k.may in
    let same : k.piece ++ was.trace ≡ was.trace = ap (λ (l : List Heard). l ++ was.trace) none in
    record {
      trace = was.trace;
      history = now_so.0;
      through = subst (λ t. Through hears t start.wire now.wire) same
          (through_join hears was.trace k.piece start.wire between.wire now.wire was.through k.through);
      stands = now_so.1;
      told = ap (filter is_outer) k.grown ∙ matching_append k.events was.history k.piece was.trace k.told was.told
          ∙ ap (flat_map event_of) same;
      keeping = subst (λ t. BytesMatch config now_so.0 t) same (k.keeps was.trace was.keeping);
      once = was.once;
      reasons = subst (λ t. HasReasons config now_so.0 t) same (k.closing.reasons was.trace was.told was.reasons);
      hands = subst (λ t. HandsOver config now_so.0 t) same (k.hands was.trace was.told was.hands);
      lets = subst (λ t. ClosesChannelsRightly config now_so.0 t) same (k.lets was.trace was.told was.lets);
      parts = (
        was.history,
        k.events,
        was.parts,
        is_carried hears notes config passed start between swept was,
        k.grown,
        k.told ∙ ap (flat_map event_of) none,
        λ clock zero rising. (handed_in config (with_handed (last_clock - config.clock) passed start.ahead) (handed_ticks passed)
            (driver_view between was.history) (driver_view now now_so.0) stimulus accepted now_so.2 (was.time clock zero rising)).1,
      );
      time = λ clock zero rising. (handed_in config (with_handed (last_clock - config.clock) passed start.ahead) (handed_ticks passed)
          (driver_view between was.history) (driver_view now now_so.0) stimulus accepted now_so.2 (was.time clock zero rising)).0;
      runs = (
        over_trace (driver_view between was.history) was.trace,
        was.runs,
        stimulus_onto hears config stimulus (driver_view between was.history) (driver_view now now_so.0) was.trace now_so.2,
      );
    }

pub carried : {W J : Type 0} (hears : W → Heard → W → Type 0) (notes : J → List PlainEvent → J → Type 0) → Carried hears notes
carried hears notes config passed start now stands swept =
    let all = over_all_sweeps hears notes config passed start now stands swept in
    (all.trace, all.history, all.through, all.stands, is_carried hears notes config passed start now swept all, all.parts)

-- Two runs that are the same, or differ from some moment on, are the same until then.
same_until : (one two : View) → (one ≡ two) ⊎ Forks one two → SameUntil one.wire one.history two.wire two.history
same_until one two (inl same) = inl (ap (λ v. v.wire) same, ap (λ v. v.history) same)
same_until one two (inr forks) = inr forks

abbrev start_at : List (Option Dial) → List Entry → ℕ → View
start_at dialed ahead ticks = record { wire = []; history = []; dials = dialed; ahead = ahead; ticks = ticks }

pub determined : {W V J K : Type 0} (hears : W → Heard → W → Type 0) (notes : J → List PlainEvent → J → Type 0)
    (hearing : V → Heard → V → Type 0) (noting : K → List PlainEvent → K → Type 0) → Determined hears notes hearing noting
determined hears notes hearing noting config handed start now begin end stands begun dialed ahead ticks swept sweeps =
    let one = over_all_sweeps hears notes config handed start now stands swept in
    let two = over_all_sweeps hearing noting config handed begin end begun sweeps in
    let same : over_trace (driver_view start []) [] ≡ over_trace (driver_view begin []) [] =
    ap (λ (c : List (Option Dial)). start_at c start.ahead start.ticks) dialed
    ∙ ap (λ (l : List Entry). start_at begin.dials l start.ticks) ahead
    ∙ ap (λ (n : ℕ). start_at begin.dials begin.ahead n) ticks in
    let end_one = over_trace (driver_view now one.history) one.trace in
    let end_two = over_trace (driver_view end two.history) two.trace in (
      one.trace,
      two.trace,
      one.history,
      two.history,
      (one.through, one.stands, is_carried hears notes config handed start now swept one, one.parts),
      (two.through, two.stands, is_carried hearing noting config handed begin end sweeps two, two.parts),
      same_until end_one end_two (runs_alike config handed (over_trace (driver_view begin []) []) end_one end_two refl
          (subst (λ (v : View). Runs config handed v end_one) same one.runs) two.runs),
    )
