-- Dialing peers, and the passing of time, satisfy `Keeps`.
use Rattle.std.proofs.Common.{eq-eqb, ◌≡◌, ℕ, eqb, Bool, true, false, cond, List, [], ◌∷◌, ◌++◌, Option, Some, None, Result, Ok, Err, refl, sym, ap, subst, ◌∙◌}
use Rattle.std.specs.Prelude.{⊤}
use Rattle.sv_links.specs.declared.request.Peer.{Peer}
use Rattle.sv_links.specs.Channels.{ChannelAct}
use Rattle.sv_history.specs.declared.event.Config.{Config}
use Rattle.sv_history.specs.declared.event.Dial.{Dial}
use Rattle.sv_history.specs.declared.event.Did.{Did}
use Rattle.sv_history.specs.declared.event.Did.TheVariants.{Done}
use Rattle.sv_history.specs.declared.event.Refused.{Refused}
use Rattle.sv_history.specs.declared.event.Port.{Port}
use Rattle.sv_history.specs.declared.event.Port.TheVariants.{Conn, Intr}
use Rattle.sv_history.specs.Event.{PlainEvent, Dialed, Tick}
use Rattle.sv_history.specs.Act.{Act, of, device_acts, wait_acts}
use Rattle.sv_history.specs.Connection.{is_open, pending_call}
use Rattle.sv_history.specs.Interrupts.{is_dialing, dial_by, dial_in, dial_of}
use Rattle.sv_history.proofs.Dialing.{peer_named_by}
use Rattle.sv_history.specs.CoreCall.{CoreCall}
use Rattle.sv_history.specs.Request.{core_call_in}
use Rattle.sv_vxi.specs.Arguments.{Arguments, CreateIntrChan}
use Rattle.sv_history.specs.History.{is_port_shut, IsLogOf}
use Rattle.sv_history.proofs.AlwaysTold.{channel_log_exists}
use Rattle.sv_replay.specs.Entry.{stimulus_event}
use Rattle.sv_replay.specs.declared.entry.Stimulus.{Stimulus}
use Rattle.sv_replay.specs.declared.entry.Stimulus.TheVariants as stimuli
use Rattle.sv_laws.proofs.Brought.{brings, tells, peer_in, opened_to}
use Rattle.sv_serve.specs.declared.wire.Answer.{Answer}
use Rattle.sv_serve.specs.declared.wire.Answer.TheVariants.{Got, Pending, Failed}
use Rattle.sv_serve.specs.Heard.{Heard, WasDialed, PeerAnswered, WasClosed, Through}
use Rattle.sv_serve.specs.DriverView.{DriverView, ◌then◌}
use Rattle.sv_serve.specs.Steps.{IsApplied, dialed_of, is_wanted, KeepsDial, CancelsUnwanted, ConnectResult, PollResult, DialsFor, Dials}
use Rattle.sv_serve.specs.Sweep.{PlaysOne, Plays, Counts, TicksOnce, Passes, Stimulates}
use Rattle.sv_driver_laws.specs.Served.{event_of, is_outer}
use Rattle.sv_driver_laws.specs.Carried.{begins, read, taken_bytes, ends_port}
use Rattle.sv_driver_laws.proofs.LettingGo.{ClosesChannelsRightly, ClosesNoChannel, MayCloseChannel, may_close_none, none_not_some, shut_is_reason, unwanted_is_shut, some_is_injective}
use Rattle.sv_driver_laws.proofs.Handing.{HandsOver, IsNoWrite, NoneWritten, fits_none}
use Rattle.sv_driver_laws.proofs.Reasons.{IsNoFailure, NoneIsFailure, closing_silent}
use Rattle.sv_driver_laws.proofs.Ports.{PortBytes, AreSilent, holds_silent, step_opened, BytesMatch}
use Rattle.sv_driver_laws.proofs.Keeps.{Subject, OfNone, about, AllMay, all_may_append, Keeps, through_join, keeps_none, keeps_then, keeps_each, quiet_keeps, quiet_one, only_heard, closes_channel_quiet, applied_adds_event, event_keeps, inner_by, inner_applies}

-- ---- peers are dialed

-- An event of no connection, caused by an answer about no port, leaves the bytes of all ports
-- alone.
pub step_else : (event : PlainEvent) (heard : Heard) (log : List Act) (channel_log : List ChannelAct) → ((c : ℕ) → brings c event ≡ [])
    → tells event log ≡ [] → ((port : Port) → begins port heard ≡ false) → ((c : ℕ) → read (Conn c) heard ≡ [])
    → ((port : Port) → taken_bytes port heard ≡ []) → (trace : List Heard) (c : ℕ) → PortBytes c (of c log) channel_log trace
    → PortBytes c (brings c event ++ of c log) (tells event log ++ channel_log) (heard ∷ trace)
step_else event heard log channel_log none untold still unread untaken trace c h =
    rw (none c, untold) (holds_silent c heard trace (of c log) channel_log still (unread c) untaken h)

-- A create_intr_chan that waits for a peer names one.
pub dialing_call_has_peer : (call : Option CoreCall) (dial : Dial) → dial_in call ≡ Some dial → (one : Peer) × (peer_in call ≡ Some one)
dialing_call_has_peer None dial e = absurd cc
dialing_call_has_peer (Some call) dial e = by call.arguments e
  where
    by : (arguments : Arguments) → dial_by arguments ≡ Some dial → (one : Peer) × (peer_named_by arguments ≡ Some one)
    by (CreateIntrChan host_addr host_port prog_num prog_vers prog_family) e = (record { prog = prog_num; vers = prog_vers }, refl)
    by _ e = absurd cc

pub dials_call : (is : Bool) (found : Option Dial) (dial : Dial) → Some dial ≡ cond is found None → found ≡ Some dial
dials_call true found dial e = sym e
dials_call false found dial e = absurd cc

-- When the peer is connected, the interrupt channel opens, and its bytes are counted anew.
pub step_dialed : (c : ℕ) (dial : Dial) (heard : Heard) (log : List Act) (channel_log : List ChannelAct) → Some dial ≡ dial_of c log
    → ((d : ℕ) → begins (Conn d) heard ≡ false) → ((d : ℕ) → read (Conn d) heard ≡ []) → ((port : Port) → taken_bytes port heard ≡ [])
    → ((d : ℕ) → begins (Intr d) heard ≡ eqb c d) → (trace : List Heard) (d : ℕ) → PortBytes d (of d log) channel_log trace
    → PortBytes d (brings d (Dialed c true) ++ of d log) (tells (Dialed c true) log ++ channel_log) (heard ∷ trace)
step_dialed c dial heard log channel_log wanted still unread untaken opens trace d h =
    let one = dialing_call_has_peer (core_call_in (pending_call (of c log))) dial
    (dials_call (is_dialing c (wait_acts (device_acts log))) (dial_in (core_call_in (pending_call (of c log)))) dial wanted) in
    subst (λ (found : Option Peer). PortBytes d (of d log) (opened_to c found ++ channel_log) (heard ∷ trace)) (sym one.1)
    (step_opened c one.0 heard trace d (of d log) channel_log (still d) (unread d) (untaken (Conn d)) (opens d) (untaken (Intr d)) h)

-- Telling the server that a peer was connected, or couldn't be, satisfies `Keeps`.
abbrev pub dialed_keeps : {W : Type 0} (hears : W → Heard → W → Type 0) (May : Subject
    → Type 0) (config : Config) (c : ℕ) (may : May OfNone) (ok : Bool) (heard : Heard)
    (mine : about heard ≡ OfNone) (newer : List Heard) (all_may : AllMay May newer) (before between after : DriverView W) (log : List Act)
    → IsLogOf config before.history log → Through hears (newer ++ heard ∷ []) before.wire between.wire
    → AreSilent newer → NoneIsFailure newer → NoneWritten newer → IsNoWrite heard → (hung : Option ℕ) → MayCloseChannel hung newer
    → ((n : ℕ) → hung ≡ Some n → ends_port (Intr n) heard ≡ true) → ClosesNoChannel heard → between.history ≡ before.history
    → event_of heard ≡ Dialed c ok ∷ [] → IsNoFailure heard → ((d : ℕ) → heard ≡ WasClosed (Conn d) → ⊥)
    → ((channel_log : List ChannelAct) (trace : List Heard) (d : ℕ) → PortBytes d (of d log) channel_log trace
    → PortBytes d (brings d (Dialed c ok) ++ of d log) (tells (Dialed c ok) log ++ channel_log) (heard ∷ trace))
    → IsApplied (Dialed c ok) config between after → Keeps hears May config before after
dialed_keeps hears May config c may ok heard mine newer all_may before between after log was through silent calm unwritten none hung adds
    ends unhung same event itself stays step applied =
    let channel_log = channel_log_exists (device_acts log) in
    let done = applied_adds_event (Dialed c ok) config between after applied in
    event_keeps hears May config heard (Dialed c ok) newer [] before after (record {
      hung = hung;
      newer_adds = adds;
      newer_ends = ends;
      unhung = unhung;
      older_unhung = tt;
      log = log;
      channel_log = channel_log.0;
      was = was;
      hears_of = channel_log.1;
      through = subst (λ w. Through hears (newer ++ heard ∷ []) before.wire w) (sym (ap (λ m. m.wire) done)) through;
      grown = ap (λ m. m.history) done ∙ ap (λ h. Dialed c ok ∷ h) same;
      newer_silent = silent;
      newer_calm = calm;
      newer_unwritten = unwritten;
      fits = fits_none config before.history heard none;
      older_fits = tt;
      older_silent = tt;
      older_once = tt;
      calm = itself;
      reason = λ trace so d e. absurd (stays d e);
      may = all_may_append May newer (heard ∷ []) all_may (subst May (sym mine) may, tt);
      outer = refl;
      same = event;
      step = step channel_log.0;
    })

abbrev pub connect_result_keeps : {W : Type 0} (hears : W → Heard → W → Type 0) (May : Subject
    → Type 0) (config : Config) (c : ℕ) (may : May OfNone) (dial : Dial) (answer : Answer ⊤) (wire : W)
    (before between after : DriverView W) (log : List Act) → IsLogOf config before.history log → Some dial ≡ dial_of c log
    → hears before.wire (WasDialed c dial answer) wire → between ≡ record before { wire = wire }
    → ConnectResult c dial answer config between after → Keeps hears May config before after
connect_result_keeps hears May config c may dial (Got all) wire before between after log was wanted heard is (noted, notes, applied) =
    dialed_keeps hears May config c may true (WasDialed c dial (Got all)) refl [] tt before noted after log was (
      before.wire,
      refl,
      subst (λ w. hears before.wire (WasDialed c dial (Got all)) w) (sym (ap (λ m. m.wire) notes ∙ ap
          (λ m. m.wire) is)) heard,
    )
    tt tt tt (λ p b a e. absurd cc) None (may_close_none None) (λ n e. none_not_some n e) (λ n e. absurd cc) (ap (λ m. m.history) notes ∙ ap
    (λ m. m.history) is) refl (λ d. refl) (λ d e. absurd cc)
    (λ channel_log. step_dialed c dial (WasDialed c dial (Got all)) log channel_log wanted (λ d. refl) (λ d. refl) (λ port. refl)
    (λ d. refl)) applied
connect_result_keeps hears May config c may dial Pending wire before between after log was wanted heard is notes =
    quiet_keeps hears May config None before after (quiet_one hears May None (WasDialed c dial Pending) may wire before after heard
    (ap (λ m. m.wire) notes ∙ ap (λ m. m.wire) is) (ap (λ m. m.history) notes ∙ ap (λ m. m.history) is)
    (refl, (λ port. refl), (λ port. refl), (λ port. refl)) (λ d. refl) (λ p b a e. absurd cc) (λ d e. absurd cc))
    (λ trace so d e. none_not_some d e)
connect_result_keeps hears May config c may dial Failed wire before between after log was wanted heard is applied =
    dialed_keeps hears May config c may false (WasDialed c dial Failed) refl [] tt before between after log was
    (before.wire, refl, subst (λ w. hears before.wire (WasDialed c dial Failed) w) (sym (ap (λ m. m.wire) is)) heard)
    tt tt tt (λ p b a e. absurd cc) None (may_close_none None) (λ n e. none_not_some n e) (λ n e. absurd cc) (ap (λ m. m.history) is) refl
    (λ d. refl) (λ d e. absurd cc)
    (λ channel_log. step_else (Dialed c false) (WasDialed c dial Failed) log channel_log (λ d. refl) refl (λ port. refl) (λ d. refl)
    (λ port. refl)) applied

abbrev pub poll_result_keeps : {W : Type 0} (hears : W → Heard → W → Type 0) (May : Subject
    → Type 0) (config : Config) (c : ℕ) (may : May OfNone) (dial : Dial) (answer : Answer ⊤) (wire : W)
    (before between after : DriverView W) (log : List Act) → IsLogOf config before.history log → Some dial ≡ dial_of c log
    → hears before.wire (PeerAnswered c answer) wire → between ≡ record before { wire = wire }
    → PollResult hears c answer config between after → Keeps hears May config before after
poll_result_keeps hears May config c may dial (Got all) wire before between after log was wanted heard is applied =
    dialed_keeps hears May config c may true (PeerAnswered c (Got all)) refl [] tt before between after log was
    (before.wire, refl, subst (λ w. hears before.wire (PeerAnswered c (Got all)) w) (sym (ap (λ m. m.wire) is)) heard)
    tt tt tt (λ p b a e. absurd cc) None (may_close_none None) (λ n e. none_not_some n e) (λ n e. absurd cc) (ap (λ m. m.history) is) refl
    (λ d. refl) (λ d e. absurd cc)
    (λ channel_log. step_dialed c dial (PeerAnswered c (Got all)) log channel_log wanted (λ d. refl) (λ d. refl) (λ port. refl)
    (λ d. refl)) applied
poll_result_keeps hears May config c may dial Pending wire before between after log was wanted heard is same =
    only_heard hears May config (PeerAnswered c Pending) may wire before between after heard is
    (refl, (λ port. refl), (λ port. refl), (λ port. refl)) (λ d. refl) (λ p b a e. absurd cc) (λ n e. absurd cc) same
poll_result_keeps hears May config c may dial Failed wire before between after log was wanted heard is (hung, hangs, applied) =
    let q = closes_channel_quiet hears May config may c between hung hangs in
    dialed_keeps hears May config c may false (PeerAnswered c Failed) refl q.piece q.may before hung after log was
    (through_join hears (PeerAnswered c Failed ∷ []) q.piece before.wire between.wire hung.wire
    (before.wire, refl, subst (λ w. hears before.wire (PeerAnswered c Failed) w) (sym (ap (λ m. m.wire) is)) heard) q.through)
    q.silent q.calm q.unwritten (λ p b a e. absurd cc) (Some c) q.adds (λ n e. eq-eqb c n (some_is_injective c n e)) (λ n e. absurd cc)
    (q.same ∙ ap (λ m. m.history) is) refl (λ d. refl) (λ d e. absurd cc)
    (λ channel_log. step_else (Dialed c false) (PeerAnswered c Failed) log channel_log (λ d. refl) refl (λ port. refl) (λ d. refl)
    (λ port. refl)) applied

abbrev pub dials_for_keeps : {W : Type 0} (hears : W → Heard → W → Type 0) (May : Subject
    → Type 0) (config : Config) (c : ℕ) (may : May OfNone) (wanted dialed : Option Dial)
    (before after : DriverView W) (log : List Act) → IsLogOf config before.history log → wanted ≡ dial_of c log
    → DialsFor hears c wanted dialed config before after → Keeps hears May config before after
dials_for_keeps hears May config c may None dialed before after log was wants same = keeps_none hears May config before after same
dials_for_keeps hears May config c may (Some dial) None before after log was wants (answer, (between, (wire, heard, is), h)) =
    connect_result_keeps hears May config c may dial answer wire before between after log was wants heard is h
dials_for_keeps hears May config c may (Some dial) (Some dialed) before after log was wants (answer, (between, (wire, heard, is), h)) =
    poll_result_keeps hears May config c may dial answer wire before between after log was wants heard is h

pub keeps_dial_keeps : {W : Type 0} (hears : W → Heard → W → Type 0) (May : Subject
    → Type 0) (config : Config) (c : ℕ) (may : May OfNone) (so : Bool) (before after : DriverView W)
    → (so ≡ false → (log : List Act) × IsLogOf config before.history log × (is_port_shut (Intr c) log ≡ true))
    → KeepsDial hears c so config before after → Keeps hears May config before after
keeps_dial_keeps hears May config c may true before after shut same = keeps_none hears May config before after same
keeps_dial_keeps hears May config c may false before after shut hangs =
    let at = shut refl in quiet_keeps hears May config (Some c) before after
    (closes_channel_quiet hears May config may c before after hangs)
    (λ trace so d e. shut_is_reason c d config before.history trace at.0 at.1 at.2 so e)

pub cancels_unwanted_keeps : {W : Type 0} (hears : W → Heard → W → Type 0) (May : Subject
    → Type 0) (config : Config) (c : ℕ) (may : May OfNone) (dialed : Option Dial) (before after : DriverView W)
    → CancelsUnwanted hears c dialed config before after → Keeps hears May config before after
cancels_unwanted_keeps hears May config c may None before after same = keeps_none hears May config before after same
cancels_unwanted_keeps hears May config c may (Some dialed) before after (channel, wanted, is_open, wants, h) =
    keeps_dial_keeps hears May config c may _ before after
    (λ e. (is_open.0, is_open.1, unwanted_is_shut channel (is_wanted dialed wanted) (is_port_shut (Intr c) is_open.0) e is_open.2)) h

pub dials : {W : Type 0} (hears : W → Heard → W → Type 0) (May : Subject
    → Type 0) (config : Config) (c : ℕ) (may : May OfNone) (before after : DriverView W)
    → Dials hears c config before after → Keeps hears May config before after
dials hears May config c may before after (between, goes, (wanted, (log, was, wants), h)) = keeps_then hears May config before between after
    (cancels_unwanted_keeps hears May config c may (dialed_of c before) before between goes)
    (dials_for_keeps hears May config c may wanted (dialed_of c between) between after log was wants h)

-- ---- time passes

pub stimulus_inner : (stimulus : Stimulus) → is_outer (stimulus_event stimulus) ≡ false
stimulus_inner (stimuli.Input channel microvolts) = refl
stimulus_inner stimuli.External = refl

pub stimulus_none : (stimulus : Stimulus) (c : ℕ) → brings c (stimulus_event stimulus) ≡ []
stimulus_none (stimuli.Input channel microvolts) c = refl
stimulus_none stimuli.External c = refl

pub stimulus_untold : (stimulus : Stimulus) (log : List Act) → tells (stimulus_event stimulus) log ≡ []
stimulus_untold (stimuli.Input channel microvolts) log = refl
stimulus_untold stimuli.External log = refl

-- A step that changes neither the wire nor the history satisfies `Keeps`.
pub keeps_else : {W : Type 0} (hears : W → Heard → W → Type 0) (May : Subject → Type 0) (config : Config) (before after : DriverView W)
    → after.wire ≡ before.wire → after.history ≡ before.history → Keeps hears May config before after
keeps_else hears May config before after there same = record {
  piece = [];
  events = [];
  through = there;
  grown = same;
  told = refl;
  may = tt;
  keeps = λ trace keeping. subst (λ h. BytesMatch config h trace) (sym same) keeping;
  closing = closing_silent config before.history after.history [] same tt tt;
  hands = λ trace so h. subst (λ l. HandsOver config l trace) (sym same) h;
  lets = λ trace so h. subst (λ l. ClosesChannelsRightly config l trace) (sym same) h;
}

pub plays_one : {W : Type 0} (hears : W → Heard → W → Type 0) (May : Subject → Type 0) (config : Config) (before after : DriverView W)
    → PlaysOne config before after → Keeps hears May config before after
plays_one hears May config before after (entry, others, between, first, due, applies, is) = keeps_then hears May config before between after
    (inner_applies hears May config (stimulus_event entry.stimulus) before between (stimulus_inner entry.stimulus)
    (stimulus_none entry.stimulus) (stimulus_untold entry.stimulus) applies)
    (keeps_else hears May config between after (ap (λ m. m.wire) is) (ap (λ m. m.history) is))

pub plays : {W : Type 0} (hears : W → Heard → W → Type 0) (May : Subject → Type 0) (config : Config) (before after : DriverView W)
    → Plays config before after → Keeps hears May config before after
plays hears May config before after (n, each, none) =
    keeps_each hears May config (λ i. PlaysOne) n (λ c a b lt h. plays_one hears May config a b h) before after each

pub counts : {W : Type 0} (hears : W → Heard → W → Type 0) (May : Subject
    → Type 0) (config : Config) (result : Result Did Refused) (before after : DriverView W)
    → Counts result config before after → Keeps hears May config before after
counts hears May config (Ok did) before after is = keeps_else hears May config before after (ap (λ m. m.wire) is) (ap (λ m. m.history) is)
counts hears May config (Err refused) before after is = keeps_none hears May config before after is

pub ticks_once : {W : Type 0} (hears : W → Heard → W → Type 0) (May : Subject → Type 0) (config : Config) (before after : DriverView W)
    → TicksOnce config before after → Keeps hears May config before after
ticks_once hears May config before after (result, (between, given, h)) = keeps_then hears May config before between after
    (inner_by hears May config Tick result before between refl (λ c. refl) (λ l. refl) given)
    (counts hears May config result between after h)

pub passes : {W : Type 0} (hears : W → Heard → W → Type 0) (May : Subject → Type 0) (config : Config) (ticks : ℕ)
    (before after : DriverView W)
    → Passes ticks config before after → Keeps hears May config before after
passes hears May config ticks before after (between, each, last) = keeps_then hears May config before between after
    (keeps_each hears May config (λ i. Plays then TicksOnce) ticks (λ c a b lt h. keeps_then hears May config a h.0 b
    (plays hears May config a h.0 h.1) (ticks_once hears May config h.0 b h.2)) before between each)
    (plays hears May config between after last)

pub stimulates : {W : Type 0} (hears : W → Heard → W → Type 0) (May : Subject → Type 0) (config : Config) (stimulus : Stimulus)
    (before after : DriverView W)
    → Stimulates stimulus config before after → Keeps hears May config before after
stimulates hears May config stimulus before after (between, first, applied) = keeps_then hears May config before between after
    (plays hears May config before between first)
    (inner_applies hears May config (stimulus_event stimulus) between after (stimulus_inner stimulus)
    (stimulus_none stimulus) (stimulus_untold stimulus) (Ok Done, applied))
