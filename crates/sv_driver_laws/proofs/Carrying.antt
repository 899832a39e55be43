-- Each step of a sweep for a connection satisfies `Keeps`.
use Rattle.std.proofs.Common.{eq-eqb, ◌≡◌, ℕ, eqb, Bool, true, false, List, [], ◌∷◌, ◌++◌, length, Option, Some, None, Result, Ok, Err, refl, sym, ap, subst, ◌∙◌, inl, inr}
use Rattle.std.specs.Prelude.{◌==◌, ⊤}
use Rattle.std.proofs.lemmas.Bool.{eqb-true}
use Rattle.std.proofs.lemmas.List.{nil_from_length}
use Rattle.sv_links.specs.Channels.{ChannelAct, waiting as channel_waiting}
use Rattle.sv_history.specs.declared.event.Config.{Config}
use Rattle.sv_history.specs.declared.event.Did.{Did}
use Rattle.sv_history.specs.declared.event.Did.TheVariants.{Done}
use Rattle.sv_history.specs.declared.event.Refused.{Refused}
use Rattle.sv_history.specs.declared.event.Role.{Role}
use Rattle.sv_history.specs.declared.event.Port.{Port}
use Rattle.sv_history.specs.declared.event.Port.TheVariants.{Conn, Intr}
use Rattle.sv_history.specs.Event.{PlainEvent, Open, Bytes, Turn, Refuse, Took, Close, port_number}
use Rattle.sv_history.specs.Act.{Act, of, device_acts}
use Rattle.sv_history.specs.Connection.{is_open, room, waiting, waiting_on, is_faulted}
use Rattle.sv_history.specs.Requests.{HearsOf}
use Rattle.sv_history.specs.History.{IsLogOf}
use Rattle.sv_history.specs.Print.{is_no_memory}
use Rattle.sv_laws.proofs.OneLog.{one_log}
use Rattle.sv_history.proofs.AlwaysTold.{channel_log_exists}
use Rattle.sv_serve.specs.declared.wire.Answer.{Answer}
use Rattle.sv_serve.specs.declared.wire.Answer.TheVariants.{Got, Pending, Failed}
use Rattle.sv_serve.specs.Heard.{Heard, WasAccepted, WasRead, WasProbed, WasWritten, WasClosed, IsWithin, Through}
use Rattle.sv_serve.specs.DriverView.{DriverView}
use Rattle.sv_serve.specs.Asked.{IsLowest}
use Rattle.sv_serve.specs.Steps.{Opens, Accepts, Closes, ClosesIf, Comes, Drops, ProbesIf, ReadsFrom, RefusesIf, EndsTurn, TurnsIf, Turns, EndsWrite, WritesTo, EndsIf, Ends}
use Rattle.sv_driver_laws.specs.Carried.{ClosesAtOnce}
use Rattle.sv_history.specs.Queries.{WaitOn}
use Rattle.sv_driver_laws.proofs.LettingGo.{ClosesChannelsRightly, NoneClosesChannel, some_is_injective}
use Rattle.sv_driver_laws.proofs.Handing.{HandsOver, WritesWaiting, AllWriteWaiting, hands_over_silent}
use Rattle.sv_driver_laws.proofs.Reasons.{IsNoFailure, IsReason, Reasons, closing_silent, closed_conn_is_injective, written_else}
use Rattle.sv_driver_laws.proofs.Ports.{IsSilent, AreSilent, step_open, step_read, step_took, step_close, step_sent, BytesMatch, keeping_silent}
use Rattle.sv_driver_laws.proofs.Keeps.{Subject, OfRead, OfConn, OfNone, about, AllMay, all_may_append, Keeps, through_join, keeps_none, keeps_then, silent_events, only_heard, closes_channel_quiet, applied_adds_event, event_keeps, answer_keeps, inner_by}
use Rattle.sv_driver_laws.proofs.Peers.{step_else}

-- ---- connections are accepted

pub accept_by : {W : Type 0} (hears : W → Heard → W → Type 0) (May : Subject → Type 0) (config : Config) (may : (n : Subject)
    → May n) (role : Role) (number : Option ℕ) (answer : Answer ⊤)
    (wire : W) (before between after : DriverView W) → IsLowest number config before → hears before.wire
    (WasAccepted role number answer) wire
    → between ≡ record before { wire = wire } → Opens role number answer config between after → Keeps hears May config before after
accept_by hears May config may role (Some c) (Got all) wire before between after (lt, (log, was, answer), lower) heard is opens =
    let channel_log = channel_log_exists (device_acts log) in
    answer_keeps hears May config (WasAccepted role (Some c) (Got all)) (may (OfConn c))
    (Open c role) wire before between after channel_log.0 log was channel_log.1
    heard (ap (λ m. m.wire) is) (ap (λ m. m.history) is) opens refl refl (λ d. refl) (λ p b a e. absurd cc) (λ n e. absurd cc)
    (λ d e. absurd cc)
    (λ trace d. step_open c role all trace d (of d log) channel_log.0)
accept_by hears May config may role (Some c) Pending wire before between after low heard is same =
    only_heard hears May config (WasAccepted role (Some c) Pending) (may (OfConn c)) wire before between after heard is
    (refl, (λ port. refl), (λ port. refl), (λ port. refl)) (λ d. refl) (λ p b a e. absurd cc) (λ n e. absurd cc) same
accept_by hears May config may role (Some c) Failed wire before between after low heard is same =
    only_heard hears May config (WasAccepted role (Some c) Failed) (may (OfConn c)) wire before between after heard is
    (refl, (λ port. refl), (λ port. refl), (λ port. refl)) (λ d. refl) (λ p b a e. absurd cc) (λ n e. absurd cc) same
accept_by hears May config may role None answer wire before between after low heard is same =
    only_heard hears May config (WasAccepted role None answer) (may OfNone) wire before between after heard is
    (refl, (λ port. refl), (λ port. refl), (λ port. refl)) (λ d. refl) (λ p b a e. absurd cc) (λ n e. absurd cc) same

pub accepts : {W : Type 0} (hears : W → Heard → W → Type 0) (May : Subject → Type 0) (config : Config) (may : (n : Subject)
    → May n) (role : Role) (before after : DriverView W) → Accepts hears role config before after → Keeps hears May config before after
accepts hears May config may role before after (number, answer, low, (between, (wire, heard, is), opens)) =
    accept_by hears May config may role number answer wire before between after low heard is opens

-- ---- connections are closed

abbrev pub closes : {W : Type 0} (hears : W → Heard → W → Type 0) (May : Subject
    → Type 0) (config : Config) (c : ℕ) (may : May OfNone × May (OfConn c)) (older : List Heard)
    (before between after : DriverView W) → Through hears older before.wire between.wire → between.history ≡ before.history
    → AreSilent older → AllWriteWaiting config before.history older → NoneClosesChannel older → AllMay May older
    → ClosesAtOnce (Some (WasClosed (Conn c))) older
    → Reasons config (Close (Conn c) ∷ before.history) before.history (WasClosed (Conn c)) older → Closes hears c config between after
    → Keeps hears May config before after
closes hears May config c may older before between after so still silent fit old all_may once reason
    (first, (wire, heard, is), (second, hangs, (log, was, answers, to))) =
    let q = closes_channel_quiet hears May config may.0 c first second hangs in
    let same : second.history ≡ before.history = q.same ∙ ap (λ m. m.history) is ∙ still in
    let channel_log = channel_log_exists (device_acts log) in
    let shut : Through hears (WasClosed (Conn c) ∷ older) before.wire first.wire =
    subst (λ w. Through hears (WasClosed (Conn c) ∷ older) before.wire w) (sym (ap (λ m. m.wire) is)) (between.wire, so, heard) in
    event_keeps hears May config (WasClosed (Conn c)) (Close (Conn c)) q.piece older before after (record {
      hung = Some c;
      newer_adds = q.adds;
      newer_ends = λ d e. eq-eqb c d (some_is_injective c d e);
      unhung = (λ n e. absurd cc);
      older_unhung = old;
      log = log;
      channel_log = channel_log.0;
      was = subst (λ h. IsLogOf config h log) same was;
      hears_of = channel_log.1;
      through = subst (λ w. Through hears (q.piece ++ WasClosed (Conn c) ∷ older) before.wire w) (sym (ap (λ m. m.wire) to))
          (through_join hears (WasClosed (Conn c) ∷ older) q.piece before.wire first.wire second.wire shut q.through);
      grown = ap (λ m. m.history) to ∙ ap (λ h. Close (Conn c) ∷ h) same;
      newer_silent = q.silent;
      newer_calm = q.calm;
      newer_unwritten = q.unwritten;
      fits = (λ p b a e. absurd cc);
      older_fits = fit;
      older_silent = silent;
      older_once = once;
      calm = λ d. refl;
      reason = reason;
      may = all_may_append May q.piece (WasClosed (Conn c) ∷ older) q.may (may.1, all_may);
      outer = refl;
      same = refl;
      step = λ trace d. step_close c trace d (of d log) channel_log.0;
    })

-- The connection that failed is the one that is closed next.
pub failed_conn_is_closed : (c d : ℕ) → eqb c d ≡ true → Some (WasClosed (Conn c)) ≡ Some (WasClosed (Conn d))
failed_conn_is_closed c d e = ap (λ (n : ℕ). Some (WasClosed (Conn n))) (eqb-true c d e)

-- ---- connections are read

pub read_by : {W : Type 0} (hears : W → Heard → W → Type 0) (May : Subject
    → Type 0) (config : Config) (c : ℕ) (may : May OfNone × May (OfConn c)) (read_may : May (OfRead c)) (most : ℕ)
    (answer : Answer (List ℕ)) (wire : W) (before between after : DriverView W) (log : List Act) → IsLogOf config before.history log
    → hears before.wire (WasRead c most answer) wire → between ≡ record before { wire = wire }
    → Comes hears c answer config between after → Keeps hears May config before after
read_by hears May config c may read_may most (Got bytes) wire before between after log was heard is applied =
    let channel_log = channel_log_exists (device_acts log) in
    answer_keeps hears May config (WasRead c most (Got bytes)) read_may
    (Bytes c bytes) wire before between after channel_log.0 log was channel_log.1
    heard (ap (λ m. m.wire) is) (ap (λ m. m.history) is) applied refl refl (λ d. refl) (λ p b a e. absurd cc) (λ n e. absurd cc)
    (λ d e. absurd cc)
    (λ trace d. step_read c most bytes trace d (of d log) channel_log.0)
read_by hears May config c may read_may most Pending wire before between after log was heard is same =
    only_heard hears May config (WasRead c most Pending) read_may wire before between after heard is
    (refl, (λ port. refl), (λ port. refl), (λ port. refl)) (λ d. refl) (λ p b a e. absurd cc) (λ n e. absurd cc) same
read_by hears May config c may read_may most Failed wire before between after log was heard is shuts =
    closes hears May config c may (WasRead c most Failed ∷ []) before between after
    (before.wire, refl, subst (λ w. hears before.wire (WasRead c most Failed) w) (sym (ap (λ m. m.wire) is)) heard) (ap (λ m. m.history) is)
    ((refl, (λ port. refl), (λ port. refl), (λ port. refl)), tt) ((λ p b a e. absurd cc), tt) ((λ n e. absurd cc), tt) (read_may, tt)
    ((λ d e. failed_conn_is_closed c d e), tt)
    (λ trace so d e. inl (WasRead c most Failed, trace, refl, eq-eqb c d (closed_conn_is_injective c d e))) shuts

pub drops_gone : {W : Type 0} (hears : W → Heard → W → Type 0) (May : Subject
    → Type 0) (config : Config) (c : ℕ) (may : May OfNone × May (OfConn c)) (drops : Bool)
    (answer : Answer ⊤) (wire : W) (before between after : DriverView W) → hears before.wire (WasProbed c drops answer) wire
    → between ≡ record before { wire = wire } → Drops hears c answer config between after → Keeps hears May config before after
drops_gone hears May config c may drops (Got all) wire before between after heard is same =
    only_heard hears May config (WasProbed c drops (Got all)) may.1 wire before between after heard is
    (refl, (λ port. refl), (λ port. refl), (λ port. refl)) (λ d. refl) (λ p b a e. absurd cc) (λ n e. absurd cc) same
drops_gone hears May config c may drops Pending wire before between after heard is same =
    only_heard hears May config (WasProbed c drops Pending) may.1 wire before between after heard is
    (refl, (λ port. refl), (λ port. refl), (λ port. refl)) (λ d. refl) (λ p b a e. absurd cc) (λ n e. absurd cc) same
drops_gone hears May config c may drops Failed wire before between after heard is shuts =
    closes hears May config c may (WasProbed c drops Failed ∷ []) before between after
    (before.wire, refl, subst (λ w. hears before.wire (WasProbed c drops Failed) w) (sym (ap (λ m. m.wire) is)) heard) (ap
    (λ m. m.history) is)
    ((refl, (λ port. refl), (λ port. refl), (λ port. refl)), tt) ((λ p b a e. absurd cc), tt) ((λ n e. absurd cc), tt) (may.1, tt)
    ((λ d e. failed_conn_is_closed c d e), tt)
    (λ trace so d e. inl (WasProbed c drops Failed, trace, refl, eq-eqb c d (closed_conn_is_injective c d e))) shuts

pub probes_if : {W : Type 0} (hears : W → Heard → W → Type 0) (May : Subject
    → Type 0) (config : Config) (c : ℕ) (may : May OfNone × May (OfConn c)) (opened : Bool)
    (before after : DriverView W) → ProbesIf hears c opened config before after → Keeps hears May config before after
probes_if hears May config c may false before after same = keeps_none hears May config before after same
probes_if hears May config c may true before after (drops, answer, overlong, (between, (wire, heard, is), gone)) =
    drops_gone hears May config c may drops answer wire before between after heard is gone

pub reads : {W : Type 0} (hears : W → Heard → W → Type 0) (May : Subject
    → Type 0) (config : Config) (c : ℕ) (may : May OfNone × May (OfConn c)) (read_may : May (OfRead c))
    (before after : DriverView W) → ReadsFrom hears c config before after → Keeps hears May config before after
reads hears May config c may read_may before after (room, (log, was, is), inl (none, (opened, is_open, probes))) =
    probes_if hears May config c may opened before after probes
reads hears May config c may read_may before after (
  room,
  (log, was, room_is),
  inr (
    some,
    answer,
    few,
    (
      between,
      (wire, heard, is),
      comes,
    ),
  ),
) =
    read_by hears May config c may read_may _ answer wire before between after log was heard is comes

-- ---- calls are taken

abbrev pub refuses_if : {W : Type 0} (hears : W → Heard → W → Type 0) (May : Subject
    → Type 0) (config : Config) (c : ℕ) (so : Bool) (before after : DriverView W)
    → RefusesIf c so config before after → Keeps hears May config before after
refuses_if hears May config c true before after given =
    inner_by hears May config (Refuse c) (Ok Done) before after refl (λ d. refl) (λ l. refl) given
refuses_if hears May config c false before after same = keeps_none hears May config before after same

abbrev pub ends_turn : {W : Type 0} (hears : W → Heard → W → Type 0) (May : Subject
    → Type 0) (config : Config) (c : ℕ) (result : Result Did Refused)
    (before after : DriverView W) → EndsTurn c result config before after → Keeps hears May config before after
ends_turn hears May config c (Ok did) before after same = keeps_none hears May config before after same
ends_turn hears May config c (Err refused) before after h = refuses_if hears May config c (is_no_memory refused) before after h

abbrev pub turns_if : {W : Type 0} (hears : W → Heard → W → Type 0) (May : Subject
    → Type 0) (config : Config) (c : ℕ) (ready : Bool) (before after : DriverView W)
    → TurnsIf c ready config before after → Keeps hears May config before after
turns_if hears May config c false before after same = keeps_none hears May config before after same
turns_if hears May config c true before after (result, (between, given, ends)) = keeps_then hears May config before between after
    (inner_by hears May config (Turn c) result before between refl (λ d. refl) (λ l. refl) given)
    (ends_turn hears May config c result between after ends)

abbrev pub turns : {W : Type 0} (hears : W → Heard → W → Type 0) (May : Subject
    → Type 0) (config : Config) (c : ℕ) (before after : DriverView W) → Turns c config before after → Keeps hears May config before after
turns hears May config c before after (ready, is, h) = turns_if hears May config c ready before after h

-- ---- bytes that wait are written

pub written_same : (port other : Port) (bytes more : List ℕ) (answer also : Answer ℕ)
    → WasWritten port bytes answer ≡ WasWritten other more also → (port ≡ other) × (bytes ≡ more)
written_same port other bytes more answer also e = (cc, cc)

pub written_fits : (port : Port) (bytes : List ℕ) (answer : Answer ℕ) (config : Config) (history : List PlainEvent)
    → WaitOn port config history bytes → WritesWaiting config history (WasWritten port bytes answer)
written_fits port bytes answer config history waits other more also e =
    let same = written_same port other bytes more answer also e in
    subst (λ (p : Port). WaitOn p config history more) same.0 (subst (λ (l : List ℕ). WaitOn port config history l) same.1 waits)

abbrev pub pending_keeps : {W : Type 0} (hears : W → Heard → W → Type 0) (May : Subject
    → Type 0) (config : Config) (port : Port) (bytes : List ℕ)
    (may : May (about (WasWritten port bytes Pending))) (wire : W) (before between after : DriverView W)
    → hears before.wire (WasWritten port bytes Pending) wire → between ≡ record before { wire = wire }
    → IsSilent (WasWritten port bytes Pending)
    → IsNoFailure (WasWritten port bytes Pending) → WaitOn port config before.history bytes → after ≡ between
    → Keeps hears May config before after
pending_keeps hears May config port bytes may wire before between after was is silent calm waits same =
    let still : after.history ≡ before.history = ap (λ m. m.history) same ∙ ap (λ m. m.history) is in
    let piece : List Heard = WasWritten port bytes Pending ∷ [] in record {
      piece = piece;
      events = [];
      through = (
        before.wire,
        refl,
        subst (λ w. hears before.wire (WasWritten port bytes Pending) w) (sym (ap (λ m. m.wire) same ∙ ap
            (λ m. m.wire) is)) was,
      );
      grown = still;
      told = sym (silent_events piece (silent, tt));
      may = (may, tt);
      keeps = λ trace keeping. keeping_silent config after.history piece trace (silent, tt)
          (subst (λ h. BytesMatch config h trace) (sym still) keeping);
      closing = closing_silent config before.history after.history piece still (silent, tt) (calm, tt);
      hands = λ trace so h. subst (λ l. HandsOver config l (piece ++ trace)) (sym still)
          (hands_over_silent config before.history piece trace (silent, tt)
          (written_fits port bytes Pending config before.history waits, tt) so h);
      lets = λ trace so h. subst (λ l. ClosesChannelsRightly config l (piece ++ trace)) (sym still) ((λ n e. absurd cc), h);
    }

abbrev pub write_by : {W : Type 0} (hears : W → Heard → W → Type 0) (May : Subject
    → Type 0) (config : Config) (port : Port) (may : May OfNone × May (OfConn (port_number port))) (bytes : List ℕ)
    (answer : Answer ℕ) (wire : W) (before between after : DriverView W) (log : List Act) (channel_log : List ChannelAct)
    → IsLogOf config before.history log → HearsOf (device_acts log) channel_log → bytes ≡ waiting_on channel_log port log
    → IsWithin answer (length bytes) → hears before.wire (WasWritten port bytes answer) wire → between ≡ record before { wire = wire }
    → EndsWrite hears port answer config between after → Keeps hears May config before after
write_by hears May config (Conn c) may bytes (Got n) wire before between after log channel_log was tells_so waits few heard is applied =
    answer_keeps hears May config (WasWritten (Conn c) bytes (Got n)) may.1 (Took
    (Conn c) n) wire before between after channel_log log was tells_so
    heard (ap (λ m. m.wire) is) (ap (λ m. m.history) is) applied refl refl (λ d. refl) (written_fits (Conn c) bytes
    (Got n) config before.history (log, channel_log, was, tells_so, waits)) (λ n e. absurd cc)
    (λ d e. written_else (Conn c) bytes (Got n) d e)
    (λ trace d. step_took c n bytes trace d (of d log) channel_log few
    (λ e. waits ∙ ap (λ (m : ℕ). waiting (of m log)) (eqb-true c d e)))
write_by hears May config (Intr c) may bytes (Got n) wire before between after log channel_log was tells_so waits few heard is applied =
    answer_keeps hears May config (WasWritten (Intr c) bytes (Got n)) may.0 (Took
    (Intr c) n) wire before between after channel_log log was tells_so
    heard (ap (λ m. m.wire) is) (ap (λ m. m.history) is) applied refl refl (λ d. refl) (written_fits (Intr c) bytes
    (Got n) config before.history (log, channel_log, was, tells_so, waits)) (λ n e. absurd cc)
    (λ d e. written_else (Intr c) bytes (Got n) d e)
    (λ trace d. step_sent c n bytes trace d (of d log) channel_log few
    (λ e. waits ∙ ap (λ (m : ℕ). channel_waiting m channel_log) (eqb-true c d e)))
write_by hears May config (Conn c) may bytes Pending wire before between after log channel_log was tells_so waits few heard is same =
    pending_keeps hears May config (Conn c) bytes may.1 wire before between after heard is
    (refl, (λ other. refl), (λ other. refl), (λ other. refl)) (λ d. refl) (log, channel_log, was, tells_so, waits) same
write_by hears May config (Intr c) may bytes Pending wire before between after log channel_log was tells_so waits few heard is same =
    pending_keeps hears May config (Intr c) bytes may.0 wire before between after heard is
    (refl, (λ other. refl), (λ other. refl), (λ other. refl)) (λ d. refl) (log, channel_log, was, tells_so, waits) same
write_by hears May config (Conn c) may bytes Failed wire before between after log channel_log was tells_so waits few heard is shuts =
    closes hears May config c may (WasWritten (Conn c) bytes Failed ∷ []) before between after
    (before.wire, refl, subst (λ w. hears before.wire (WasWritten (Conn c) bytes Failed) w) (sym (ap (λ m. m.wire) is)) heard)
    (ap (λ m. m.history) is) ((refl, (λ other. refl), (λ other. refl), (λ other. refl)), tt)
    (written_fits (Conn c) bytes Failed config before.history (log, channel_log, was, tells_so, waits), tt) ((λ n e. absurd cc), tt)
    (may.1, tt) ((λ d e. failed_conn_is_closed c d e), tt)
    (λ trace so d e. inl (WasWritten (Conn c) bytes Failed, trace, refl, eq-eqb c d (closed_conn_is_injective c d e)))
    shuts
write_by hears May config (Intr c) may bytes Failed wire before between after log channel_log was tells_so waits few heard is
    (hung, hangs, applied) =
    let q = closes_channel_quiet hears May config may.0 c between hung hangs in
    let same : hung.history ≡ before.history = q.same ∙ ap (λ m. m.history) is in
    let done = applied_adds_event (Close (Intr c)) config hung after applied in
    event_keeps hears May config (WasWritten (Intr c) bytes Failed) (Close (Intr c)) q.piece [] before after (record {
      hung = Some c;
      newer_adds = q.adds;
      newer_ends = λ d e. eq-eqb c d (some_is_injective c d e);
      unhung = (λ n e. absurd cc);
      older_unhung = tt;
      log = log;
      channel_log = channel_log;
      was = was;
      hears_of = tells_so;
      through = subst (λ w. Through hears (q.piece ++ WasWritten (Intr c) bytes Failed ∷ []) before.wire w) (sym (ap (λ m. m.wire) done))
          (through_join hears (WasWritten (Intr c) bytes Failed ∷ []) q.piece before.wire between.wire hung.wire (
            before.wire,
            refl,
            subst (λ w. hears before.wire (WasWritten (Intr c) bytes Failed) w) (sym (ap
                (λ m. m.wire) is)) heard,
          ) q.through);
      grown = ap (λ m. m.history) done ∙ ap (λ h. Close (Intr c) ∷ h) same;
      newer_silent = q.silent;
      newer_calm = q.calm;
      newer_unwritten = q.unwritten;
      fits = written_fits (Intr c) bytes Failed config before.history (log, channel_log, was, tells_so, waits);
      older_fits = tt;
      older_silent = tt;
      older_once = tt;
      calm = λ d. refl;
      reason = λ trace so d e. written_else (Intr c) bytes Failed d e;
      may = all_may_append May q.piece (WasWritten (Intr c) bytes Failed ∷ []) q.may (may.0, tt);
      outer = refl;
      same = refl;
      step = step_else (Close (Intr c)) (WasWritten (Intr c) bytes Failed) log channel_log (λ d. refl) refl (λ port. refl) (λ d. refl)
          (λ port. refl);
    })

abbrev pub writes : {W : Type 0} (hears : W → Heard → W → Type 0) (May : Subject
    → Type 0) (config : Config) (port : Port) (may : May OfNone × May (OfConn (port_number port)))
    (before after : DriverView W) → WritesTo hears port config before after → Keeps hears May config before after
writes hears May config port may before after (bytes, (log, channel_log, was, tells_so, waits), inl (none, same)) =
    keeps_none hears May config before after same
writes hears May config port may before after
    (bytes, (log, channel_log, was, tells_so, waits), inr (some, answer, few, (between, (wire, heard, is), ends))) =
    write_by hears May config port may bytes answer wire before between after log channel_log was tells_so waits few heard is ends

-- ---- connections at fault are closed

pub closes_if : {W : Type 0} (hears : W → Heard → W → Type 0) (May : Subject
    → Type 0) (config : Config) (c : ℕ) (may : May OfNone × May (OfConn c)) (so : Bool) (before after : DriverView W)
    (log : List Act) → IsLogOf config before.history log → is_faulted (of c log) ≡ true → (so ≡ true → waiting (of c log) ≡ [])
    → ClosesIf hears c so config before after → Keeps hears May config before after
closes_if hears May config c may true before after log was faulted none h =
    closes hears May config c may [] before before after refl refl tt tt tt tt tt
    (λ trace so d e. subst (λ (n : ℕ). IsReason n config (Close (Conn c) ∷ before.history) trace) (closed_conn_is_injective c d e)
    (inr (Close (Conn c) ∷ [], before.history, refl, so, (log, was, faulted, none refl)))) h
closes_if hears May config c may false before after log was faulted none same = keeps_none hears May config before after same

pub ends_if : {W : Type 0} (hears : W → Heard → W → Type 0) (May : Subject
    → Type 0) (config : Config) (c : ℕ) (may : May OfNone × May (OfConn c)) (faulted : Bool) (before after : DriverView W)
    (log : List Act) → IsLogOf config before.history log → faulted ≡ is_faulted (of c log)
    → EndsIf hears c faulted config before after → Keeps hears May config before after
ends_if hears May config c may false before after log was is same = keeps_none hears May config before after same
ends_if hears May config c may true before after log was is (bytes, (other, channel_log, also, tells_so, waits), h) =
    let one = one_log config before.history other log also was in
    closes_if hears May config c may (length bytes == 0) before after log was (sym is)
    (λ e. sym (waits ∙ ap (λ (l : List Act). waiting (of c l)) one) ∙ nil_from_length bytes (eqb-true (length bytes) 0 e)) h

pub ends : {W : Type 0} (hears : W → Heard → W → Type 0) (May : Subject
    → Type 0) (config : Config) (c : ℕ) (may : May OfNone × May (OfConn c)) (before after : DriverView W)
    → Ends hears c config before after → Keeps hears May config before after
ends hears May config c may before after (faulted, (log, was, is), h) = ends_if hears May config c may faulted before after log was is h
