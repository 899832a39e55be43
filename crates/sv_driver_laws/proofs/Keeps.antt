-- A step of the driver keeps the wire's answers and the server's events matching (`Keeps`).
use Rattle.std.proofs.Common.{◌≡◌, ℕ, zero, suc, ◌<◌, true, false, List, [], ◌∷◌, ◌++◌, filter, flat_map, Option, Some, None, Result, Ok, Err, refl, sym, ap, subst, ◌∙◌, append_assoc, arith}
use Rattle.std.specs.Prelude.{⊤}
use Rattle.std.proofs.lemmas.List.Concat.{flat_map-append}
use Rattle.sv_links.specs.Channels.{ChannelAct}
use Rattle.sv_history.specs.declared.event.Config.{Config}
use Rattle.sv_history.specs.declared.event.Dial.{Dial}
use Rattle.sv_history.specs.declared.event.Did.{Did}
use Rattle.sv_history.specs.declared.event.Refused.{Refused}
use Rattle.sv_history.specs.declared.event.Port.TheVariants.{Conn, Intr}
use Rattle.sv_history.specs.Event.{PlainEvent}
use Rattle.sv_history.specs.Act.{Act, of, device_acts}
use Rattle.sv_history.specs.Requests.{HearsOf}
use Rattle.sv_history.specs.History.{IsLogOf, history_after}
use Rattle.sv_laws.proofs.OnlyCalls.{only_calls}
use Rattle.sv_laws.proofs.OnlyRequests.{only_requests}
use Rattle.sv_history.proofs.AlwaysTold.{channel_log_exists}
use Rattle.sv_laws.specs.Laws.{Suits}
use Rattle.sv_laws.proofs.Brought.{brings, tells}
use Rattle.sv_serve.specs.Heard.{Heard, WasAccepted, WasRead, WasProbed, WasWritten, WasClosed, Through}
use Rattle.sv_serve.specs.DriverView.{DriverView, ForEach}
use Rattle.sv_serve.specs.Steps.{Given, IsApplied, dialed_of, ClosesChannelOn, ClosesChannel}
use Rattle.sv_serve.specs.Sweep.{Applies}
use Rattle.sv_driver_laws.specs.Served.{event_of, is_outer}
use Rattle.sv_driver_laws.specs.Carried.{ClosesAtOnce, ends_port}
use Rattle.sv_driver_laws.proofs.LettingGo.{ClosesChannelsRightly, IsEnd, ClosesNoChannel, NoneClosesChannel, MayCloseChannel, may_close_none, may_close_one, closes_rightly_more, closes_rightly_event, none_not_some}
use Rattle.sv_driver_laws.proofs.Handing.{HandsOver, WritesWaiting, AllWriteWaiting, IsNoWrite, NoneWritten, all_fit_none, hands_over_more_events, hands_over_silent, hands_over_event}
use Rattle.sv_serve.proofs.Suited.{suited_is_applied}
use Rattle.sv_driver_laws.proofs.Reasons.{IsNoFailure, NoneIsFailure, Reasons, Closing, matching_append, closing_silent, closing_more, closing_then, closing_event}
use Rattle.sv_driver_laws.proofs.Ports.{PortBytes, IsSilent, AreSilent, BytesMatch, keeping_event, keeping_silent}

-- ---- what steps keep

-- What an answer of the wire is about: a read of a connection; a connection that was accepted,
-- probed, written or closed; or no connection.
pub data Subject : Type 0 where
  OfRead : (conn : ℕ) → Subject
  OfConn : (conn : ℕ) → Subject
  OfNone : Subject

abbrev pub about : Heard → Subject
about (WasAccepted role (Some c) answer) = OfConn c
about (WasRead c most answer) = OfRead c
about (WasProbed c drops answer) = OfConn c
about (WasWritten (Conn c) bytes answer) = OfConn c
about (WasClosed (Conn c)) = OfConn c
about _ = OfNone

abbrev pub AllMay : (Subject → Type 0) → List Heard → Type 0
AllMay May [] = ⊤
AllMay May (heard ∷ piece) = May (about heard) × AllMay May piece

pub all_may_append : (May : Subject → Type 0) (one other : List Heard) → AllMay May one → AllMay May other → AllMay May (one ++ other)
all_may_append May [] other h k = k
all_may_append May (heard ∷ one) other h k = (h.0, all_may_append May one other h.1 k)

-- From one state of the driver to another: the wire's answers, the events, and the properties of
-- trace and history that stay true.
pub record Keeps {W : Type 0} (hears : W → Heard → W → Type 0) (May : Subject
    → Type 0) (config : Config) (before after : DriverView W) : Type 0 where
  pub piece : List Heard
  pub events : List PlainEvent
  pub through : Through hears piece before.wire after.wire
  pub grown : after.history ≡ events ++ before.history
  pub told : filter is_outer events ≡ flat_map event_of piece
  pub may : AllMay May piece
  pub keeps : (trace : List Heard) → BytesMatch config before.history trace → BytesMatch config after.history (piece ++ trace)
  pub closing : Closing config before.history after.history piece
  pub lets : (trace : List Heard) → filter is_outer before.history ≡ flat_map event_of trace
      → ClosesChannelsRightly config before.history trace
      → ClosesChannelsRightly config after.history (piece ++ trace)
  pub hands : (trace : List Heard) → filter is_outer before.history ≡ flat_map event_of trace → HandsOver config before.history trace
      → HandsOver config after.history (piece ++ trace)

pub through_join : {W : Type 0} (hears : W → Heard → W → Type 0) (one other : List Heard) (a b c : W) → Through hears one a b
    → Through hears other b c → Through hears (other ++ one) a c
through_join hears one [] a b c x y = subst (λ w. Through hears one a w) (sym y) x
through_join hears one (heard ∷ other) a b c x (between, y, z) = (between, through_join hears one other a b between x y, z)

abbrev pub keeps_none : {W : Type 0} (hears : W → Heard → W → Type 0) (May : Subject
    → Type 0) (config : Config) (before after : DriverView W) → after ≡ before → Keeps hears May config before after
keeps_none hears May config before after is = record {
  piece = [];
  events = [];
  through = ap (λ m. m.wire) is;
  grown = ap (λ m. m.history) is;
  told = refl;
  may = tt;
  keeps = λ trace keeping. subst (λ h. BytesMatch config h trace) (sym (ap (λ m. m.history) is)) keeping;
  closing = closing_silent config before.history after.history [] (ap (λ m. m.history) is) tt tt;
  hands = λ trace so h. subst (λ l. HandsOver config l trace) (sym (ap (λ m. m.history) is)) h;
  lets = λ trace so h. subst (λ l. ClosesChannelsRightly config l trace) (sym (ap (λ m. m.history) is)) h;
}

abbrev pub keeps_then : {W : Type 0} (hears : W → Heard → W → Type 0) (May : Subject → Type 0) (config : Config) (a b c : DriverView W)
    → Keeps hears May config a b → Keeps hears May config b c → Keeps hears May config a c
keeps_then hears May config a b c x y = record {
  piece = y.piece ++ x.piece;
  events = y.events ++ x.events;
  through = through_join hears x.piece y.piece a.wire b.wire c.wire x.through y.through;
  grown = y.grown ∙ ap (λ h. y.events ++ h) x.grown ∙ sym (append_assoc y.events x.events a.history);
  told = matching_append y.events x.events y.piece x.piece y.told x.told;
  may = all_may_append May y.piece x.piece y.may x.may;
  keeps = λ trace keeping. subst (λ t. BytesMatch config c.history t) (sym (append_assoc y.piece x.piece trace))
      (y.keeps (x.piece ++ trace) (x.keeps trace keeping));
  closing = closing_then config a.history b.history c.history x.events x.piece y.piece x.grown x.told x.closing y.closing;
  hands = λ trace so h. subst (λ t. HandsOver config c.history t) (sym (append_assoc y.piece x.piece trace))
      (y.hands (x.piece ++ trace) (ap (filter is_outer) x.grown ∙ matching_append x.events a.history x.piece trace x.told so)
      (x.hands trace so h));
  lets = λ trace so h. subst (λ t. ClosesChannelsRightly config c.history t) (sym (append_assoc y.piece x.piece trace))
      (y.lets (x.piece ++ trace) (ap (filter is_outer) x.grown ∙ matching_append x.events a.history x.piece trace x.told so)
      (x.lets trace so h));
}

pub keeps_each : {W : Type 0} (hears : W → Heard → W → Type 0) (May : Subject → Type 0) (config : Config) (step : ℕ → Config → DriverView W
    → DriverView W → Type 0) (n : ℕ) → ((c : ℕ) (a b : DriverView W) → c < n → step c config a b → Keeps hears May config a b)
    → (before after : DriverView W) → ForEach n step config before after → Keeps hears May config before after
keeps_each hears May config step zero each before after is = keeps_none hears May config before after is
keeps_each hears May config step (suc n) each before after (between, front, last) =
    keeps_then hears May config before between after
    (keeps_each hears May config step n (λ c a b lt. each c a b (omega (arith, lt))) before between front)
    (each n between after (omega arith) last)

-- ---- answers that cause no event

pub silent_events : (piece : List Heard) → AreSilent piece → flat_map event_of piece ≡ []
silent_events [] silent = refl
silent_events (heard ∷ piece) silent = rw silent.0.0 (silent_events piece silent.1)

pub record Quiet {W : Type 0} (hears : W → Heard → W → Type 0) (May : Subject
    → Type 0) (hung : Option ℕ) (before after : DriverView W) : Type 0 where
  pub piece : List Heard
  pub through : Through hears piece before.wire after.wire
  pub same : after.history ≡ before.history
  pub silent : AreSilent piece
  pub calm : NoneIsFailure piece
  pub unwritten : NoneWritten piece
  pub adds : MayCloseChannel hung piece
  pub may : AllMay May piece

abbrev pub quiet_keeps : {W : Type 0} (hears : W → Heard → W → Type 0) (May : Subject
    → Type 0) (config : Config) (hung : Option ℕ) (before after : DriverView W) → Quiet hears May hung before after
    → ((trace : List Heard) → filter is_outer before.history ≡ flat_map event_of trace → (d : ℕ) → hung ≡ Some d
    → IsEnd d config before.history trace) → Keeps hears May config before after
quiet_keeps hears May config hung before after q reason = record {
  piece = q.piece;
  events = [];
  through = q.through;
  grown = q.same;
  told = sym (silent_events q.piece q.silent);
  may = q.may;
  keeps = λ trace keeping. keeping_silent config after.history q.piece trace q.silent
      (subst (λ h. BytesMatch config h trace) (sym q.same) keeping);
  closing = closing_silent config before.history after.history q.piece q.same q.silent q.calm;
  hands = λ trace so h. subst (λ l. HandsOver config l (q.piece ++ trace)) (sym q.same)
      (hands_over_silent config before.history q.piece trace q.silent (all_fit_none config before.history q.piece q.unwritten) so h);
  lets = λ trace so h. subst (λ l. ClosesChannelsRightly config l (q.piece ++ trace)) (sym q.same)
      (q.adds config before.history trace (reason trace so) h);
}

pub quiet_none : {W : Type 0} (hears : W → Heard → W → Type 0) (May : Subject → Type 0) (hung : Option ℕ) (before after : DriverView W)
    → after ≡ before → Quiet hears May hung before after
quiet_none hears May hung before after is =
    record {
      piece = [];
      through = ap (λ m. m.wire) is;
      same = ap
          (λ m. m.history) is;
      silent = tt;
      calm = tt;
      unwritten = tt;
      adds = may_close_none hung;
      may = tt;
    }

abbrev pub quiet_one : {W : Type 0} (hears : W → Heard → W → Type 0) (May : Subject
    → Type 0) (hung : Option ℕ) (heard : Heard) (may : May (about heard)) (wire : W) (before after : DriverView W)
    → hears before.wire heard wire
    → after.wire ≡ wire → after.history ≡ before.history → IsSilent heard → IsNoFailure heard → IsNoWrite heard
    → ((d : ℕ) → heard ≡ WasClosed (Intr d) → hung ≡ Some d) → Quiet hears May hung before after
quiet_one hears May hung heard may wire before after was there same silent calm unwritten names = record {
  piece = heard ∷ [];
  through = subst (λ w. Through hears (heard ∷ []) before.wire w) (sym there) (before.wire, refl, was);
  same = same;
  silent = (silent, tt);
  calm = (calm, tt);
  unwritten = (unwritten, tt);
  adds = may_close_one hung heard names;
  may = (may, tt);
}

-- The wire is asked, and its answer changes nothing else.
abbrev pub only_heard : {W : Type 0} (hears : W → Heard → W → Type 0) (May : Subject
    → Type 0) (config : Config) (heard : Heard) (may : May (about heard)) (wire : W) (before between after : DriverView W)
    → hears before.wire heard wire → between ≡ record before { wire = wire } → IsSilent heard → IsNoFailure heard → IsNoWrite heard
    → ClosesNoChannel heard → after ≡ between → Keeps hears May config before after
only_heard hears May config heard may wire before between after was is silent calm unwritten unhung same = quiet_keeps hears May config
    None before after
    (quiet_one hears May None heard may wire before after was (ap (λ m. m.wire) same ∙ ap (λ m. m.wire) is)
    (ap (λ m. m.history) same ∙ ap (λ m. m.history) is) silent calm unwritten (λ d e. absurd (unhung d e)))
    (λ trace so d e. none_not_some d e)

pub closed_channel_is : (c d : ℕ) → WasClosed (Intr c) ≡ WasClosed (Intr d) → Some c ≡ Some d
closed_channel_is c d e = cc

pub closes_channel_on_quiet : {W : Type 0} (hears : W → Heard → W → Type 0) (May : Subject
    → Type 0) (config : Config) (may : May OfNone) (c : ℕ) (found : Option Dial) (before after : DriverView W)
    → ClosesChannelOn hears c found config before after → Quiet hears May (Some c) before after
closes_channel_on_quiet hears May config may c None before after is = quiet_none hears May (Some c) before after is
closes_channel_on_quiet hears May config may c (Some dial) before after (between, (wire, was, is), notes) =
    quiet_one hears May (Some c) (WasClosed
    (Intr c)) may wire before after was
    (ap (λ m. m.wire) notes ∙ ap (λ m. m.wire) is) (ap (λ m. m.history) notes ∙ ap (λ m. m.history) is)
    (refl, (λ port. refl), (λ port. refl), (λ port. refl)) (λ d. refl) (λ p b a e. absurd cc) (λ d e. closed_channel_is c d e)

pub closes_channel_quiet : {W : Type 0} (hears : W → Heard → W → Type 0) (May : Subject
    → Type 0) (config : Config) (may : May OfNone) (c : ℕ) (before after : DriverView W)
    → ClosesChannel hears c config before after → Quiet hears May (Some c) before after
closes_channel_quiet hears May config may c before after h = closes_channel_on_quiet hears May config may c (dialed_of c before) before
    after h

-- ---- an answer that causes an event

-- An event that the answers of the server's queries allow (`Suits`) is applied.
pub allowed_event_is_applied : {W : Type 0} (config : Config) (event : PlainEvent) (before after : DriverView W)
    (channel_log : List ChannelAct)
    (log : List Act)
    → IsLogOf config before.history log → HearsOf (device_acts log) channel_log → Suits event channel_log log
    → Applies event config before after → after ≡ record before { history = event ∷ before.history }
allowed_event_is_applied config event before after channel_log log was tells_so suits (result, (also, is_log, answers, is)) =
    is ∙ ap (λ (r : Result Did Refused). record before { history = history_after event r before.history })
    (suited_is_applied config event before also result is_log answers (log, channel_log, was, tells_so, suits))

pub applied_adds_event : {W : Type 0} (event : PlainEvent) (config : Config) (before after : DriverView W)
    → IsApplied event config before after → after ≡ record before { history = event ∷ before.history }
applied_adds_event event config before after (log, was, answers, is) = is

-- An answer causes its event. The answers before it and after it in the same step cause none.
pub record Heeds {W : Type 0} (hears : W → Heard → W → Type 0) (May : Subject
    → Type 0) (config : Config) (heard : Heard) (event : PlainEvent)
    (newer older : List Heard) (before after : DriverView W) : Type 0 where
  pub hung : Option ℕ
  pub newer_adds : MayCloseChannel hung newer
  pub newer_ends : (c : ℕ) → hung ≡ Some c → ends_port (Intr c) heard ≡ true
  pub unhung : ClosesNoChannel heard
  pub older_unhung : NoneClosesChannel older
  pub log : List Act
  pub channel_log : List ChannelAct
  pub was : IsLogOf config before.history log
  pub hears_of : HearsOf (device_acts log) channel_log
  pub through : Through hears (newer ++ heard ∷ older) before.wire after.wire
  pub grown : after.history ≡ event ∷ before.history
  pub newer_silent : AreSilent newer
  pub newer_calm : NoneIsFailure newer
  pub newer_unwritten : NoneWritten newer
  pub fits : WritesWaiting config before.history heard
  pub older_fits : AllWriteWaiting config before.history older
  pub older_silent : AreSilent older
  pub older_once : ClosesAtOnce (Some heard) older
  pub calm : IsNoFailure heard
  pub reason : Reasons config (event ∷ before.history) before.history heard older
  pub may : AllMay May (newer ++ heard ∷ older)
  pub outer : is_outer event ≡ true
  pub same : event_of heard ≡ event ∷ []
  pub step : (trace : List Heard) (c : ℕ) → PortBytes c (of c log) channel_log trace
      → PortBytes c (brings c event ++ of c log) (tells event log ++ channel_log) (heard ∷ trace)

abbrev pub event_keeps : {W : Type 0} (hears : W → Heard → W → Type 0) (May : Subject
    → Type 0) (config : Config) (heard : Heard) (event : PlainEvent)
    (newer older : List Heard) (before after : DriverView W) → Heeds hears May config heard event newer older before after
    → Keeps hears May config before after
event_keeps hears May config heard event newer older before after e = record {
  piece = newer ++ heard ∷ older;
  events = event ∷ [];
  through = e.through;
  grown = e.grown;
  told = rw e.outer (sym (flat_map-append event_of newer (heard ∷ older)
      ∙ rw (silent_events newer e.newer_silent, e.same, silent_events older e.older_silent) refl));
  may = e.may;
  keeps = λ trace keeping. subst (λ h. BytesMatch config h ((newer ++ heard ∷ older) ++ trace)) (sym e.grown)
      (subst (λ t. BytesMatch config (event ∷ before.history) t) (sym (append_assoc newer (heard ∷ older) trace))
      (keeping_silent config (event ∷ before.history) newer (heard ∷ older ++ trace) e.newer_silent
      (keeping_event only_calls only_requests config before.history e.log e.channel_log event (older ++ trace)
      (heard ∷ older ++ trace) e.was e.hears_of
      (e.step (older ++ trace)) (keeping_silent config before.history older trace e.older_silent keeping))));
  closing = closing_event config before.history after.history event heard newer older e.grown e.newer_silent e.newer_calm e.older_silent
      e.older_once e.calm e.reason;
  hands = λ trace so h. hands_over_event config before.history after.history event heard newer older trace e.grown e.newer_unwritten e.fits
      e.older_silent e.older_fits so h;
  lets = λ trace so h. closes_rightly_event config before.history after.history event heard newer older trace e.hung e.grown e.newer_adds
      e.newer_ends
      e.unhung e.older_unhung h;
}

-- The wire is asked, and the event that its answer causes is applied.
abbrev pub answer_keeps : {W : Type 0} (hears : W → Heard → W → Type 0) (May : Subject
    → Type 0) (config : Config) (heard : Heard) (may : May (about heard)) (event : PlainEvent) (wire : W)
    (before between after : DriverView W) (channel_log : List ChannelAct) (log : List Act) → IsLogOf config before.history log
    → HearsOf (device_acts log) channel_log → hears before.wire heard wire
    → between.wire ≡ wire → between.history ≡ before.history → IsApplied event config between after
    → is_outer event ≡ true → event_of heard ≡ event ∷ [] → IsNoFailure heard → WritesWaiting config before.history heard
    → ClosesNoChannel heard → ((c : ℕ) → heard ≡ WasClosed (Conn c) → ⊥)
    → ((trace : List Heard) (c : ℕ) → PortBytes c (of c log) channel_log trace
    → PortBytes c (brings c event ++ of c log) (tells event log ++ channel_log) (heard ∷ trace)) → Keeps hears May config before after
answer_keeps hears May config heard may event wire before between after channel_log log was tells_so heard_so there
    same allowed_event_is_applied outer is calm fits unhung stays step =
    let done = applied_adds_event event config between after allowed_event_is_applied in
    event_keeps hears May config heard event [] [] before after (record {
      hung = None;
      newer_adds = may_close_none None;
      newer_ends = λ d e. none_not_some d e;
      unhung = unhung;
      older_unhung = tt;
      log = log;
      channel_log = channel_log;
      was = was;
      hears_of = tells_so;
      through = (before.wire, refl, subst (λ w. hears before.wire heard w) (sym (ap (λ m. m.wire) done ∙ there)) heard_so);
      grown = ap (λ m. m.history) done ∙ ap (λ h. event ∷ h) same;
      newer_silent = tt;
      newer_calm = tt;
      newer_unwritten = tt;
      fits = fits;
      older_fits = tt;
      older_silent = tt;
      older_once = tt;
      calm = calm;
      reason = λ trace so c e. absurd (stays c e);
      may = (may, tt);
      outer = outer;
      same = is;
      step = step;
    })

-- ---- events that the driver makes itself

abbrev pub inner_by : {W : Type 0} (hears : W → Heard → W → Type 0) (May : Subject
    → Type 0) (config : Config) (event : PlainEvent) (result : Result Did Refused)
    (before after : DriverView W) → is_outer event ≡ false → ((c : ℕ) → brings c event ≡ []) → ((log : List Act) → tells event log ≡ [])
    → Given event result config before after → Keeps hears May config before after
inner_by hears May config event (Err refused) before after inner none untold
    (log, was, answers, is) = keeps_none hears May config before after is
inner_by hears May config event (Ok what) before after inner none untold (log, was, answers, is) = record {
  piece = [];
  events = event ∷ [];
  through = ap (λ m. m.wire) is;
  grown = ap (λ m. m.history) is;
  told = rw inner refl;
  may = tt;
  keeps = λ trace keeping. subst (λ h. BytesMatch config h trace) (sym (ap (λ m. m.history) is))
      (let channel_log = channel_log_exists (device_acts log) in
      keeping_event only_calls only_requests config before.history log channel_log.0 event trace trace was channel_log.1
      (λ c h. rw (none c, untold log) h) keeping);
  closing = closing_more config before.history after.history (event ∷ []) (ap (λ m. m.history) is);
  lets = λ trace so h. subst (λ l. ClosesChannelsRightly config l trace) (sym (ap (λ m. m.history) is))
      (closes_rightly_more config before.history
      (event ∷ []) trace h);
  hands = λ trace so h. subst (λ l. HandsOver config l trace) (sym (ap (λ m. m.history) is)) (hands_over_more_events config before.history
      (event ∷ []) trace h);
}

abbrev pub inner_applies : {W : Type 0} (hears : W → Heard → W → Type 0) (May : Subject
    → Type 0) (config : Config) (event : PlainEvent) (before after : DriverView W)
    → is_outer event ≡ false → ((c : ℕ) → brings c event ≡ []) → ((log : List Act) → tells event log ≡ [])
    → Applies event config before after → Keeps hears May config before after
inner_applies hears May config event before after inner none untold (result, given) =
    inner_by hears May config event result before after inner none untold given
