-- A connection that isn't open holds nothing: no link, no lock, no suspended call and no interrupt
-- channel.
use Rattle.std.proofs.Common.{◌≡◌, ◌≢◌, ℕ, Bool, true, false, cond, eqb, List, [], ◌∷◌, ◌++◌, Option, Some, None, refl, sym, ap, subst, ◌∙◌, inl, inr, append_assoc, eq-eqb, nat_lt}
use Rattle.std.specs.Prelude.{map, not, is_some, ◌||◌}
use Rattle.std.proofs.lemmas.Bool.{cases_Bool, cases_eq, ne_eqb, false_from_ne_true}
use Rattle.sv_logs.proofs.Each.{Each}
use Rattle.sv_vxi.specs.Arguments.{Arguments}
use Rattle.sv_links.specs.declared.request.Peer.{Peer}
use Rattle.sv_links.specs.declared.waiting.Wait.{Wait}
use Rattle.sv_links.specs.Links.{LinkAct, closing, owner}
use Rattle.sv_links.specs.Waiting.{Left, waits}
use Rattle.sv_links.specs.Channels.{ChannelAct, ChannelOpened, ChannelClosed, ChannelTaken, is_channel_open}
use Rattle.sv_scan.specs.declared.acts.ScanAct.TheVariants.{Input as InputTo}
use Rattle.sv_layers.specs.Act.{Act as InstrumentAct, Scanned}
use Rattle.sv_instrument.specs.Stimulus.{external_acts, tick_acts}
use Rattle.sv_history.specs.declared.event.Config.{Config}
use Rattle.sv_history.specs.declared.event.Port.TheVariants.{Conn, Intr}
use Rattle.sv_history.specs.declared.event.Refused.TheVariants.{NoConn, NoDial}
use Rattle.sv_history.specs.declared.event.Role.{Role}
use Rattle.sv_history.specs.declared.event.Role.TheVariants.{Core}
use Rattle.sv_history.specs.Event.{PlainEvent, Open, Bytes, Turn, Refuse, Took, Close, Dialed, Input, External, Tick}
use Rattle.sv_history.specs.Act.{Act, ConnAct, DeviceAct, Opened, Piece, CallTaken, Faulted, Replied, BytesTaken, PortClosed, Linked, Waited, Channel, Applied, Ticked, On, OnDevice, of, device_acts, link_acts, wait_acts, channel_acts, instrument_acts}
use Rattle.sv_history.specs.Connection.{is_open, next_call, open_role, pending_call}
use Rattle.sv_history.specs.CallOutcome.{CallOutcome, only}
use Rattle.sv_history.specs.CoreCall.{CoreCall, failure}
use Rattle.sv_history.specs.CoreChannel.{own_call}
use Rattle.sv_history.specs.Effect.{Effect, acts_of, call_effect}
use Rattle.sv_history.specs.Request.{Request, CoreRequest, core_call_in, next_request}
use Rattle.sv_history.specs.Interrupts.{has_channel, is_dial, connect_outcome}
use Rattle.sv_history.specs.Admission.{Stop, Fails, Awaits, stop_of, admission}
use Rattle.sv_history.specs.Execution.{request_effect}
use Rattle.sv_history.specs.Refusing.{refusable, refused_reply}
use Rattle.sv_history.specs.Resuming.{effect_of, leaving, next_wait, resume_outcome}
use Rattle.sv_history.specs.History.{IsLogOf}
use Rattle.sv_history.proofs.Dialing.{peer_named_by, connect_outcome_for, connect_outcome_by_peer}
use Rattle.sv_history.proofs.Projections.{of_device_acts, device_acts_append, device_effect}
use Rattle.sv_laws.specs.Gone.{ClosedHoldsNothing, CloseShuts}
use Rattle.sv_laws.proofs.Facts.{none_is_not_some}
use Rattle.sv_laws.proofs.Brought.{AreCallActs}
use Rattle.sv_laws.proofs.OnlyCalls.{only_calls}
use Rattle.sv_laws.proofs.Place.{EventsKeep, each_place}
use Rattle.sv_laws.proofs.EveryLog.Done.{IsActOfCall, each_act_is_of_call}
use Rattle.sv_laws.proofs.EveryLog.Fit.{each_after_effect}
use Rattle.sv_laws.proofs.EveryLog.Known.{enabled_link_is_owned}
use Rattle.sv_laws.proofs.EveryLog.Keeps.{holder_is_live}
use Rattle.sv_laws.proofs.EveryLog.EachEvent.{StepsKeep, step_keeps, turn_keeps, refuse_keeps, reply_keeps_role, opened_was_shut, close_acts, device_acts_of_close, close_leaves_others, fit_log}
use Rattle.sv_laws.proofs.SoundEvents.{sound_log}

-- ---- only a connection of the core channel has an open interrupt channel

abbrev HasCore : ℕ → List ConnAct → List DeviceAct → Type 0
HasCore c own acts = is_channel_open c (channel_acts acts) ≡ true → open_role own ≡ Some Core

abbrev AllCore : List Act → Type 0
AllCore log = (c : ℕ) → HasCore c (of c log) (device_acts log)

-- These acts open no interrupt channel.
abbrev OnlyShuts : List DeviceAct → List DeviceAct → Type 0
OnlyShuts adds acts = (d : ℕ) → is_channel_open d (channel_acts (adds ++ acts)) ≡ true → is_channel_open d (channel_acts acts) ≡ true

core_by : (c : ℕ) (effect : Effect) (log : List Act) → AllCore log
    → ((d : ℕ) → d ≢ c → is_channel_open d (channel_acts (effect.adds ++ device_acts log)) ≡ true
    → is_channel_open d (channel_acts (device_acts log)) ≡ true)
    → HasCore c (effect.own ++ of c log) (effect.adds ++ device_acts log) → AllCore (acts_of c effect ++ log)
core_by c effect log all others mine d opened =
    each_after_effect (λ d own. HasCore d own (effect.adds ++ device_acts log)) c effect log mine (λ d ne is. all d (others d ne is)) d
    (ap (λ (l : List DeviceAct). is_channel_open d (channel_acts l)) (sym (device_effect c effect log)) ∙ opened)

core_effect : (c : ℕ) (effect : Effect) (log : List Act) → AllCore log → OnlyShuts effect.adds (device_acts log)
    → open_role (effect.own ++ of c log) ≡ open_role (of c log) → AllCore (acts_of c effect ++ log)
core_effect c effect log all shuts role =
    core_by c effect log all (λ d ne is. shuts d is) (λ is. role ∙ all c (shuts c is))

core_shared : (adds : List DeviceAct) (log : List Act) → AllCore log → OnlyShuts adds (device_acts log) → AllCore (map OnDevice adds ++ log)
core_shared adds log all shuts d opened = ap open_role (of_device_acts d adds log)
    ∙ all d (shuts d (ap (λ (l : List DeviceAct). is_channel_open d (channel_acts l)) (sym (device_acts_append adds log)) ∙ opened))

channels_happened : (adds : List InstrumentAct) (acts : List DeviceAct) → channel_acts (map Applied adds ++ acts) ≡ channel_acts acts
channels_happened [] acts = refl
channels_happened (act ∷ adds) acts = channels_happened adds acts

channels_links : (links : List LinkAct) (acts : List DeviceAct) → channel_acts (map Linked links ++ acts) ≡ channel_acts acts
channels_links [] acts = refl
channels_links (act ∷ links) acts = channels_links links acts

core_happened : (adds : List InstrumentAct) (log : List Act) → AllCore log → AllCore (map OnDevice (map Applied adds) ++ log)
core_happened adds log all = core_shared (map Applied adds) log all
    (λ d is. ap (is_channel_open d) (sym (channels_happened adds (device_acts log))) ∙ is)

closes : (c : ℕ) (acts : List DeviceAct) → OnlyShuts (Channel (ChannelClosed c) ∷ []) acts
closes c acts d is = elim (cases_Bool (eqb c d)) [
  | inl e ↦ absurd (let z : false ≡ true = rw e at is in cc)
  | inr e ↦ rw e at is
]

done_shuts : (c : ℕ) (arguments : Arguments) (adds acts : List DeviceAct) → Each (IsActOfCall c arguments) adds acts → OnlyShuts adds acts
done_shuts c arguments [] acts h d is = is
done_shuts c arguments (Channel (ChannelOpened conn what) ∷ adds) acts h d is = absurd h.0
done_shuts c arguments (Channel (ChannelClosed conn) ∷ adds) acts h d is =
    done_shuts c arguments adds acts h.1 d (closes conn (adds ++ acts) d is)
done_shuts c arguments (_ ∷ adds) acts h d is = done_shuts c arguments adds acts h.1 d is

-- ---- calls

core_left : (c xid : ℕ) (outcome : CallOutcome) (log : List Act) → AllCore log → OnlyShuts outcome.adds (Waited (Left c) ∷ device_acts log)
    → AllCore (acts_of c (call_effect xid (leaving c outcome)) ++ log)
core_left c xid outcome log all shuts = core_effect c (call_effect xid (leaving c outcome)) log all
    (λ d is. shuts d (ap (λ (l : List DeviceAct). is_channel_open d (channel_acts l))
    (sym (append_assoc outcome.adds (Waited (Left c) ∷ []) (device_acts log))) ∙ is)) (reply_keeps_role xid outcome.result (of c log))

core_ended : (c : ℕ) (does : Arguments → CallOutcome) (log : List Act) → AllCore log
    → ((call : CoreCall) → AllCore (acts_of c (call_effect call.xid (does call.arguments)) ++ log)) → (call : Option CoreCall)
    → AllCore (acts_of c (effect_of c does call) ++ log)
core_ended c does log all ends (Some call) = ends call
core_ended c does log all ends None = core_effect c (effect_of c does None) log all (λ d is. is) refl

core_done : (config : Config) (polled c : ℕ) (call : CoreCall) (log : List Act) → AllCore log
    → AllCore (acts_of c (call_effect call.xid (leaving c (own_call config polled c call.arguments (Waited (Left c) ∷ device_acts log))))
    ++ log)
core_done config polled c call log all =
    let before = Waited (Left c) ∷ device_acts log in
    let outcome = own_call config polled c call.arguments before in
    core_left c call.xid outcome log all
    (done_shuts c call.arguments outcome.adds before (each_act_is_of_call config polled c call.arguments before))

core_continued : (config : Config) (polled c : ℕ) (call : CoreCall) (next : Option (Wait × ℕ)) (log : List Act) → AllCore log
    → AllCore (acts_of c (call_effect call.xid (resume_outcome config polled c call.arguments next (device_acts log))) ++ log)
core_continued config polled c call (Some next) log all =
    core_effect c (call_effect call.xid (resume_outcome config polled c call.arguments (Some next) (device_acts log))) log all
    (λ d is. is) refl
core_continued config polled c call None log all = core_done config polled c call log all

core_steps : (config : Config) → StepsKeep config AllCore
core_steps config = record {
  happened = core_happened;
  resumed = λ polled c wait log for all. core_ended c (λ arguments. resume_outcome config polled c arguments
      (next_wait wait arguments (device_acts log)) (device_acts log)) log all
      (λ call. core_continued config polled c call (next_wait wait call.arguments (device_acts log)) log all)
      (core_call_in (pending_call (of c log)));
  failed = λ error c log all. core_ended c (λ arguments. leaving c (only (failure arguments error))) log all
      (λ call. core_left c call.xid (only (failure call.arguments error)) log all (λ d is. is)) (core_call_in (pending_call (of c log)));
}

-- ---- events

core_on : (c : ℕ) (act : ConnAct) (log : List Act) → AllCore log → open_role (act ∷ of c log) ≡ open_role (of c log)
    → AllCore (On c act ∷ log)
core_on c act log all role = core_effect c (record { own = act ∷ []; adds = [] }) log all (λ d is. is) role

core_admitted : (config : Config) (polled c : ℕ) (call : CoreCall) (stop : Option Stop) (log : List Act) → AllCore log
    → AllCore (acts_of c (call_effect call.xid (admission config polled c call.arguments stop (device_acts log))) ++ log)
core_admitted config polled c call None log all =
    let outcome = own_call config polled c call.arguments (device_acts log) in
    core_effect c (call_effect call.xid outcome) log all
    (done_shuts c call.arguments outcome.adds (device_acts log) (each_act_is_of_call config polled c call.arguments (device_acts log)))
    (reply_keeps_role call.xid outcome.result (of c log))
core_admitted config polled c call (Some (Fails error)) log all =
    core_effect c (call_effect call.xid (only (failure call.arguments error))) log all (λ d is. is) refl
core_admitted config polled c call (Some (Awaits wait until)) log all =
    core_effect c (call_effect call.xid (admission config polled c call.arguments (Some (Awaits wait until)) (device_acts log))) log all
    (λ d is. is) refl

core_request : (config : Config) (polled c : ℕ) (request : Request) (log : List Act) → AllCore log
    → AllCore (acts_of c (request_effect config polled c request (device_acts log)) ++ log)
core_request config polled c (CoreRequest call) log all =
    core_admitted config polled c call (stop_of c call.arguments (device_acts log)) log all
core_request config polled c request log all =
    core_effect c (request_effect config polled c request (device_acts log)) log all (λ d is. is) refl

core_open : (c : ℕ) (role : Role) (log : List Act) → AllCore log → open_role (of c log) ≡ None → AllCore (On c (Opened role) ∷ log)
core_open c role log all shut = core_by c (record { own = Opened role ∷ []; adds = [] }) log all (λ d ne is. is)
    (λ is. none_is_not_some (open_role (of c log)) Core shut (all c is))

core_close : (c : ℕ) (log : List Act) → AllCore log → AllCore (map OnDevice (close_acts c (device_acts log)) ++ On c PortClosed ∷ log)
core_close c log all d opened =
    let acts = device_acts log in
    let links = closing c (link_acts acts) in
    let rest : channel_acts (map Linked links ++ Waited (Left c) ∷ acts)
    ≡ channel_acts acts = channels_links links (Waited (Left c) ∷ acts) in
    let now : is_channel_open d (ChannelClosed c ∷ channel_acts acts) ≡ true =
    ap (λ (l : List ChannelAct). is_channel_open d (ChannelClosed c ∷ l)) (sym rest)
    ∙ ap (λ (l : List DeviceAct). is_channel_open d (channel_acts l)) (sym (device_acts_of_close c log)) ∙ opened in
    elim (cases_eq d c) [
      | inl e ↦ absurd (let z : false ≡ true = rw (eq-eqb c d (sym e)) at now in cc)
      | inr ne ↦ ap open_role (close_leaves_others c d log ne) ∙ all d (rw (ne_eqb c d (λ e. ne (sym e))) at now)
    ]

-- If a Dialed isn't refused, a create_intr_chan of the connection waits for its peer.
pub dialed_means_dialing : (far shut dialing : Bool) → cond (far || shut) (Some NoConn) (cond dialing None (Some NoDial)) ≡ None
    → dialing ≡ true
dialed_means_dialing true shut dialing e = absurd cc
dialed_means_dialing false true dialing e = absurd cc
dialed_means_dialing false false true e = refl
dialed_means_dialing false false false e = absurd cc

dial_waits : (found : Option Wait) → is_dial found ≡ true → (wait : Wait) × (found ≡ Some wait)
dial_waits (Some wait) e = (wait, refl)
dial_waits None e = absurd cc

core_dialed : (c : ℕ) (ok : Bool) (call : CoreCall) (peer : Option Peer) (log : List Act) → AllCore log → open_role (of c log) ≡ Some Core
    → AllCore (acts_of c (call_effect call.xid (leaving c (connect_outcome_for c ok call.arguments peer))) ++ log)
core_dialed c true call (Some peer) log all core =
    core_by c (call_effect call.xid (leaving c (connect_outcome_for c true call.arguments (Some peer)))) log all
    (λ d ne is. rw (ne_eqb c d (λ e. ne (sym e))) at is) (λ is. core)
core_dialed c false call (Some peer) log all core =
    core_left c call.xid (connect_outcome_for c false call.arguments (Some peer)) log all (λ d is. is)
core_dialed c ok call None log all core = core_left c call.xid (connect_outcome_for c ok call.arguments None) log all (λ d is. is)

core_event : (config : Config) → EventsKeep config AllCore
core_event config history (Open c role) polled channel_log log was free fit all =
    core_open c role log all (opened_was_shut (nat_lt 15 c) (open_role (of c log)) free)
core_event config history (Bytes c piece) polled channel_log log was free fit all = core_on c (Piece piece) log all refl
core_event config history (Turn c) polled channel_log log was free fit all =
    turn_keeps config AllCore (core_steps config) polled c (next_call (of c log)) (next_request (of c log)) log all
    (λ bytes request next asks. core_request config polled c request (On c (CallTaken bytes) ∷ log)
    (core_on c (CallTaken bytes) log all refl))
core_event config history (Refuse c) polled channel_log log was free fit all =
    refuse_keeps AllCore c (next_call (of c log)) (refusable (of c log)) log all (λ bytes call next can.
    core_on c (Replied (refused_reply call)) (On c (CallTaken bytes) ∷ log) (core_on c (CallTaken bytes) log all refl) refl)
core_event config history (Took (Conn c) count) polled channel_log log was free fit all = core_on c (BytesTaken count) log all refl
core_event config history (Took (Intr c) count) polled channel_log log was free fit all =
    core_shared (Channel (ChannelTaken c count) ∷ []) log all (λ d is. is)
core_event config history (Close (Conn c)) polled channel_log log was free fit all =
    subst AllCore (sym (append_assoc (map OnDevice (close_acts c (device_acts log))) (On c PortClosed ∷ []) log)) (core_close c log all)
core_event config history (Close (Intr c)) polled channel_log log was free fit all =
    core_shared (Channel (ChannelClosed c) ∷ []) log all (closes c (device_acts log))
core_event config history (Dialed c ok) polled channel_log log was free fit all =
    let for = dial_waits (waits c (wait_acts (device_acts log))) (dialed_means_dialing (nat_lt 15 c) (not (is_open (of c log))) _ free) in
    let core = (fit.held c for.0 for.1).0 in
    core_ended c (λ arguments. leaving c (connect_outcome c ok arguments)) log all
    (λ call. rw (connect_outcome_by_peer c ok call.arguments) (core_dialed c ok call (peer_named_by call.arguments) log all core))
    (core_call_in (pending_call (of c log)))
core_event config history (Input channel microvolts) polled channel_log log was free fit all =
    core_happened (Scanned (InputTo channel microvolts) ∷ []) log all
core_event config history External polled channel_log log was free fit all =
    core_happened (external_acts (instrument_acts (device_acts log))) log all
core_event config history Tick polled channel_log log was free fit all =
    let adds = tick_acts (instrument_acts (device_acts log)) in
    subst AllCore (sym (append_assoc (map OnDevice (map Applied adds)) (OnDevice Ticked ∷ []) log))
    (core_happened adds (OnDevice Ticked ∷ log) (core_shared (Ticked ∷ []) log all (λ d is. is)))

core_log : (config : Config) (history : List PlainEvent) (log : List Act) → IsLogOf config history log → AllCore log
core_log config = each_place config AllCore (λ c is. absurd (let z : false ≡ true = is in cc)) (core_event config)
    (λ log new fit all next. step_keeps config AllCore (core_steps config) log new all next)

-- ---- a connection that isn't open holds nothing

shut_role : (role : Option Role) → is_some role ≡ false → role ≡ None
shut_role None e = refl
shut_role (Some role) e = absurd cc

no_some_is_none : (found : Option Wait) → ((wait : Wait) → found ≡ Some wait → ⊥) → found ≡ None
no_some_is_none None h = refl
no_some_is_none (Some wait) h = absurd (h wait refl)

pub closed_holds_nothing : ClosedHoldsNothing
closed_holds_nothing config history log c was shut =
    let acts = device_acts log in
    let role = shut_role (open_role (of c log)) shut in
    let fit = fit_log config history log was in
    let keeps = (sound_log config history log was).keeps in
    let never : open_role (of c log) ≡ Some Core → ⊥ = λ core. none_is_not_some (open_role (of c log)) Core role core in
    let links : (lid : ℕ) → owner lid (link_acts acts) ≢ Some c = λ lid owns. never (fit.core lid c owns) in
    record {
      links = links;
      lock = λ lid held.
          let lives = holder_is_live acts fit.suits keeps lid held in (
            lives.0,
            lives.1,
            (λ same. links lid (lives.1 ∙ ap (λ (n : ℕ). Some n) same)),
            ap is_some (fit.core lid lives.0 lives.1),
          );
      call = no_some_is_none (waits c (wait_acts acts)) (λ wait for. never (fit.held c wait for).0);
      channel = false_from_ne_true (has_channel c acts) (λ opened. never (core_log config history log was c opened));
      requests = λ channel_log lid enabled hears is same.
          links lid (enabled_link_is_owned acts channel_log fit.suits hears lid enabled is ∙ ap (λ (n : ℕ). Some n) same);
    }

-- ---- after the Close of a connection, it isn't open

calls_after_close_stay_shut : (calls own : List ConnAct) → AreCallActs calls → open_role (calls ++ PortClosed ∷ own) ≡ None
calls_after_close_stay_shut [] own h = refl
calls_after_close_stay_shut (CallTaken call ∷ calls) own h = calls_after_close_stay_shut calls own h
calls_after_close_stay_shut (Faulted ∷ calls) own h = calls_after_close_stay_shut calls own h
calls_after_close_stay_shut (Replied reply ∷ calls) own h = calls_after_close_stay_shut calls own h
calls_after_close_stay_shut (_ ∷ calls) own h = absurd h

pub close_shuts : CloseShuts
close_shuts config history log c now =
    let calls = only_calls config (Close (Conn c)) history now.0 log c now.4 now in
    ap is_open (rw (eq-eqb c c refl) at calls.2) ∙ ap is_some (calls_after_close_stay_shut calls.0 (of c now.0) calls.1)
