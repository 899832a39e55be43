-- In each log of a history, a call that is pending is suspended.
use Rattle.std.proofs.Common.{◌≡◌, ◌≢◌, ℕ, ◌<◌, Bool, true, false, List, [], ◌∷◌, ◌++◌, Option, Some, None, refl, sym, ap, subst, ◌∙◌, inl, inr, append_assoc, eq-eqb}
use Rattle.std.specs.Prelude.{map, is_some}
use Rattle.std.proofs.lemmas.Bool.{cases_eq}
use Rattle.sv_vxi.specs.declared.error_code.ErrorCode.{ErrorCode}
use Rattle.sv_vxi.specs.Arguments.{Arguments, link}
use Rattle.sv_vxi.specs.Results.{Outcome}
use Rattle.sv_links.specs.declared.request.Peer.{Peer}
use Rattle.sv_links.specs.declared.waiting.Wait.{Wait}
use Rattle.sv_links.specs.Links.{closing}
use Rattle.sv_links.specs.Waiting.{WaitAct, Entered, Again, Left, waits}
use Rattle.sv_links.specs.Channels.{ChannelAct, ChannelClosed, ChannelTaken}
use Rattle.sv_laws.proofs.CallsAlike.{connection_of, foreign_act_keeps_call}
use Rattle.sv_scan.specs.declared.acts.ScanAct.TheVariants.{Input as InputTo}
use Rattle.sv_layers.specs.Act.{Act as InstrumentAct, Scanned}
use Rattle.sv_instrument.specs.Stimulus.{external_acts, tick_acts}
use Rattle.sv_history.specs.declared.event.Config.{Config}
use Rattle.sv_history.specs.declared.event.Port.TheVariants.{Conn, Intr}
use Rattle.sv_history.specs.Event.{PlainEvent, Open, Bytes, Turn, Refuse, Took, Close, Dialed, Input, External, Tick}
use Rattle.sv_history.specs.Act.{Act, ConnAct, DeviceAct, Opened, Piece, CallTaken, Replied, BytesTaken, PortClosed, Waited, Channel, Applied, Ticked, On, OnDevice, of, device_acts, link_acts, wait_acts, instrument_acts}
use Rattle.sv_history.specs.Connection.{next_call, pending_call}
use Rattle.sv_history.specs.CallOutcome.{CallOutcome, only}
use Rattle.sv_history.specs.CoreCall.{CoreCall, lid_of, failure}
use Rattle.sv_history.specs.CoreChannel.{own_call}
use Rattle.sv_history.specs.Effect.{Effect, acts_of, replies, call_effect}
use Rattle.sv_history.specs.Request.{Request, CoreRequest, core_call_in, next_request}
use Rattle.sv_history.specs.Interrupts.{connect_outcome}
use Rattle.sv_history.proofs.Dialing.{peer_named_by, connect_outcome_for, connect_outcome_by_peer}
use Rattle.sv_history.specs.Admission.{Stop, Fails, Awaits, stop_of, admission, deadline}
use Rattle.sv_history.specs.Execution.{request_effect}
use Rattle.sv_history.specs.Refusing.{refusable, refused_reply}
use Rattle.sv_history.specs.Resuming.{effect_of, leaving, next_wait, resume_outcome, failure_effect}
use Rattle.sv_history.specs.History.{turn_acts, own_acts, refusal, IsLogOf}
use Rattle.sv_history.proofs.Projections.{of_own_act, of_other_act, of_device_acts, device_acts_append, device_effect, wait_acts_links, wait_acts_applied}
use Rattle.sv_laws.proofs.EveryLog.Done.{each_act_is_of_call, executed_call_has_result}
use Rattle.sv_laws.proofs.EveryLog.Taken.{unrefused_below_16}
use Rattle.sv_laws.proofs.EveryLog.Fit.{Fit, each_after_effect}
use Rattle.sv_laws.proofs.EveryLog.EachEvent.{entered_waits, induction_over_history, StepsKeep, step_keeps, turn_keeps, refuse_keeps, call_acts_suspend_none, fit_request, fit_keeps, close_acts, device_acts_of_close, close_leaves_others, fit_event, fit_none}
use Rattle.sv_laws.proofs.Facts.{none_is_not_some}

-- If the connection has no suspended call, it has no pending call.
abbrev HasWait : ℕ → List Act → Type 0
HasWait c log = waits c (wait_acts (device_acts log)) ≡ None → pending_call (of c log) ≡ None

abbrev AllWait : List Act → Type 0
AllWait log = (c : ℕ) → HasWait c log

reply_ends_pending : (xid : ℕ) (result : Option Outcome) (acts : List ConnAct) → is_some result ≡ true
    → pending_call (replies xid result ++ acts) ≡ None
reply_ends_pending xid (Some result) acts channel_log = refl
reply_ends_pending xid None acts channel_log = absurd cc

-- ---- acts of one connection, and acts of the device

other_act_keeps_wait : (c d : ℕ) (act : WaitAct) (acts : List WaitAct) → connection_of act ≡ c → d ≢ c → waits d (act ∷ acts) ≡ waits d acts
other_act_keeps_wait c d act acts is ne =
    (foreign_act_keeps_call d act acts acts (λ e. ne (sym e ∙ is)) (record { wait = refl; until = refl; named = refl })).wait

-- These acts don't change what the suspended calls of other connections wait for.
abbrev LeavesOthers : ℕ → List DeviceAct → List DeviceAct → Type 0
LeavesOthers c adds acts = (d : ℕ) → d ≢ c → waits d (wait_acts (adds ++ acts)) ≡ waits d (wait_acts acts)

all_effect : (c : ℕ) (effect : Effect) (log : List Act) → ((d : ℕ) → d ≢ c → HasWait d log) → LeavesOthers c effect.adds (device_acts log)
    → (waits c (wait_acts (effect.adds ++ device_acts log)) ≡ None → pending_call (effect.own ++ of c log) ≡ None)
    → AllWait (acts_of c effect ++ log)
all_effect c effect log all others mine d none =
    let here : waits d (wait_acts (effect.adds ++ device_acts log)) ≡ None =
    ap (λ (l : List DeviceAct). waits d (wait_acts l)) (sym (device_effect c effect log)) ∙ none in
    each_after_effect (λ d own. waits d (wait_acts (effect.adds ++ device_acts log)) ≡ None → pending_call own ≡ None) c effect log mine
    (λ d ne none. all d ne (sym (others d ne) ∙ none)) d here

all_shared : (adds : List DeviceAct) (log : List Act) → AllWait log → wait_acts (adds ++ device_acts log) ≡ wait_acts (device_acts log)
    → AllWait (map OnDevice adds ++ log)
all_shared adds log all same d none = ap pending_call (of_device_acts d adds log)
    ∙ all d (ap (waits d) (sym same ∙ ap wait_acts (sym (device_acts_append adds log))) ∙ none)

instrument_keeps_all_wait : (adds : List InstrumentAct) (log : List Act) → AllWait log → AllWait (map OnDevice (map Applied adds) ++ log)
instrument_keeps_all_wait adds log all = all_shared (map Applied adds) log all (wait_acts_applied adds (device_acts log))

-- ---- a suspended call ends, or is suspended again

-- The case that the call ends with a result.
leaving_keeps_all_wait : (c xid : ℕ) (outcome : CallOutcome) (log : List Act) → AllWait log → is_some outcome.result ≡ true
    → wait_acts (outcome.adds ++ Waited (Left c) ∷ device_acts log) ≡ Left c ∷ wait_acts (device_acts log)
    → AllWait (acts_of c (call_effect xid (leaving c outcome)) ++ log)
leaving_keeps_all_wait c xid outcome log all channel_log left =
    let acts = device_acts log in
    let moved : wait_acts ((outcome.adds ++ Waited (Left c) ∷ []) ++ acts) ≡ Left c ∷ wait_acts acts =
    ap wait_acts (append_assoc outcome.adds (Waited (Left c) ∷ []) acts) ∙ left in
    all_effect c (call_effect xid (leaving c outcome)) log (λ d ne. all d)
    (λ d ne. ap (waits d) moved ∙ other_act_keeps_wait c d (Left c) (wait_acts acts) refl ne)
    (λ none. reply_ends_pending xid outcome.result (of c log) channel_log)

-- A suspended call is a call of the core channel, so it is enough to look at the effects of such
-- calls.
ending_keeps_all_wait : (c : ℕ) (does : Arguments → CallOutcome) (log : List Act) → Fit log → AllWait log
    → ((call : CoreCall) → AllWait (acts_of c (call_effect call.xid (does call.arguments)) ++ log))
    → AllWait (acts_of c (effect_of c does (core_call_in (pending_call (of c log)))) ++ log)
ending_keeps_all_wait c does log fit all ends = by (core_call_in (pending_call (of c log))) refl
  where
    free_by : (found : Option Wait) → waits c (wait_acts (device_acts log)) ≡ found → core_call_in (pending_call (of c log)) ≡ None
        → pending_call (of c log) ≡ None
    free_by None is none = all c is
    free_by (Some wait) is none =
        let known = (fit.held c wait is).1 in
        absurd (let z : None ≡ Some known.0 = sym none ∙ known.1 in cc)

    by : (call : Option CoreCall) → core_call_in (pending_call (of c log)) ≡ call → AllWait (acts_of c (effect_of c does call) ++ log)
    by (Some call) e = ends call
    by None e = all_effect c (effect_of c does None) log (λ d ne. all d)
        (λ d ne. other_act_keeps_wait c d (Left c) (wait_acts (device_acts log)) refl ne)
        (λ none. free_by (waits c (wait_acts (device_acts log))) refl e)

all_failed : (error : ErrorCode) (c : ℕ) (log : List Act) → Fit log → AllWait log
    → AllWait (acts_of c (failure_effect error c (core_call_in (pending_call (of c log)))) ++ log)
all_failed error c log fit all = ending_keeps_all_wait c (λ arguments. leaving c (only (failure arguments error))) log fit all
    (λ call. leaving_keeps_all_wait c call.xid (only (failure call.arguments error)) log all refl refl)

all_dialed : (c : ℕ) (ok : Bool) (log : List Act) → Fit log → AllWait log
    → AllWait (acts_of c (effect_of c (λ arguments. leaving c (connect_outcome c ok arguments)) (core_call_in (pending_call (of c log))))
    ++ log)
all_dialed c ok log fit all = ending_keeps_all_wait c (λ arguments. leaving c (connect_outcome c ok arguments)) log fit all
    (λ call. rw (connect_outcome_by_peer c ok call.arguments) (by ok call (peer_named_by call.arguments)))
  where
    by : (ok : Bool) (call : CoreCall) (peer : Option Peer)
        → AllWait (acts_of c (call_effect call.xid (leaving c (connect_outcome_for c ok call.arguments peer))) ++ log)
    by true call (Some peer) = leaving_keeps_all_wait c call.xid (connect_outcome_for c true call.arguments (Some peer)) log all refl refl
    by false call (Some peer) = leaving_keeps_all_wait c call.xid (connect_outcome_for c false call.arguments (Some peer)) log all refl refl
    by ok call None = leaving_keeps_all_wait c call.xid (connect_outcome_for c ok call.arguments None) log all refl refl

again_waits : (c : ℕ) (wait before : Wait) (last : Option ℕ) (acts : List WaitAct) → waits c acts ≡ Some before
    → waits c (Again c wait last ∷ acts) ≡ Some wait
again_waits c wait before last acts is = rw (eq-eqb c c refl, is) refl

all_continued : (config : Config) (polled c : ℕ) (wait : Wait) (call : CoreCall) (next : Option (Wait × ℕ)) (log : List Act) → AllWait log
    → waits c (wait_acts (device_acts log)) ≡ Some wait
    → AllWait (acts_of c (call_effect call.xid (resume_outcome config polled c call.arguments next (device_acts log))) ++ log)
all_continued config polled c wait call (Some next) log all for =
    let acts = device_acts log in
    let last = deadline config (Some next.1) acts in
    all_effect c (call_effect call.xid (resume_outcome config polled c call.arguments (Some next) acts)) log (λ d ne. all d)
    (λ d ne. other_act_keeps_wait c d (Again c next.0 last) (wait_acts acts) refl ne)
    (λ none. none_is_not_some _ next.0 none (again_waits c next.0 wait last (wait_acts acts) for))
all_continued config polled c wait call None log all for =
    let before = Waited (Left c) ∷ device_acts log in
    let outcome = own_call config polled c call.arguments before in
    leaving_keeps_all_wait c call.xid outcome log all (executed_call_has_result config polled c call.arguments before)
    (call_acts_suspend_none c call.arguments outcome.adds before (each_act_is_of_call config polled c call.arguments before))

-- This invariant relies on `Fit`, and is proved together with it.
abbrev IsSound : List Act → Type 0
IsSound log = Fit log × AllWait log

steps_keep : (config : Config) → StepsKeep config IsSound
steps_keep config = record {
  happened = λ adds log so. ((fit_keeps config).happened adds log so.0, instrument_keeps_all_wait adds log so.1);
  resumed = λ polled c wait log for so. (
    (fit_keeps config).resumed polled c wait log for so.0,
    ending_keeps_all_wait c
        (λ arguments. resume_outcome config polled c arguments (next_wait wait arguments (device_acts log)) (device_acts log)) log
        so.0 so.1 (λ call. all_continued config polled c wait call (next_wait wait call.arguments (device_acts log)) log so.1 for),
  );
  failed = λ error c log so. ((fit_keeps config).failed error c log so.0, all_failed error c log so.0 so.1);
}

-- ---- an event's own acts

-- A call that is taken is answered or suspended.
all_admitted : (config : Config) (polled c : ℕ) (call : CoreCall) (stop : Option Stop) (log : List Act) → ((d : ℕ) → d ≢ c → HasWait d log)
    → AllWait (acts_of c (call_effect call.xid (admission config polled c call.arguments stop (device_acts log))) ++ log)
all_admitted config polled c call None log all =
    let acts = device_acts log in
    let outcome = own_call config polled c call.arguments acts in
    all_effect c (call_effect call.xid outcome) log all
    (λ d ne. ap (waits d)
    (call_acts_suspend_none c call.arguments outcome.adds acts (each_act_is_of_call config polled c call.arguments acts)))
    (λ none. reply_ends_pending call.xid outcome.result (of c log) (executed_call_has_result config polled c call.arguments acts))
all_admitted config polled c call (Some (Fails error)) log all =
    all_effect c (call_effect call.xid (only (failure call.arguments error))) log all (λ d ne. refl) (λ none. refl)
all_admitted config polled c call (Some (Awaits wait until)) log all =
    let acts = device_acts log in
    let last = deadline config until acts in
    all_effect c (call_effect call.xid (admission config polled c call.arguments (Some (Awaits wait until)) acts)) log all
    (λ d ne. other_act_keeps_wait c d (Entered c (lid_of (link call.arguments)) wait last) (wait_acts acts) refl ne)
    (λ none. none_is_not_some _ wait none (entered_waits c (lid_of (link call.arguments)) wait last (wait_acts acts)).0)

all_request : (config : Config) (polled c : ℕ) (request : Request) (log : List Act) → ((d : ℕ) → d ≢ c → HasWait d log)
    → AllWait (acts_of c (request_effect config polled c request (device_acts log)) ++ log)
all_request config polled c (CoreRequest call) log all =
    all_admitted config polled c call (stop_of c call.arguments (device_acts log)) log all
all_request config polled c request log all =
    all_effect c (request_effect config polled c request (device_acts log)) log all (λ d ne. refl) (λ none. refl)

all_turn : (config : Config) (polled c : ℕ) (log : List Act) → IsSound log → c < 16
    → IsSound (turn_acts config polled c (next_call (of c log)) (next_request (of c log)) log ++ log)
all_turn config polled c log so lt =
    turn_keeps config IsSound (steps_keep config) polled c (next_call (of c log)) (next_request (of c log)) log so
    (λ bytes request next asks. (
      fit_request config polled c bytes request log so.0 lt next asks,
      all_request config polled c request (On c (CallTaken bytes) ∷ log)
          (λ d ne none. ap pending_call (of_other_act c d (CallTaken bytes) log ne) ∙ so.1 d none),
    ))

all_close : (c : ℕ) (log : List Act) → AllWait log → AllWait (map OnDevice (close_acts c (device_acts log)) ++ On c PortClosed ∷ log)
all_close c log all d none =
    let acts = device_acts log in
    let links = closing c (link_acts acts) in
    let calls : wait_acts (device_acts (map OnDevice (close_acts c acts) ++ On c PortClosed ∷ log)) ≡ Left c ∷ wait_acts acts =
    ap wait_acts (device_acts_of_close c log) ∙ wait_acts_links links (Waited (Left c) ∷ acts) in
    elim (cases_eq d c) [
      | inl e ↦ subst (λ (n : ℕ). pending_call (of n (map OnDevice (close_acts c acts) ++ On c PortClosed ∷ log)) ≡ None) (sym e)
          (ap pending_call (of_device_acts c (close_acts c acts) (On c PortClosed ∷ log) ∙ of_own_act c PortClosed log))
      | inr ne ↦ ap pending_call (close_leaves_others c d log ne)
          ∙ all d (sym (ap (waits d) calls ∙ other_act_keeps_wait c d (Left c) (wait_acts acts) refl ne) ∙ none)
    ]

event_keeps_all_wait : (config : Config) (event : PlainEvent) (polled : ℕ) (channel_log : List ChannelAct) (log : List Act)
    → refusal config channel_log event log ≡ None → Fit log → AllWait log → AllWait (own_acts config polled event log ++ log)
event_keeps_all_wait config (Open c role) polled channel_log log free fit all =
    all_effect c (record { own = Opened role ∷ []; adds = [] }) log (λ d ne. all d) (λ d ne. refl) (λ none. refl)
event_keeps_all_wait config (Bytes c piece) polled channel_log log free fit all =
    all_effect c (record { own = Piece piece ∷ []; adds = [] }) log (λ d ne. all d) (λ d ne. refl) (all c)
event_keeps_all_wait config (Turn c) polled channel_log log free fit all =
    (all_turn config polled c log (fit, all) (unrefused_below_16 c log _ free)).1
event_keeps_all_wait config (Refuse c) polled channel_log log free fit all =
    refuse_keeps AllWait c (next_call (of c log)) (refusable (of c log)) log all (λ bytes call next can.
    all_effect c (record { own = Replied (refused_reply call) ∷ CallTaken bytes ∷ []; adds = [] }) log (λ d ne. all d) (λ d ne. refl)
    (λ none. refl))
event_keeps_all_wait config (Took (Conn c) count) polled channel_log log free fit all =
    all_effect c (record { own = BytesTaken count ∷ []; adds = [] }) log (λ d ne. all d) (λ d ne. refl) (all c)
event_keeps_all_wait config (Took (Intr c) count) polled channel_log log free fit all =
    all_shared (Channel (ChannelTaken c count) ∷ []) log all refl
event_keeps_all_wait config (Close (Conn c)) polled channel_log log free fit all =
    subst AllWait (sym (append_assoc (map OnDevice (close_acts c (device_acts log))) (On c PortClosed ∷ []) log)) (all_close c log all)
event_keeps_all_wait config (Close (Intr c)) polled channel_log log free fit all = all_shared (Channel (ChannelClosed c) ∷ []) log all refl
event_keeps_all_wait config (Dialed c ok) polled channel_log log free fit all = all_dialed c ok log fit all
event_keeps_all_wait config (Input channel microvolts) polled channel_log log free fit all = instrument_keeps_all_wait
    (Scanned (InputTo channel microvolts) ∷ []) log all
event_keeps_all_wait config External polled channel_log log free fit all =
    instrument_keeps_all_wait (external_acts (instrument_acts (device_acts log))) log all
event_keeps_all_wait config Tick polled channel_log log free fit all =
    let adds = tick_acts (instrument_acts (device_acts log)) in
    subst AllWait (sym (append_assoc (map OnDevice (map Applied adds)) (OnDevice Ticked ∷ []) log))
    (instrument_keeps_all_wait adds (OnDevice Ticked ∷ log) (all_shared (Ticked ∷ []) log all refl))

-- In each log of a history, a connection without a suspended call has no pending call.
pub unsuspended_has_no_pending : (config : Config) (history : List PlainEvent) (log : List Act) → IsLogOf config history log → (c : ℕ)
    → waits c (wait_acts (device_acts log)) ≡ None → pending_call (of c log) ≡ None
unsuspended_has_no_pending config history log was =
    (induction_over_history config IsSound (fit_none, (λ c none. refl))
    (λ event polled channel_log now is free so. (
      fit_event config event polled channel_log now free so.0,
      event_keeps_all_wait config event polled channel_log now free so.0 so.1,
    ))
    (step_keeps config IsSound (steps_keep config)) history log was).1
