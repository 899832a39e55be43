-- An invariant that holds of the empty log, and that each event's own acts and each step keep,
-- holds of each log of a history.
use Rattle.std.proofs.Common.{◌≡◌, ◌≢◌, ℕ, zero, suc, ◌<◌, Bool, true, false, cond, List, [], ◌∷◌, ◌++◌, nat_lt, Option, Some, None, refl, sym, ap, subst, ◌∙◌, inl, inr, eq-eqb, append_assoc}
use Rattle.std.specs.Prelude.{map, is_some}
use Rattle.std.proofs.lemmas.Bool.{cases_eq}
use Rattle.sv_logs.proofs.Each.{Each, each_join}
use Rattle.sv_vxi.specs.declared.error_code.ErrorCode.{ErrorCode}
use Rattle.sv_vxi.specs.declared.error_code.ErrorCode.TheVariants.{Abort}
use Rattle.sv_vxi.specs.Arguments.{Arguments, CreateLink, link, is_create_link}
use Rattle.sv_vxi.specs.Results.{Outcome}
use Rattle.sv_links.specs.declared.request.Peer.{Peer}
use Rattle.sv_links.specs.declared.waiting.Wait.{Wait}
use Rattle.sv_links.specs.declared.waiting.Wait.TheVariants.{Lock, Input as ForInput, Response, Dial}
use Rattle.sv_links.specs.Links.{LinkAct, Made, owner, closing}
use Rattle.sv_links.specs.Waiting.{WaitAct, Entered, Left, waits, link as named_link}
use Rattle.sv_links.specs.Channels.{ChannelAct, SrqEnabled, ChannelClosed, ChannelTaken}
use Rattle.sv_laws.proofs.Facts.{some_injective}
use Rattle.sv_laws.proofs.LinksAlike.{MakesNone}
use Rattle.sv_laws.proofs.CallsAlike.{foreign_act_keeps_call}
use Rattle.sv_laws.proofs.Closed.{owner_after_close_was_owner, closing_makes_no_link}
use Rattle.sv_layers.specs.Act.{Act as InstrumentAct}
use Rattle.sv_instrument.specs.Stimulus.{external_acts, tick_acts}
use Rattle.sv_history.specs.declared.event.Config.{Config}
use Rattle.sv_history.specs.declared.event.Port.TheVariants.{Conn, Intr}
use Rattle.sv_history.specs.declared.event.Refused.TheVariants.{NoConn, ConnInUse}
use Rattle.sv_history.specs.declared.event.Role.{Role}
use Rattle.sv_history.specs.declared.event.Role.TheVariants.{Core}
use Rattle.sv_history.specs.Event.{PlainEvent, Open, Bytes, Turn, Refuse, Took, Close, Dialed, Input, External, Tick, IsEvent}
use Rattle.sv_history.specs.Act.{Act, ConnAct, DeviceAct, Opened, Piece, CallTaken, Replied, BytesTaken, PortClosed, Linked, Waited, Channel, Applied, Ticked, On, OnDevice, of, device_acts, link_acts, wait_acts, instrument_acts}
use Rattle.sv_history.specs.Connection.{next_call, open_role, pending_call}
use Rattle.sv_history.specs.CoreCall.{CoreCall, lid_of, failure}
use Rattle.sv_history.specs.CoreChannel.{own_call}
use Rattle.sv_history.specs.Effect.{Effect, acts_of, replies, call_effect}
use Rattle.sv_history.specs.Request.{Request, CoreRequest, core_call_in, next_request}
use Rattle.sv_history.proofs.Dialing.{peer_named_by, connect_outcome_for, connect_outcome_by_peer}
use Rattle.sv_history.specs.Admission.{Stop, Fails, Awaits, stop_of, admission}
use Rattle.sv_history.specs.Execution.{request_effect, aborts}
use Rattle.sv_history.specs.CallOutcome.{CallOutcome, only}
use Rattle.sv_history.specs.Resuming.{effect_of, leaving, next_wait, resume_outcome, resume_effect, failure_effect, connect_effect, late}
use Rattle.sv_history.specs.Refusing.{refusable, refused_reply}
use Rattle.sv_history.specs.Settling.{IsNext, SettlesIn}
use Rattle.sv_history.specs.History.{abort_acts, taken_acts, turn_acts, refuse_acts, own_acts, refusal, IsLogOf}
use Rattle.sv_history.proofs.Projections.{of_own_act, of_other_act, of_device_acts, device_acts_append, link_acts_links, wait_acts_links, link_acts_applied, wait_acts_applied}
use Rattle.sv_laws.proofs.EveryLog.Done.{IsActOfCall, each_act_is_of_call, suspended_names_own_link, suspended_create_link}
use Rattle.sv_laws.proofs.EveryLog.Taken.{next_call_means_none_pending, core_call_is_on_core_role, unrefused_below_16}
use Rattle.sv_laws.proofs.EveryLog.Fit.{AllSuit, SuspendedIsOnCore, Fit, IsActBy, IsCore, none_suspended_is_on_core, same_call_stays_on_core, fit_effect, fit_without_suspended, fit_after_act, fit_after_act_without_suspended, fit_after_device_acts}

-- ---- induction over a history

pub settling_keeps : (config : Config) (IsSo : List Act → Type 0) → ((log new : List Act) → IsSo log → IsNext config log new → IsSo new)
    → (n : ℕ) (log new : List Act) → IsSo log → SettlesIn n config log new → IsSo new
settling_keeps config IsSo step zero log new so (none, same) = subst IsSo (sym same) so
settling_keeps config IsSo step (suc n) log new so (middle, next, more) =
    settling_keeps config IsSo step n middle new (step log middle so next) more

pub induction_over_history : (config : Config) (IsSo : List Act → Type 0) → IsSo []
    → ((event : PlainEvent) (polled : ℕ) (channel_log : List ChannelAct) (log : List Act) → IsEvent event
    → refusal config channel_log event log ≡ None → IsSo log → IsSo (own_acts config polled event log ++ log))
    → ((log new : List Act) → IsSo log → IsNext config log new → IsSo new)
    → (history : List PlainEvent) (log : List Act) → IsLogOf config history log → IsSo log
induction_over_history config IsSo empty acts step [] log (given, none) = subst IsSo (sym none) empty
induction_over_history config IsSo empty acts step (event ∷ history) log
    (before, polled, channel_log, is_event, was, hears, free, said, settles) =
    settling_keeps config IsSo step settles.0 (own_acts config polled event before ++ before) log
    (acts event polled channel_log before is_event free (induction_over_history config IsSo empty acts step history before was)) settles.1

-- ---- steps

-- Acts of the instrument keep the invariant, and so do a call that resumes and a call that ends
-- with an error.
pub record StepsKeep (config : Config) (IsSo : List Act → Type 0) : Type 0 where
  pub happened : (adds : List InstrumentAct) (log : List Act) → IsSo log → IsSo (map OnDevice (map Applied adds) ++ log)
  pub resumed : (polled c : ℕ) (wait : Wait) (log : List Act) → waits c (wait_acts (device_acts log)) ≡ Some wait → IsSo log
      → IsSo (acts_of c (resume_effect config polled c wait (core_call_in (pending_call (of c log))) (device_acts log)) ++ log)
  pub failed : (error : ErrorCode) (c : ℕ) (log : List Act) → IsSo log
      → IsSo (acts_of c (failure_effect error c (core_call_in (pending_call (of c log)))) ++ log)

-- It is enough that acts of the instrument keep the invariant, and every effect of a suspended
-- call.
pub steps_keep_by_effects : (config : Config) (IsSo : List Act → Type 0)
    → ((adds : List InstrumentAct) (log : List Act) → IsSo log → IsSo (map OnDevice (map Applied adds) ++ log))
    → ((c : ℕ) (does : Arguments → CallOutcome) (log : List Act) → IsSo log
    → IsSo (acts_of c (effect_of c does (core_call_in (pending_call (of c log)))) ++ log)) → StepsKeep config IsSo
steps_keep_by_effects config IsSo happened ended = record {
  happened = happened;
  resumed = λ polled c wait log for so. ended c (λ arguments. resume_outcome config polled c arguments
      (next_wait wait arguments (device_acts log)) (device_acts log)) log so;
  failed = λ error c log so. ended c (λ arguments. leaving c (only (failure arguments error))) log so;
}

pub step_keeps : (config : Config) (IsSo : List Act → Type 0) → StepsKeep config IsSo → (log new : List Act) → IsSo log
    → IsNext config log new → IsSo new
step_keeps config IsSo keep log new so (inl (adds, such, is)) = subst IsSo (sym is) (keep.happened adds log so)
step_keeps config IsSo keep log new so (inr (none, inl (c, wait, polled, oldest, for, said, is))) =
    subst IsSo (sym is) (keep.resumed polled c wait log for so)
step_keeps config IsSo keep log new so (inr (none, inr (still, inl (adds, such, is)))) = subst IsSo (sym is) (keep.happened adds log so)
step_keeps config IsSo keep log new so (inr (none, inr (still, inr (idle, (c, wait, oldest, for, is))))) =
    subst IsSo (sym is) (keep.failed (late wait) c log so)

-- The end of a suspended call that a device_abort aborts keeps the invariant.
pub abort_keeps : (config : Config) (IsSo : List Act → Type 0) → StepsKeep config IsSo → (found : Option ℕ) (log : List Act) → IsSo log
    → IsSo (abort_acts found log ++ log)
abort_keeps config IsSo keep (Some d) log so = keep.failed Abort d log so
abort_keeps config IsSo keep None log so = so

-- The acts of a Turn in their order: the call is taken, its effect comes, and then the end of a
-- call that it aborts.
pub turn_acts_in_order : (c : ℕ) (bytes : List ℕ) (effect : Effect) (aborts : Option ℕ) (log : List Act)
    → let taken = acts_of c effect ++ On c (CallTaken bytes) ∷ log in
    taken_acts c bytes effect aborts log ++ log ≡ abort_acts aborts taken ++ taken
turn_acts_in_order c bytes effect aborts log =
    let acts = acts_of c effect ++ On c (CallTaken bytes) ∷ [] in
    let same : acts ++ log ≡ acts_of c effect ++ On c (CallTaken bytes) ∷ log =
    append_assoc (acts_of c effect) (On c (CallTaken bytes) ∷ []) log in
    append_assoc (abort_acts aborts (acts ++ log)) acts log ∙ ap (λ (l : List Act). abort_acts aborts l ++ l) same

-- A Turn keeps the invariant if taking the call and its effect do.
pub turn_keeps : (config : Config) (IsSo : List Act → Type 0) → StepsKeep config IsSo → (polled c : ℕ) (found : Option (List ℕ))
    (request : Option Request) (log : List Act) → IsSo log
    → ((bytes : List ℕ) (asked : Request) → found ≡ Some bytes → request ≡ Some asked
    → IsSo (acts_of c (request_effect config polled c asked (device_acts log)) ++ On c (CallTaken bytes) ∷ log))
    → IsSo (turn_acts config polled c found request log ++ log)
turn_keeps config IsSo keep polled c (Some bytes) (Some request) log so does =
    let effect = request_effect config polled c request (device_acts log) in
    subst IsSo (sym (turn_acts_in_order c bytes effect (aborts request (device_acts log)) log))
    (abort_keeps config IsSo keep (aborts request (device_acts log)) _ (does bytes request refl refl))
turn_keeps config IsSo keep polled c _ _ log so does = so

-- A Refuse keeps the invariant if taking the call and the reply with error 9 do.
pub refuse_keeps : (IsSo : List Act → Type 0) (c : ℕ) (found : Option (List ℕ)) (call : Option CoreCall) (log : List Act) → IsSo log
    → ((bytes : List ℕ) (asked : CoreCall) → found ≡ Some bytes → call ≡ Some asked
    → IsSo (On c (Replied (refused_reply asked)) ∷ On c (CallTaken bytes) ∷ log)) → IsSo (refuse_acts c found call ++ log)
refuse_keeps IsSo c (Some bytes) (Some call) log so does = does bytes call refl refl
refuse_keeps IsSo c _ _ log so does = so

-- ---- a call that is executed, or leaves the queue

pub left_is_not_suspended : (c : ℕ) (acts : List WaitAct) → waits c (Left c ∷ acts) ≡ None
left_is_not_suspended c acts = rw (eq-eqb c c refl) refl

done_by : (c : ℕ) (May : Type 0) (arguments : Arguments) (adds acts : List DeviceAct) → May → Each (IsActOfCall c arguments) adds acts
    → Each (IsActBy c May) adds acts
done_by c May arguments [] acts may h = tt
done_by c May arguments (act ∷ adds) acts may h = (one act (adds ++ acts) h.0, done_by c May arguments adds acts may h.1)
  where
    one : (act : DeviceAct) (acts : List DeviceAct) → IsActOfCall c arguments acts act → IsActBy c May acts act
    one (Linked (Made lid conn)) acts h = (h.0, h.1, may)
    one (Waited act) acts h = absurd h
    one (Channel (SrqEnabled lid conn handle)) acts h = h.1
    one _ acts h = tt

pub call_acts_suspend_none : (c : ℕ) (arguments : Arguments) (adds acts : List DeviceAct) → Each (IsActOfCall c arguments) adds acts
    → wait_acts (adds ++ acts) ≡ wait_acts acts
call_acts_suspend_none c arguments [] acts h = refl
call_acts_suspend_none c arguments (Waited act ∷ adds) acts h = absurd h.0
call_acts_suspend_none c arguments (_ ∷ adds) acts h = call_acts_suspend_none c arguments adds acts h.1

pub reply_keeps_role : (xid : ℕ) (result : Option Outcome) (own : List ConnAct) → open_role (replies xid result ++ own) ≡ open_role own
reply_keeps_role xid (Some result) own = refl
reply_keeps_role xid None own = refl

-- Ending a suspended call with an error keeps `Fit`.
pub fit_failed : (error : ErrorCode) (c : ℕ) (call : Option CoreCall) (log : List Act) → Fit log
    → Fit (acts_of c (failure_effect error c call) ++ log)
fit_failed error c (Some call) log fit = fit_without_suspended c (failure_effect error c (Some call)) log fit (refl, tt) refl
    (left_is_not_suspended c (wait_acts (device_acts log)))
fit_failed error c None log fit = fit_without_suspended c (failure_effect error c None) log fit (refl, tt) refl
    (left_is_not_suspended c (wait_acts (device_acts log)))

fit_dialed : (c : ℕ) (ok : Bool) (call : CoreCall) (peer : Option Peer) (log : List Act) → Fit log
    → Fit (acts_of c (call_effect call.xid (leaving c (connect_outcome_for c ok call.arguments peer))) ++ log)
fit_dialed c true call (Some peer) log fit =
    fit_without_suspended c (call_effect call.xid (leaving c (connect_outcome_for c true call.arguments (Some peer)))) log fit
    (tt, (refl, tt)) refl
    (left_is_not_suspended c (wait_acts (device_acts log)))
fit_dialed c false call (Some peer) log fit =
    fit_without_suspended c (call_effect call.xid (leaving c (connect_outcome_for c false call.arguments (Some peer)))) log fit (refl, tt)
    refl
    (left_is_not_suspended c (wait_acts (device_acts log)))
fit_dialed c ok call None log fit =
    fit_without_suspended c (call_effect call.xid (leaving c (connect_outcome_for c ok call.arguments None))) log fit (refl, tt) refl
    (left_is_not_suspended c (wait_acts (device_acts log)))

fit_connected : (c : ℕ) (ok : Bool) (call : Option CoreCall) (log : List Act) → Fit log → Fit (acts_of c (connect_effect c ok call) ++ log)
fit_connected c ok (Some call) log fit = rw (connect_outcome_by_peer c ok call.arguments)
    (fit_dialed c ok call (peer_named_by call.arguments) log fit)
fit_connected c ok None log fit = fit_without_suspended c (connect_effect c ok None) log fit (refl, tt) refl
    (left_is_not_suspended c (wait_acts (device_acts log)))

-- ---- a call that resumes

-- A create_link that resumes isn't suspended again.
pub create_link_resumes_once : (wait : Wait) (arguments : Arguments) (acts : List DeviceAct) (next : Wait × ℕ)
    → is_create_link arguments ≡ true → next_wait wait arguments acts ≡ Some next → ⊥
create_link_resumes_once Lock (CreateLink client_id lock_device lock_timeout device) acts next is e = cc
create_link_resumes_once Lock _ acts next is e = cc
create_link_resumes_once ForInput arguments acts next is e = cc
create_link_resumes_once Response arguments acts next is e = cc
create_link_resumes_once Dial arguments acts next is e = cc

fit_continued : (config : Config) (polled c : ℕ) (wait : Wait) (call : CoreCall) (next : Option (Wait × ℕ)) (log : List Act) → Fit log
    → waits c (wait_acts (device_acts log)) ≡ Some wait → core_call_in (pending_call (of c log)) ≡ Some call
    → next_wait wait call.arguments (device_acts log) ≡ next
    → Fit (acts_of c (call_effect call.xid (resume_outcome config polled c call.arguments next (device_acts log))) ++ log)
fit_continued config polled c wait call (Some next) log fit for known e =
    let acts = device_acts log in
    fit_effect c (call_effect call.xid (resume_outcome config polled c call.arguments (Some next) acts)) log fit (refl, tt) refl
    (λ other is. (
      (fit.held c wait for).0,
      (
        call,
        known,
        (λ makes. absurd (create_link_resumes_once wait call.arguments acts next makes e)),
      ),
    ))
fit_continued config polled c wait call None log fit for known e =
    let before = Waited (Left c) ∷ device_acts log in
    let what = own_call config polled c call.arguments before in
    let done = each_act_is_of_call config polled c call.arguments before in
    fit_without_suspended c (call_effect call.xid (leaving c what)) log fit
    (each_join (IsActBy c (IsCore c log)) what.adds (Waited (Left c) ∷ []) (device_acts log)
    (done_by c (IsCore c log) call.arguments what.adds before (fit.held c wait for).0 done) (refl, tt))
    (reply_keeps_role call.xid what.result (of c log))
    (ap (λ (l : List DeviceAct). waits c (wait_acts l)) (append_assoc what.adds (Waited (Left c) ∷ []) (device_acts log))
    ∙ ap (waits c) (call_acts_suspend_none c call.arguments what.adds before done) ∙ left_is_not_suspended c (wait_acts (device_acts log)))

fit_resumed : (config : Config) (polled c : ℕ) (wait : Wait) (log : List Act) → Fit log → waits c (wait_acts (device_acts log)) ≡ Some wait
    → Fit (acts_of c (resume_effect config polled c wait (core_call_in (pending_call (of c log))) (device_acts log)) ++ log)
fit_resumed config polled c wait log fit for =
    let held = fit.held c wait for in
    subst (λ (call : Option CoreCall). Fit (acts_of c (resume_effect config polled c wait call (device_acts log)) ++ log)) (sym held.1.1)
    (fit_continued config polled c wait held.1.0 (next_wait wait held.1.0.arguments (device_acts log)) log fit for held.1.1 refl)

-- ---- acts of the instrument

suits_happened : (adds : List InstrumentAct) (acts : List DeviceAct) → AllSuit acts → AllSuit (map Applied adds ++ acts)
suits_happened [] acts all = all
suits_happened (act ∷ adds) acts all = (tt, suits_happened adds acts all)

fit_happened : (adds : List InstrumentAct) (log : List Act) → Fit log → Fit (map OnDevice (map Applied adds) ++ log)
fit_happened adds log fit = fit_after_device_acts (map Applied adds) log fit (suits_happened adds (device_acts log) fit.suits)
    (link_acts_applied adds (device_acts log)) (wait_acts_applied adds (device_acts log))

-- ---- a step

pub fit_keeps : (config : Config) → StepsKeep config Fit
fit_keeps config = record {
  happened = fit_happened;
  resumed = λ polled c wait log for fit. fit_resumed config polled c wait log fit for;
  failed = λ error c log fit. fit_failed error c (core_call_in (pending_call (of c log))) log fit;
}

pub fit_step : (config : Config) (log new : List Act) → Fit log → IsNext config log new → Fit new
fit_step config = step_keeps config Fit (fit_keeps config)

-- ---- an event's own acts

-- A connection without a pending call has no suspended call.
waits_free : (c : ℕ) (log : List Act) (found : Option Wait) → Fit log → pending_call (of c log) ≡ None
    → waits c (wait_acts (device_acts log)) ≡ found → waits c (wait_acts (device_acts log)) ≡ None
waits_free c log None fit free is = is
waits_free c log (Some wait) fit free is =
    let known = (fit.held c wait is).1 in
    absurd (let z : None ≡ Some known.0 = sym (ap core_call_in free) ∙ known.1 in cc)

pub next_call_means_none_suspended : (c : ℕ) (log : List Act) (bytes : List ℕ) → Fit log → next_call (of c log) ≡ Some bytes
    → waits c (wait_acts (device_acts log)) ≡ None
next_call_means_none_suspended c log bytes fit next = waits_free c log _ fit (next_call_means_none_pending (of c log) bytes next) refl

fit_taken : (c : ℕ) (bytes : List ℕ) (log : List Act) → Fit log → waits c (wait_acts (device_acts log)) ≡ None
    → Fit (On c (CallTaken bytes) ∷ log)
fit_taken c bytes log fit none = fit_after_act_without_suspended c (CallTaken bytes) log fit refl none

-- A call that was just suspended has this wait, and names this link.
pub entered_waits : (c : ℕ) (named : Option ℕ) (wait : Wait) (last : Option ℕ) (acts : List WaitAct)
    → (waits c (Entered c named wait last ∷ acts) ≡ Some wait) × (named_link c (Entered c named wait last ∷ acts) ≡ named)
entered_waits c named wait last acts = rw (eq-eqb c c refl) (refl, refl)

fit_admitted : (config : Config) (polled c : ℕ) (bytes : List ℕ) (call : CoreCall) (stop : Option Stop) (log : List Act)
    → let taken = On c (CallTaken bytes) ∷ log in
    Fit taken → c < 16 → waits c (wait_acts (device_acts log)) ≡ None → IsCore c taken
    → core_call_in (pending_call (of c taken)) ≡ Some call → stop_of c call.arguments (device_acts log) ≡ stop
    → Fit (acts_of c (call_effect call.xid (admission config polled c call.arguments stop (device_acts log))) ++ taken)
fit_admitted config polled c bytes call None log fit lt none core known e =
    let taken = On c (CallTaken bytes) ∷ log in
    let what = own_call config polled c call.arguments (device_acts log) in
    let done = each_act_is_of_call config polled c call.arguments (device_acts log) in
    fit_without_suspended c (call_effect call.xid what) taken fit
    (done_by c (IsCore c taken) call.arguments what.adds (device_acts log) core done)
    (reply_keeps_role call.xid what.result (of c taken))
    (ap (waits c) (call_acts_suspend_none c call.arguments what.adds (device_acts log) done) ∙ none)
fit_admitted config polled c bytes call (Some (Fails error)) log fit lt none core known e =
    let taken = On c (CallTaken bytes) ∷ log in
    fit_without_suspended c (call_effect call.xid (admission config polled c call.arguments (Some (Fails error)) (device_acts log))) taken
    fit tt refl
    none
fit_admitted config polled c bytes call (Some (Awaits wait until)) log fit lt none core known e =
    let taken = On c (CallTaken bytes) ∷ log in
    fit_effect c (call_effect call.xid (admission config polled c call.arguments (Some (Awaits wait until)) (device_acts log))) taken fit
    ((refl, lt, (λ n is. suspended_names_own_link c call.arguments (device_acts log) wait until n e is)), tt) refl
    (λ other is.
    let now = entered_waits c (lid_of (link call.arguments)) wait _ (wait_acts (device_acts log)) in
    let same : wait ≡ other = some_injective wait other (sym now.0 ∙ is) in (
      core,
      (
        call,
        known,
        (λ makes.
            let waits = suspended_create_link c call.arguments (device_acts log) wait until e makes in
            (sym same ∙ waits.0, now.1 ∙ waits.1)),
      ),
    ))

pub fit_request : (config : Config) (polled c : ℕ) (bytes : List ℕ) (request : Request) (log : List Act) → Fit log → c < 16
    → next_call (of c log) ≡ Some bytes → next_request (of c log) ≡ Some request
    → Fit (acts_of c (request_effect config polled c request (device_acts log)) ++ On c (CallTaken bytes) ∷ log)
fit_request config polled c bytes request log fit lt next asks =
    let none = next_call_means_none_suspended c log bytes fit next in
    by request (fit_taken c bytes log fit none) none asks
  where
    by : (request : Request) → Fit (On c (CallTaken bytes) ∷ log) → waits c (wait_acts (device_acts log)) ≡ None
        → next_request (of c log) ≡ Some request
        → Fit (acts_of c (request_effect config polled c request (device_acts log)) ++ On c (CallTaken bytes) ∷ log)
    by (CoreRequest call) taken none asks =
        let known = core_call_is_on_core_role (of c log) bytes call next asks in
        let own = of_own_act c (CallTaken bytes) log in
        fit_admitted config polled c bytes call (stop_of c call.arguments (device_acts log)) log taken lt none
        (ap open_role own ∙ known.0) (ap (λ (l : List ConnAct). core_call_in (pending_call l)) own ∙ known.1) refl
    by request taken none asks =
        fit_without_suspended c (request_effect config polled c request (device_acts log)) (On c (CallTaken bytes) ∷ log) taken tt refl none

fit_turn : (config : Config) (polled c : ℕ) (log : List Act) → Fit log → c < 16
    → Fit (turn_acts config polled c (next_call (of c log)) (next_request (of c log)) log ++ log)
fit_turn config polled c log fit lt = turn_keeps config Fit (fit_keeps config) polled c (next_call (of c log)) (next_request (of c log)) log
    fit (λ bytes request next asks. fit_request config polled c bytes request log fit lt next asks)

fit_refuse : (c : ℕ) (log : List Act) → Fit log → Fit (refuse_acts c (next_call (of c log)) (refusable (of c log)) ++ log)
fit_refuse c log fit = refuse_keeps Fit c (next_call (of c log)) (refusable (of c log)) log fit (λ bytes call next can.
    let none = next_call_means_none_suspended c log bytes fit next in
    fit_after_act_without_suspended c (Replied _) (On c (CallTaken bytes) ∷ log) (fit_taken c bytes log fit none) refl none)

-- If an Open isn't refused, the connection isn't open yet.
pub opened_was_shut : (far : Bool) (role : Option Role)
    → cond far (Some NoConn) (cond (is_some role) (Some ConnInUse) None) ≡ None → role ≡ None
opened_was_shut true role e = absurd cc
opened_was_shut false (Some role) e = absurd cc
opened_was_shut false None e = refl

fit_open : (c : ℕ) (role : Role) (log : List Act) → Fit log → open_role (of c log) ≡ None → Fit (On c (Opened role) ∷ log)
fit_open c role log fit shut = record {
  suits = fit.suits;
  core = λ n d is. elim (cases_eq d c) [
    | inl e ↦
        let was : open_role (of c log) ≡ Some Core = fit.core n c (is ∙ ap (λ (m : ℕ). Some m) e) in
        absurd (let z : None ≡ Some Core = sym shut ∙ was in cc)
    | inr ne ↦ rw (of_other_act c d (Opened role) log ne) (fit.core n d is)
  ];
  held = λ d. elim (cases_eq d c) [
    | inl e ↦ λ wait is.
        let was = (fit.held d wait is).0 in
        absurd (let z : None ≡ Some Core = sym (ap (λ (m : ℕ). open_role (of m log)) e ∙ shut) ∙ was in cc)
    | inr ne ↦ rw (of_other_act c d (Opened role) log ne) (fit.held d)
  ];
}

-- Acts on links that make no link suit all acts before them.
suits_links : (links : List LinkAct) (acts : List DeviceAct) (before : List LinkAct) → Each (λ before act. MakesNone act) links before
    → AllSuit acts → AllSuit (map Linked links ++ acts)
suits_links [] acts before h all = all
suits_links (Made lid conn ∷ links) acts before h all = absurd h.0
suits_links (_ ∷ links) acts before h all = (tt, suits_links links acts before h.1 all)

abbrev pub close_acts : ℕ → List DeviceAct → List DeviceAct
close_acts c acts = Channel (ChannelClosed c) ∷ (map Linked (closing c (link_acts acts)) ++ Waited (Left c) ∷ [])

pub device_acts_of_close : (c : ℕ) (log : List Act) → device_acts (map OnDevice (close_acts c (device_acts log)) ++ On c PortClosed ∷ log)
    ≡ Channel (ChannelClosed c) ∷ (map Linked (closing c (link_acts (device_acts log))) ++ Waited (Left c) ∷ device_acts log)
device_acts_of_close c log = device_acts_append (close_acts c (device_acts log)) (On c PortClosed ∷ log)
    ∙ ap (λ (l : List DeviceAct). Channel (ChannelClosed c) ∷ l)
    (append_assoc (map Linked (closing c (link_acts (device_acts log)))) (Waited (Left c) ∷ []) (device_acts log))

pub close_leaves_others : (c d : ℕ) (log : List Act) → d ≢ c
    → of d (map OnDevice (close_acts c (device_acts log)) ++ On c PortClosed ∷ log) ≡ of d log
close_leaves_others c d log ne = of_device_acts d (close_acts c (device_acts log)) (On c PortClosed ∷ log)
    ∙ of_other_act c d PortClosed log ne

fit_close : (c : ℕ) (log : List Act) → Fit log → Fit (map OnDevice (close_acts c (device_acts log)) ++ On c PortClosed ∷ log)
fit_close c log fit =
    let acts = device_acts log in
    let new = map OnDevice (close_acts c acts) ++ On c PortClosed ∷ log in
    let links = map Linked (closing c (link_acts acts)) in
    let calls : wait_acts (device_acts new) ≡ Left c ∷ wait_acts acts =
    ap wait_acts (device_acts_of_close c log) ∙ wait_acts_links (closing c (link_acts acts)) (Waited (Left c) ∷ acts) in
    let left : link_acts (device_acts new) ≡ closing c (link_acts acts) ++ link_acts acts =
    ap link_acts (device_acts_of_close c log) ∙ link_acts_links (closing c (link_acts acts)) (Waited (Left c) ∷ acts) in
    record {
      suits = subst AllSuit (sym (device_acts_of_close c log)) (
        tt,
        suits_links (closing c (link_acts acts)) (Waited (Left c) ∷ acts)
            (link_acts acts) (closing_makes_no_link c (link_acts acts)) (tt, fit.suits),
      );
      core = λ n d is.
          let was = owner_after_close_was_owner c d n (link_acts acts) (subst (λ (l : List LinkAct). owner n l ≡ Some d) left is) in
          ap open_role (close_leaves_others c d log was.0) ∙ fit.core n d was.1;
      held = λ d. subst (λ (l : List WaitAct). SuspendedIsOnCore d (of d new) l) (sym calls) (elim (cases_eq d c) [
        | inl e ↦ subst (λ (n : ℕ). SuspendedIsOnCore n (of n new) (Left c ∷ wait_acts acts)) (sym e)
            (none_suspended_is_on_core c (of c new) (Left c ∷ wait_acts acts) (left_is_not_suspended c (wait_acts acts)))
        | inr ne ↦ same_call_stays_on_core d (of d log) (of d new) (wait_acts acts) (Left c ∷ wait_acts acts)
            (close_leaves_others c d log ne)
            (foreign_act_keeps_call d (Left c) (wait_acts acts) (wait_acts acts) (λ e. ne (sym e))
            (record { wait = refl; until = refl; named = refl })) (fit.held d)
      ]);
    }

pub fit_event : (config : Config) (event : PlainEvent) (polled : ℕ) (channel_log : List ChannelAct) (log : List Act)
    → refusal config channel_log event log ≡ None → Fit log → Fit (own_acts config polled event log ++ log)
fit_event config (Open c role) polled channel_log log free fit =
    fit_open c role log fit (opened_was_shut (nat_lt 15 c) (open_role (of c log)) free)
fit_event config (Bytes c piece) polled channel_log log free fit = fit_after_act c (Piece piece) log fit refl (fit.held c)
fit_event config (Turn c) polled channel_log log free fit =
    fit_turn config polled c log fit (unrefused_below_16 c log _ free)
fit_event config (Refuse c) polled channel_log log free fit = fit_refuse c log fit
fit_event config (Took (Conn c) count) polled channel_log log free fit = fit_after_act c (BytesTaken count) log fit refl (fit.held c)
fit_event config (Took (Intr c) count) polled channel_log log free fit =
    fit_after_device_acts (Channel (ChannelTaken c count) ∷ []) log fit (tt, fit.suits) refl refl
fit_event config (Close (Conn c)) polled channel_log log free fit =
    subst Fit (sym (append_assoc (map OnDevice (close_acts c (device_acts log))) (On c PortClosed ∷ []) log)) (fit_close c log fit)
fit_event config (Close (Intr c)) polled channel_log log free fit =
    fit_after_device_acts (Channel (ChannelClosed c) ∷ []) log fit (tt, fit.suits) refl refl
fit_event config (Dialed c ok) polled channel_log log free fit = fit_connected c ok (core_call_in (pending_call (of c log))) log fit
fit_event config (Input channel microvolts) polled channel_log log free fit = fit_happened (_ ∷ []) log fit
fit_event config External polled channel_log log free fit = fit_happened (external_acts (instrument_acts (device_acts log))) log fit
fit_event config Tick polled channel_log log free fit =
    subst Fit (sym (append_assoc (map OnDevice (map Applied (tick_acts (instrument_acts (device_acts log))))) (OnDevice Ticked ∷ []) log))
    (fit_happened (tick_acts (instrument_acts (device_acts log))) (OnDevice Ticked ∷ log)
    (fit_after_device_acts (Ticked ∷ []) log fit (tt, fit.suits) refl refl))

pub fit_none : Fit []
fit_none = record {
  suits = tt;
  core = λ n c is. absurd (let z : None ≡ Some c = is in cc);
  held = λ c wait is. absurd (let z : None ≡ Some wait = is in cc);
}

-- Each log of a history is `Fit`.
pub fit_log : (config : Config) (history : List PlainEvent) (log : List Act) → IsLogOf config history log → Fit log
fit_log config =
    induction_over_history config Fit fit_none (λ event polled channel_log log is free. fit_event config event polled channel_log log free)
    (fit_step config)
