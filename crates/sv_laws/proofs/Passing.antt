-- A call stops waiting for the lock only if the lock is free and the call came first, its
-- connection closes, its lock timeout has passed, or a device_abort names its link.
use Rattle.std.proofs.Common.{◌≡◌, ℕ, ◌+◌, ◌<◌, ◌≤◌, nat_lt, Bool, true, false, cond, List, [], ◌∷◌, ◌++◌, Option, Some, None, refl, sym, ap, subst, ◌∙◌, inl, inr, ◌⊎◌, append_assoc}
use Rattle.std.specs.Prelude.{map, not, is_some, ◌&&◌, ℤ, pos, negsuc}
use Rattle.std.proofs.lemmas.Bool.{eqb-true}
use Rattle.sv_rpc.specs.Call.{call_at}
use Rattle.sv_vxi.specs.declared.error_code.ErrorCode.{ErrorCode}
use Rattle.sv_vxi.specs.declared.error_code.ErrorCode.TheVariants.{Abort, Locked as DeviceLocked}
use Rattle.sv_vxi.specs.Arguments.{Arguments}
use Rattle.sv_links.specs.declared.request.Peer.{Peer}
use Rattle.sv_links.specs.declared.waiting.Wait.{Wait}
use Rattle.sv_links.specs.declared.waiting.Wait.TheVariants.{Lock}
use Rattle.sv_links.specs.Links.{closing, holder, is_this}
use Rattle.sv_links.specs.Waiting.{WaitAct, Entered, Again, Left, waits, deadline as until_of, link as named_link}
use Rattle.sv_links.specs.Channels.{ChannelClosed, ChannelTaken}
use Rattle.sv_links.proofs.Locks.{holder_is_this_link}
use Rattle.sv_scan.specs.declared.acts.ScanAct.TheVariants.{Input as InputTo}
use Rattle.sv_layers.specs.Act.{Scanned}
use Rattle.sv_instrument.specs.Stimulus.{external_acts, tick_acts}
use Rattle.sv_history.specs.declared.event.Config.{Config}
use Rattle.sv_history.specs.declared.event.Port.TheVariants.{Conn, Intr}
use Rattle.sv_history.specs.declared.event.Role.{Role}
use Rattle.sv_history.specs.declared.event.Role.TheVariants.{Abort as AbortChannel}
use Rattle.sv_history.specs.Event.{PlainEvent, Open, Bytes, Turn, Refuse, Took, Close, Dialed, Input, External, Tick}
use Rattle.sv_history.specs.Act.{Act, ConnAct, DeviceAct, Opened, Piece, CallTaken, Replied, BytesTaken, PortClosed, Linked, Waited, Channel, Applied, Ticked, On, OnDevice, of, device_acts, link_acts, wait_acts, instrument_acts, ticks}
use Rattle.sv_history.specs.Connection.{is_open, next_call, open_role, pending_call}
use Rattle.sv_history.specs.CallOutcome.{only}
use Rattle.sv_history.specs.CoreCall.{CoreCall, failure}
use Rattle.sv_history.specs.CoreChannel.{own_call}
use Rattle.sv_history.specs.Effect.{acts_of, result_reply, call_effect}
use Rattle.sv_history.specs.Request.{Request, CoreRequest, AbortRequest, request_of, core_call_in, request_for, next_request}
use Rattle.sv_history.specs.Interrupts.{is_dial, connect_outcome}
use Rattle.sv_history.specs.Admission.{Stop, Fails, Awaits, stop_of, admission}
use Rattle.sv_history.specs.AbortChannel.{owner_of, if_waiting, abort_result}
use Rattle.sv_history.specs.Execution.{request_effect, aborts}
use Rattle.sv_history.specs.Refusing.{refusable, refused_reply}
use Rattle.sv_history.specs.Resuming.{effect_of, leaving, next_wait, resume_outcome, resume_effect, failure_effect, late}
use Rattle.sv_history.specs.PolledStatus.{IsPolled}
use Rattle.sv_history.specs.Settling.{IsNext}
use Rattle.sv_history.specs.History.{abort_acts, turn_acts, own_acts, refusal, IsLogOf}
use Rattle.sv_history.proofs.Dialing.{peer_named_by, connect_outcome_for, connect_outcome_by_peer}
use Rattle.sv_history.proofs.Projections.{of_own_act}
use Rattle.sv_laws.specs.InTime.{age, lock_time}
use Rattle.sv_laws.specs.LockFair.{WaitsForLock, IsFirst, IsAborted, GoesOn, FailsNext, OldestPasses, changes_wait}
use Rattle.sv_laws.proofs.Leaving.{Ends, AllEnd, all_end_if_none_leaves, all_end_after_leaving, all_end_after_effect, all_end_after_outcome, all_end_after_close, executed_acts_leave_none, instrument_acts_leave_none, link_acts_leave_none, all_end_in_suffix}
use Rattle.sv_laws.proofs.Facts.{some_injective, none_is_not_some}
use Rattle.sv_laws.proofs.Gone.{dialed_means_dialing}
use Rattle.sv_laws.proofs.Place.{EventsKeep, EachStepKeeps, each_place}
use Rattle.sv_laws.proofs.EveryLog.Done.{each_act_is_of_call}
use Rattle.sv_laws.proofs.EveryLog.Taken.{unrefused_below_16, request_is_for_role}
use Rattle.sv_laws.proofs.EveryLog.Fit.{Fit}
use Rattle.sv_laws.proofs.EveryLog.EachEvent.{step_keeps, turn_acts_in_order, refuse_keeps, close_acts, fit_request}
use Rattle.sv_laws.proofs.EveryLog.Keeps.{Keeps}
use Rattle.sv_laws.proofs.InTime.{AllTimely, timely_event, timely_steps, timely_none_yet, lock_old_enough}
use Rattle.sv_laws.proofs.InLine.{earliest_is_first}
use Rattle.sv_laws.proofs.Placed.{IsPlaced, AllPlaced, suffix_is_placed, placed_log}
use Rattle.sv_laws.proofs.Sound.{Sound, lock_free_for_resumed}
use Rattle.sv_laws.proofs.SoundEvents.{sound_event, sound_step, sound_none, keeps_at_each_act}

-- ---- a call leaves the queue

-- The call fails with this error because its lock timeout has passed, or because a device_abort
-- names its link.
abbrev IsCause : ℕ → Arguments → ErrorCode → List Act → Type 0
IsCause c arguments error older = ((error ≡ DeviceLocked) × (lock_time arguments ≤ age c older)) ⊎ ((error ≡ Abort) × IsAborted c older)

-- If the call of this connection waits for the lock, it has such a cause to fail with this error.
abbrev HasCause : ℕ → ErrorCode → List Act → Type 0
HasCause c error older = WaitsForLock (device_acts older) c → (call : CoreCall) → core_call_in (pending_call (of c older)) ≡ Some call
    → IsCause c call.arguments error older

-- Each call of the log that stopped waiting for the lock ended in one of the three ways (`Ends`).
abbrev IsEnded : Config → List Act → Type 0
IsEnded config log = AllEnd config [] log

-- ---- a suspended call ends or is suspended again

-- A suspended call may fail with an error if it has cause to.
ended_failed : (config : Config) (error : ErrorCode) (c : ℕ) (log : List Act) → HasCause c error log → Fit log → IsEnded config log
    → IsEnded config (acts_of c (failure_effect error c (core_call_in (pending_call (of c log)))) ++ log)
ended_failed config error c log cause fit so = by (core_call_in (pending_call (of c log))) refl
  where
    by : (call : Option CoreCall) → core_call_in (pending_call (of c log)) ≡ call
        → IsEnded config (acts_of c (failure_effect error c call) ++ log)
    by (Some call) e = all_end_after_outcome config c call.xid (only (failure call.arguments error)) log tt
        (λ w. inr (inr ([], call, error, refl, e, cause w call e))) so
    by None e = all_end_after_leaving config c [] log tt
        (λ w. let known = (fit.held c Lock w).1 in none_is_not_some (core_call_in (pending_call (of c log))) known.0 e known.1) so

ended_continued : (config : Config) (polled c : ℕ) (call : CoreCall) (next : Option (Wait × ℕ)) (log : List Act)
    → IsPolled polled (device_acts log) → core_call_in (pending_call (of c log)) ≡ Some call
    → (WaitsForLock (device_acts log) c → holder (link_acts (device_acts log)) ≡ None) → IsEnded config log
    → IsEnded config (acts_of c (call_effect call.xid (resume_outcome config polled c call.arguments next (device_acts log))) ++ log)
ended_continued config polled c call (Some next) log said known free so =
    all_end_after_effect config c (call_effect call.xid (resume_outcome config polled c call.arguments (Some next) (device_acts log))) log
    tt so
ended_continued config polled c call None log said known free so =
    let before = Waited (Left c) ∷ device_acts log in
    let outcome = own_call config polled c call.arguments before in
    all_end_after_outcome config c call.xid outcome log
    (executed_acts_leave_none c call.arguments outcome.adds before (each_act_is_of_call config polled c call.arguments before))
    (λ w. inl (free w, ([], call, polled, said, known, refl))) so

-- ---- together with the invariants of suspended calls

record Passing (config : Config) (log : List Act) : Type 0 where
  sound : Sound log
  timely : AllTimely config log
  ended : IsEnded config log

-- A call that times out while it waits for the lock was taken at least its lock timeout ago.
timeout_is_cause : (config : Config) (c : ℕ) (wait : Wait) (last : ℕ) (log : List Act) → AllTimely config log
    → waits c (wait_acts (device_acts log)) ≡ Some wait → until_of c (wait_acts (device_acts log)) ≡ Some last
    → last ≤ config.clock + ticks (device_acts log) → HasCause c (late wait) log
timeout_is_cause config c wait last log timely for until ends w call known = inl (
  ap late (some_injective wait Lock (sym for ∙ w)),
  lock_old_enough (age c log) (config.clock + ticks (device_acts log)) (until_of c (wait_acts (device_acts log))) call.arguments last until
      ends (timely c Lock call w known),
)

passing_step : (config : Config) → EachStepKeeps config (Passing config)
passing_step config log new fit so next = record {
  sound = sound_step config log new fit so.sound next;
  timely = step_keeps config (AllTimely config) (timely_steps config) log new so.timely next;
  ended = by next;
}
  where
    by : IsNext config log new → IsEnded config new
    by (inl (adds, such, is)) = subst (IsEnded config) (sym is)
        (all_end_if_none_leaves config (map OnDevice (map Applied adds)) log (instrument_acts_leave_none adds) so.ended)
    by (inr (none, inl (c, wait, polled, oldest, for, said, is))) =
        let known = (fit.held c wait for).1 in
        let call = known.0 in
        subst (IsEnded config) (sym is)
        (subst (λ (found : Option CoreCall). IsEnded config (acts_of c (resume_effect config polled c wait found (device_acts log)) ++ log))
        (sym known.1) (ended_continued config polled c call (next_wait wait call.arguments (device_acts log)) log said known.1
        (λ w. lock_free_for_resumed (device_acts log) fit.suits so.sound.keeps c oldest.0 w) so.ended))
    by (inr (none, inr (still, inl (adds, such, is)))) = subst (IsEnded config) (sym is)
        (all_end_if_none_leaves config (map OnDevice (map Applied adds)) log (instrument_acts_leave_none adds) so.ended)
    by (inr (none, inr (still, inr (idle, (c, wait, oldest, for, is))))) =
        let past = oldest.0 in
        subst (IsEnded config) (sym is)
        (ended_failed config (late wait) c log (timeout_is_cause config c wait past.1 log so.timely for past.3 past.4) fit so.ended)

-- ---- events

ended_on : (config : Config) (c : ℕ) (act : ConnAct) (log : List Act) → IsEnded config log → IsEnded config (On c act ∷ log)
ended_on config c act log so = all_end_if_none_leaves config (On c act ∷ []) log tt so

ended_admitted : (config : Config) (polled c : ℕ) (call : CoreCall) (stop : Option Stop) (log : List Act) → IsEnded config log
    → IsEnded config (acts_of c (call_effect call.xid (admission config polled c call.arguments stop (device_acts log))) ++ log)
ended_admitted config polled c call None log so =
    let outcome = own_call config polled c call.arguments (device_acts log) in
    all_end_after_effect config c (call_effect call.xid outcome) log
    (executed_acts_leave_none c call.arguments outcome.adds (device_acts log)
    (each_act_is_of_call config polled c call.arguments (device_acts log))) so
ended_admitted config polled c call (Some (Fails error)) log so =
    all_end_after_effect config c (call_effect call.xid (only (failure call.arguments error))) log tt so
ended_admitted config polled c call (Some (Awaits wait until)) log so =
    all_end_after_effect config c
    (call_effect call.xid (admission config polled c call.arguments (Some (Awaits wait until)) (device_acts log))) log
    tt so

ended_request : (config : Config) (polled c : ℕ) (request : Request) (log : List Act) → IsEnded config log
    → IsEnded config (acts_of c (request_effect config polled c request (device_acts log)) ++ log)
ended_request config polled c (CoreRequest call) log so =
    ended_admitted config polled c call (stop_of c call.arguments (device_acts log)) log so
ended_request config polled c request log so =
    all_end_after_effect config c (request_effect config polled c request (device_acts log)) log tt so

-- The suspended call that a device_abort ends names the same link as the device_abort.
aborted_call_names_link : (owner : Option ℕ) (lid : ℕ) (acts : List DeviceAct) (d : ℕ) → if_waiting owner (Some lid) acts ≡ Some d
    → named_link d (wait_acts acts) ≡ Some lid
aborted_call_names_link (Some c) lid acts d e = by (is_some (waits c (wait_acts acts))) (is_this lid (named_link c (wait_acts acts))) refl e
  where
    by : (suspended named : Bool) → is_this lid (named_link c (wait_acts acts)) ≡ named
        → cond (suspended && named) (Some c) None ≡ Some d → named_link d (wait_acts acts) ≡ Some lid
    by true true is e = ap (λ (n : ℕ). named_link n (wait_acts acts)) (sym (some_injective c d e))
        ∙ holder_is_this_link lid (named_link c (wait_acts acts)) (sym is)
    by true false is e = absurd cc
    by false named is e = absurd cc
aborted_call_names_link None lid acts d e = absurd cc

-- That the next call is a device_abort follows from its bytes alone.
is_abort_by_bytes : (acts : List ConnAct) (bytes : List ℕ) (xid : ℕ) (lid : ℤ) → next_call acts ≡ Some bytes
    → next_request acts ≡ Some (AbortRequest xid lid) → request_of AbortChannel (call_at bytes) ≡ AbortRequest xid lid
is_abort_by_bytes acts bytes xid lid next asks = by (open_role acts) (ap (request_for (open_role acts)) (sym next) ∙ asks)
  where
    by : (role : Option Role) → request_for role (Some bytes) ≡ Some (AbortRequest xid lid)
        → request_of AbortChannel (call_at bytes) ≡ AbortRequest xid lid
    by (Some role) e =
        let is = some_injective (request_of role (call_at bytes)) (AbortRequest xid lid) e in
        ap (λ (r : Role). request_of r (call_at bytes)) (sym (request_is_for_role role (call_at bytes) (AbortRequest xid lid) is).0) ∙ is
    by None e = absurd cc

ended_aborted : (config : Config) (polled c : ℕ) (bytes : List ℕ) (xid : ℕ) (lid : ℤ) (found : Option ℕ) (log : List Act)
    → let taken = acts_of c (request_effect config polled c (AbortRequest xid lid) (device_acts log)) ++ On c (CallTaken bytes) ∷ log in
    Fit taken → IsEnded config taken → request_of AbortChannel (call_at bytes) ≡ AbortRequest xid lid
    → aborts (AbortRequest xid lid) (device_acts log) ≡ found → IsEnded config (abort_acts found taken ++ taken)
ended_aborted config polled c bytes xid (pos lid) (Some d) log fit so is e =
    let acts = device_acts log in
    let taken = acts_of c (request_effect config polled c (AbortRequest xid (pos lid)) acts) ++ On c (CallTaken bytes) ∷ log in
    let reply = result_reply xid (abort_result (Some lid) acts) in
    let names = aborted_call_names_link (owner_of (Some lid) acts) lid acts d e in
    ended_failed config Abort d taken (λ w call known. inr (refl, (c, bytes, reply, log, xid, lid, refl, is, names))) fit so
ended_aborted config polled c bytes xid (negsuc n) (Some d) log fit so is e = absurd cc
ended_aborted config polled c bytes xid lid None log fit so is e = so

ended_turn : (config : Config) (polled c : ℕ) (found : Option (List ℕ)) (asked : Option Request) (log : List Act) → Fit log
    → c < 16 → IsEnded config log → next_call (of c log) ≡ found → next_request (of c log) ≡ asked
    → IsEnded config (turn_acts config polled c found asked log ++ log)
ended_turn config polled c (Some bytes) (Some request) log fit lt so next asks =
    let effect = request_effect config polled c request (device_acts log) in
    subst (IsEnded config) (sym (turn_acts_in_order c bytes effect (aborts request (device_acts log)) log))
    (by request asks (fit_request config polled c bytes request log fit lt next asks)
    (ended_request config polled c request (On c (CallTaken bytes) ∷ log) (ended_on config c (CallTaken bytes) log so)))
  where
    by : (request : Request) → next_request (of c log) ≡ Some request
        → let taken = acts_of c (request_effect config polled c request (device_acts log)) ++ On c (CallTaken bytes) ∷ log in
        Fit taken → IsEnded config taken → IsEnded config (abort_acts (aborts request (device_acts log)) taken ++ taken)
    by (AbortRequest xid lid) asks fit so =
        ended_aborted config polled c bytes xid lid (aborts (AbortRequest xid lid) (device_acts log)) log fit so
        (is_abort_by_bytes (of c log) bytes xid lid next asks) refl
    by _ asks fit so = so
ended_turn config polled c _ _ log fit lt so next asks = so

-- A call that ends because its peer was connected or couldn't be connected didn't wait for the
-- lock.
ended_dialed : (config : Config) (c : ℕ) (ok : Bool) (call : CoreCall) (peer : Option Peer) (log : List Act)
    → (WaitsForLock (device_acts log) c → ⊥) → IsEnded config log
    → IsEnded config (acts_of c (call_effect call.xid (leaving c (connect_outcome_for c ok call.arguments peer))) ++ log)
ended_dialed config c true call (Some peer) log never so =
    all_end_after_outcome config c call.xid (connect_outcome_for c true call.arguments (Some peer)) log tt (λ w. absurd (never w)) so
ended_dialed config c false call (Some peer) log never so =
    all_end_after_outcome config c call.xid (connect_outcome_for c false call.arguments (Some peer)) log tt (λ w. absurd (never w)) so
ended_dialed config c ok call None log never so =
    all_end_after_outcome config c call.xid (connect_outcome_for c ok call.arguments None) log tt (λ w. absurd (never w)) so

dialing_waits_not_for_lock : (found : Option Wait) → is_dial found ≡ true → found ≡ Some Lock → ⊥
dialing_waits_not_for_lock (Some wait) dial is =
    let same : wait ≡ Lock = some_injective wait Lock is in
    let z : false ≡ true = rw same at dial in cc
dialing_waits_not_for_lock None dial is = cc

ended_close : (config : Config) (c : ℕ) (log : List Act) → IsEnded config log
    → IsEnded config (map OnDevice (close_acts c (device_acts log)) ++ On c PortClosed ∷ log)
ended_close config c log so =
    let links = map Linked (closing c (link_acts (device_acts log))) in
    all_end_after_close config c (Channel (ChannelClosed c) ∷ links) (On c PortClosed ∷ log)
    (link_acts_leave_none (closing c (link_acts (device_acts log))))
    (ap is_open (of_own_act c PortClosed log)) (ended_on config c PortClosed log so)

passing_event : (config : Config) → EventsKeep config (Passing config)
passing_event config history event polled channel_log log was free fit so = record {
  sound = sound_event config history event polled channel_log log was free fit so.sound;
  timely = timely_event config history event polled channel_log log was free fit so.timely;
  ended = by event free;
}
  where
    by : (event : PlainEvent) → refusal config channel_log event log ≡ None → IsEnded config (own_acts config polled event log ++ log)
    by (Open c role) free = ended_on config c (Opened role) log so.ended
    by (Bytes c piece) free = ended_on config c (Piece piece) log so.ended
    by (Turn c) free =
        ended_turn config polled c (next_call (of c log)) (next_request (of c log)) log fit (unrefused_below_16 c log _ free) so.ended refl
        refl
    by (Refuse c) free = refuse_keeps (IsEnded config) c (next_call (of c log)) (refusable (of c log)) log so.ended
        (λ bytes call next can. ended_on config c (Replied (refused_reply call)) (On c (CallTaken bytes) ∷ log)
        (ended_on config c (CallTaken bytes) log so.ended))
    by (Took (Conn c) count) free = ended_on config c (BytesTaken count) log so.ended
    by (Took (Intr c) count) free = all_end_if_none_leaves config (OnDevice (Channel (ChannelTaken c count)) ∷ []) log tt so.ended
    by (Close (Conn c)) free =
        subst (IsEnded config) (sym (append_assoc (map OnDevice (close_acts c (device_acts log))) (On c PortClosed ∷ []) log))
        (ended_close config c log so.ended)
    by (Close (Intr c)) free = all_end_if_none_leaves config (OnDevice (Channel (ChannelClosed c)) ∷ []) log tt so.ended
    by (Dialed c ok) free =
        let dial = dialed_means_dialing (nat_lt 15 c) (not (is_open (of c log))) _ free in
        called c ok (core_call_in (pending_call (of c log)))
        (λ w. dialing_waits_not_for_lock (waits c (wait_acts (device_acts log))) dial w)
      where
        called : (c : ℕ) (ok : Bool) (call : Option CoreCall) → (WaitsForLock (device_acts log) c → ⊥)
            → IsEnded config (acts_of c (effect_of c (λ arguments. leaving c (connect_outcome c ok arguments)) call) ++ log)
        called c ok (Some call) never =
            rw (connect_outcome_by_peer c ok call.arguments)
            (ended_dialed config c ok call (peer_named_by call.arguments) log never so.ended)
        called c ok None never = all_end_after_leaving config c [] log tt (λ w. absurd (never w)) so.ended
    by (Input channel microvolts) free =
        all_end_if_none_leaves config (map OnDevice (map Applied (Scanned (InputTo channel microvolts) ∷ []))) log tt so.ended
    by External free =
        let adds = external_acts (instrument_acts (device_acts log)) in
        all_end_if_none_leaves config (map OnDevice (map Applied adds)) log (instrument_acts_leave_none adds) so.ended
    by Tick free =
        let adds = tick_acts (instrument_acts (device_acts log)) in
        subst (IsEnded config) (sym (append_assoc (map OnDevice (map Applied adds)) (OnDevice Ticked ∷ []) log))
        (all_end_if_none_leaves config (map OnDevice (map Applied adds)) (OnDevice Ticked ∷ log) (instrument_acts_leave_none adds)
        (all_end_if_none_leaves config (OnDevice Ticked ∷ []) log tt so.ended))

passing_log : (config : Config) (history : List PlainEvent) (log : List Act) → IsLogOf config history log → Passing config log
passing_log config =
    each_place config (Passing config) (record { sound = sound_none; timely = timely_none_yet config; ended = tt })
    (passing_event config) (passing_step config)

-- ---- the law

pub device_acts_of_append : (newer older : List Act) (act : DeviceAct)
    → device_acts (newer ++ OnDevice act ∷ older) ≡ device_acts newer ++ act ∷ device_acts older
device_acts_of_append [] older act = refl
device_acts_of_append (On c other ∷ newer) older act = device_acts_of_append newer older act
device_acts_of_append (OnDevice other ∷ newer) older act = ap (λ (l : List DeviceAct). other ∷ l) (device_acts_of_append newer older act)

-- The lock is free, the call came first, and it goes on; or its connection is closed; or it fails.
abbrev Passes : Config → WaitAct → ℕ → List Act → List Act → Type 0
Passes config act c newer older = ((holder (link_acts (device_acts older)) ≡ None) × IsFirst c older × GoesOn config act newer older)
    ⊎ (is_open (of c older) ≡ false) ⊎ FailsNext c newer older

passes_left : (config : Config) (c : ℕ) (newer older : List Act) → AllPlaced older → Keeps (device_acts older) (Waited (Left c))
    → WaitsForLock (device_acts older) c → Ends config c newer older → Passes config (Left c) c newer older
passes_left config c newer older placed keep w (inl (free, goes)) = inl (free, earliest_is_first c older placed (keep w free), goes)
passes_left config c newer older placed keep w (inr other) = inr other

-- While the call of a connection waits for the lock, no other call of it is suspended.
waiting_call_not_reentered : (c : ℕ) (named : Option ℕ) (wait : Wait) (last : Option ℕ) (older : List Act)
    → IsPlaced older (OnDevice (Waited (Entered c named wait last))) → AllPlaced older → WaitsForLock (device_acts older) c → ⊥
waiting_call_not_reentered c named wait last older (bytes, before, is) placed w =
    let idle : waits c (wait_acts (device_acts before)) ≡ None = (subst AllPlaced is placed).0 in
    none_is_not_some (waits c (wait_acts (device_acts before))) Lock idle
    (ap (λ (l : List Act). waits c (wait_acts (device_acts l))) (sym is) ∙ w)

passes_by : (config : Config) (act : WaitAct) (c : ℕ) (newer older : List Act) → AllPlaced (OnDevice (Waited act) ∷ older)
    → Keeps (device_acts older) (Waited act) → AllEnd config newer (OnDevice (Waited act) ∷ older) → changes_wait c act ≡ true
    → WaitsForLock (device_acts older) c → Passes config act c newer older
passes_by config (Entered conn named wait last) c newer older placed keep so e w =
    let lock : WaitsForLock (device_acts older) conn = ap (λ (n : ℕ). waits n (wait_acts (device_acts older))) (eqb-true conn c e) ∙ w in
    absurd (waiting_call_not_reentered conn named wait last older placed.0 placed.1 lock)
passes_by config (Again conn wait last) c newer older placed keep so e w =
    inl (keep.1, subst (λ (n : ℕ). IsFirst n older) (eqb-true conn c e) (earliest_is_first conn older placed.1 keep.2), keep.0)
passes_by config (Left conn) c newer older placed keep so e w =
    let same = eqb-true conn c e in
    let lock : WaitsForLock (device_acts older) conn = ap (λ (n : ℕ). waits n (wait_acts (device_acts older))) same ∙ w in
    subst (λ (n : ℕ). Passes config (Left conn) n newer older) same (passes_left config conn newer older placed.1 keep lock (so.0 lock))

pub oldest_passes : OldestPasses
oldest_passes config history log newer older act c was is e w =
    passes_by config act c newer older
    (suffix_is_placed newer (OnDevice (Waited act) ∷ older) (subst AllPlaced is (placed_log config history log was).placed))
    (keeps_at_each_act config history log (device_acts newer) (device_acts older) (Waited act) was
    (ap device_acts is ∙ device_acts_of_append newer older (Waited act)))
    (all_end_in_suffix config newer [] (OnDevice (Waited act) ∷ older)
    (subst (AllEnd config []) is (passing_log config history log was).ended)) e w
