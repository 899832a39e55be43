-- Each event's own acts keep the invariant `Sound`, so it holds in every log. A call waits for the
-- lock only while another link holds it.
use Rattle.std.proofs.Common.{◌≡◌, ◌≢◌, ℕ, Bool, true, false, cond, List, [], ◌∷◌, ◌++◌, Option, Some, None, refl, sym, ap, subst, ◌∙◌, inl, inr, eq-eqb, append_assoc}
use Rattle.std.specs.Prelude.{map, not, is_some, ◌&&◌, option_map}
use Rattle.std.specs.List.{AllByRecursion}
use Rattle.std.proofs.lemmas.Bool.{cases_eq}
use mathlib.Core.List.{reverse_aux}
use Rattle.sv_logs.proofs.Each.{Each}
use Rattle.sv_vxi.specs.declared.error_code.ErrorCode.TheVariants.{Abort, InvalidLink, ParameterError, NotAccessible, NotSupported, OutOfResources, InvalidAddress, AlreadyEstablished, Locked as DeviceLocked}
use Rattle.sv_vxi.specs.Arguments.{LinkCall, DeviceWrite, DeviceRead, DeviceLock, DeviceUnlock, DestroyLink, Arguments, CreateLink, OnLink, CreateIntrChan, DestroyIntrChan, link, lock_wait}
use Rattle.sv_links.specs.declared.waiting.Wait.{Wait}
use Rattle.sv_links.specs.declared.waiting.Wait.TheVariants.{Lock, Input as ForInput, Response, Dial}
use Rattle.sv_links.specs.Links.{LinkAct, Destroyed, links_of, closing, owner, holder, is_locked_out}
use Rattle.sv_links.specs.Waiting.{WaitAct, Entered, Left, waits, link as named_link}
use Rattle.sv_links.specs.Channels.{ChannelClosed, ChannelTaken}
use Rattle.sv_scan.specs.declared.acts.ScanAct.TheVariants.{Input as InputTo}
use Rattle.sv_exchange.specs.Exchange.{has_ended}
use Rattle.sv_layers.specs.Act.{Scanned}
use Rattle.sv_instrument.specs.Step.{is_answerable}
use Rattle.sv_instrument.specs.Stimulus.{external_acts, tick_acts}
use Rattle.sv_history.specs.declared.event.Config.{Config}
use Rattle.sv_history.specs.declared.event.Port.TheVariants.{Conn, Intr}
use Rattle.sv_history.specs.Event.{PlainEvent, Open, Bytes, Turn, Refuse, Took, Close, Dialed, Input, External, Tick}
use Rattle.sv_history.specs.Act.{Act, ConnAct, DeviceAct, Opened, Piece, CallTaken, Replied, BytesTaken, PortClosed, Linked, Waited, Channel, Applied, Ticked, On, OnDevice, of, device_acts, link_acts, wait_acts, instrument_acts, exchange_acts}
use Rattle.sv_history.specs.Connection.{next_call, pending_call}
use Rattle.sv_history.specs.CallOutcome.{only}
use Rattle.sv_history.specs.CoreCall.{CoreCall, lid_of, failure, is_too_long}
use Rattle.sv_history.specs.CoreChannel.{owns, own_call}
use Rattle.sv_history.specs.Effect.{acts_of, call_effect}
use Rattle.sv_history.specs.Request.{Request, CoreRequest, AbortRequest, core_call_in, next_request}
use Rattle.sv_history.specs.Interrupts.{connect_outcome}
use Rattle.sv_history.specs.Admission.{Stop, Fails, Awaits, lock_stop, device_wait, stop_of, admission, deadline}
use Rattle.sv_history.specs.Execution.{request_effect, aborts}
use Rattle.sv_history.specs.Refusing.{refusable, refused_reply}
use Rattle.sv_history.specs.Resuming.{leaving, late}
use Rattle.sv_history.specs.History.{abort_acts, turn_acts, IsLogOf}
use Rattle.sv_history.proofs.Dialing.{peer_named_by, connect_outcome_for, connect_outcome_by_peer}
use Rattle.sv_history.proofs.Projections.{of_own_act, device_effect, wait_acts_links}
use Rattle.sv_laws.proofs.CallsAlike.{SameCall, same_call_refl}
use Rattle.sv_links.specs.declared.request.Peer.{Peer}
use Rattle.sv_laws.specs.LockFair.{WaitsForLock, WaitsWhileHeld}
use Rattle.sv_laws.proofs.Facts.{some_injective, none_is_not_some}
use Rattle.sv_laws.proofs.NoneLate.{none_late}
use Rattle.sv_laws.proofs.Place.{EventsKeep, EachStepKeeps, each_place, none_resumes}
use Rattle.sv_laws.proofs.Closed.{closed_links_are_own}
use Rattle.sv_laws.proofs.EveryLog.Done.{owns_means_owner, each_act_is_of_call, suspended_create_link}
use Rattle.sv_laws.proofs.EveryLog.Taken.{core_call_is_on_core_role}
use Rattle.sv_laws.proofs.EveryLog.Fit.{AllSuit, Fit}
use Rattle.sv_laws.proofs.EveryLog.Known.{link_numbers_rise}
use Rattle.sv_laws.proofs.EveryLog.EachEvent.{call_acts_suspend_none, entered_waits, next_call_means_none_suspended, turn_acts_in_order, refuse_keeps, close_acts, device_acts_of_close, close_leaves_others, left_is_not_suspended}
use Rattle.sv_laws.proofs.EveryLog.Keeps.{Keeps, AllKeep, NamesNone, keep_append, keep_suffix, named_link_is_live}
use Rattle.sv_laws.proofs.Sound.{takes_lock, can_free_lock, FitsArguments, Sound, fits_if_not_suspended, fits_without_call, fits_same_wait, same_call_other_conn, sound_effect, sound_shared, sound_happened, asks_lock, MayDo, executed_acts_keep, sound_left, sound_ended, sound_failed, lock_waiter_can_resume, sound_resumed}

-- ---- a call that nothing stops

owned_by : (own : Bool) (rest : Option Stop) → cond (not own) (Some (Fails InvalidLink)) rest ≡ None → own ≡ true
owned_by true rest e = refl
owned_by false rest e = absurd cc

pub unstopped_call_owns_link : (c : ℕ) (arguments : Arguments) (acts : List DeviceAct) (n : ℕ) → stop_of c arguments acts ≡ None
    → lid_of (link arguments) ≡ Some n → owner n (link_acts acts) ≡ Some c
unstopped_call_owns_link c (OnLink lid call) acts n e is = owns_means_owner c (lid_of (Some lid)) acts n
    (owned_by (owns c (lid_of (Some lid)) acts) _ e) is
unstopped_call_owns_link c _ acts n e is = absurd cc

out_none : (o : Option ℕ) → is_locked_out o None ≡ false → o ≡ None
out_none None e = refl
out_none (Some h) e = absurd cc

link_free : (named more asks locked : Bool) (timeout : ℕ)
    → cond (not named) (Some (Fails NotAccessible)) (cond (not more) (Some (Fails OutOfResources))
    (cond (asks && locked) (Some (Awaits Lock (Some timeout))) None)) ≡ None → asks ≡ true → locked ≡ false
link_free false more asks locked timeout e is = absurd cc
link_free true false asks locked timeout e is = absurd cc
link_free true true true true timeout e is = absurd cc
link_free true true true false timeout e is = refl
link_free true true false locked timeout e is = absurd cc

unstopped_asks : (c : ℕ) (arguments : Arguments) (acts : List DeviceAct) → stop_of c arguments acts ≡ None → asks_lock arguments ≡ true
    → holder (link_acts acts) ≡ None
unstopped_asks c (CreateLink client_id lock_device lock_timeout device) acts e is =
    out_none (holder (link_acts acts)) (link_free _ _ lock_device (is_locked_out (holder (link_acts acts)) None) lock_timeout e is)
unstopped_asks c _ acts e is = absurd cc

-- ---- a call that has to wait for the lock

link_locked : (named more asks locked : Bool) (timeout : ℕ) (wait : Wait) (until : Option ℕ)
    → cond (not named) (Some (Fails NotAccessible)) (cond (not more) (Some (Fails OutOfResources))
    (cond (asks && locked) (Some (Awaits Lock (Some timeout))) None)) ≡ Some (Awaits wait until) → locked ≡ true
link_locked false more asks locked timeout wait until e = absurd cc
link_locked true false asks locked timeout wait until e = absurd cc
link_locked true true true true timeout wait until e = refl
link_locked true true true false timeout wait until e = absurd cc
link_locked true true false locked timeout wait until e = absurd cc

device_not : (call : LinkCall) (acts : List DeviceAct) (until : Option ℕ)
    → option_map (λ (w : Wait × ℕ). Awaits w.0 (Some w.1)) (device_wait call acts) ≡ Some (Awaits Lock until) → ⊥
device_not (DeviceWrite timeout lock_timeout flags bytes) acts until e = by (has_ended (exchange_acts acts)) e
  where
    by : (b : Bool) → option_map (λ (w : Wait × ℕ). Awaits w.0 (Some w.1)) (cond b (Some (ForInput, timeout)) None)
        ≡ Some (Awaits Lock until) → ⊥
    by true e = cc
    by false e = cc
device_not (DeviceRead request_size timeout lock_timeout flags term_char) acts until e = by (is_answerable (instrument_acts acts)) e
  where
    by : (b : Bool) → option_map (λ (w : Wait × ℕ). Awaits w.0 (Some w.1)) (cond b None (Some (Response, timeout)))
        ≡ Some (Awaits Lock until) → ⊥
    by true e = cc
    by false e = cc
device_not _ acts until e = cc

call_locked : (own long asks locked : Bool) (lock other : Option Stop) (until : Option ℕ) → (other ≡ Some (Awaits Lock until) → ⊥)
    → cond (not own) (Some (Fails InvalidLink)) (cond long (Some (Fails ParameterError)) (cond (asks && locked) lock other))
    ≡ Some (Awaits Lock until) → locked ≡ true
call_locked false long asks locked lock other until never e = absurd cc
call_locked true true asks locked lock other until never e = absurd cc
call_locked true false true true lock other until never e = refl
call_locked true false true false lock other until never e = absurd (never e)
call_locked true false false locked lock other until never e = absurd (never e)

channel_not : (there family peer : Bool) (until : Option ℕ)
    → Some (cond there (Fails AlreadyEstablished) (cond (not family) (Fails NotSupported) (cond (not peer) (Fails InvalidAddress)
    (Awaits Dial None)))) ≡ Some (Awaits Lock until) → ⊥
channel_not true family peer until e = cc
channel_not false false peer until e = cc
channel_not false true false until e = cc
channel_not false true true until e = cc

lock_waiter_is_locked_out : (c : ℕ) (arguments : Arguments) (acts : List DeviceAct) (until : Option ℕ)
    → stop_of c arguments acts ≡ Some (Awaits Lock until) → is_locked_out (holder (link_acts acts)) (lid_of (link arguments)) ≡ true
lock_waiter_is_locked_out c (CreateLink client_id lock_device lock_timeout device) acts until e =
    link_locked _ _ lock_device _ lock_timeout Lock until e
lock_waiter_is_locked_out c (OnLink lid call) acts until e =
    call_locked (owns c (lid_of (Some lid)) acts) (is_too_long call) (is_some (lock_wait call))
    (is_locked_out (holder (link_acts acts)) (lid_of (Some lid))) (option_map lock_stop (lock_wait call)) _ until
    (device_not call acts until) e
lock_waiter_is_locked_out c (CreateIntrChan host_addr host_port prog_num prog_vers prog_family) acts until e =
    absurd (channel_not _ _ _ until e)
lock_waiter_is_locked_out c DestroyIntrChan acts until e = absurd cc

-- A device_lock that is suspended waits for the lock.
lock_by : (own asks : Bool) (waits : Bool) (timeout : ℕ) (wait : Wait) (until : Option ℕ)
    → cond (not own) (Some (Fails InvalidLink)) (cond asks (Some (cond waits (Awaits Lock (Some timeout)) (Fails DeviceLocked))) None)
    ≡ Some (Awaits wait until) → wait ≡ Lock
lock_by false asks waits timeout wait until e = absurd cc
lock_by true true true timeout wait until e = cc
lock_by true true false timeout wait until e = absurd cc
lock_by true false waits timeout wait until e = absurd cc

lock_taker_waits_for_lock : (c : ℕ) (arguments : Arguments) (acts : List DeviceAct) (wait : Wait) (until : Option ℕ)
    → stop_of c arguments acts ≡ Some (Awaits wait until) → takes_lock arguments ≡ true → wait ≡ Lock
lock_taker_waits_for_lock c (CreateLink client_id lock_device lock_timeout device) acts wait until e is =
    (suspended_create_link c (CreateLink client_id lock_device lock_timeout device) acts wait until e refl).0
lock_taker_waits_for_lock c (OnLink lid (DeviceLock flags lock_timeout)) acts wait until e is =
    lock_by (owns c (lid_of (Some lid)) acts) (is_locked_out (holder (link_acts acts)) (lid_of (Some lid))) _ lock_timeout wait until e
lock_taker_waits_for_lock c _ acts wait until e is = absurd cc

-- No device_unlock and no destroy_link is suspended.
unlock_by : (own : Bool) (wait : Wait) (until : Option ℕ) → cond (not own) (Some (Fails InvalidLink)) None ≡ Some (Awaits wait until) → ⊥
unlock_by false wait until e = cc
unlock_by true wait until e = cc

suspended_frees_no_lock : (c : ℕ) (arguments : Arguments) (acts : List DeviceAct) (wait : Wait) (until : Option ℕ)
    → stop_of c arguments acts ≡ Some (Awaits wait until) → can_free_lock arguments ≡ false
suspended_frees_no_lock c (OnLink lid DeviceUnlock) acts wait until e = absurd (unlock_by (owns c (lid_of (Some lid)) acts) wait until e)
suspended_frees_no_lock c (OnLink lid DestroyLink) acts wait until e = absurd (unlock_by (owns c (lid_of (Some lid)) acts) wait until e)
suspended_frees_no_lock c _ acts wait until e = refl

-- ---- a Turn

-- No call waits for the lock while it is free.
abbrev pub NoneWaitsForFreeLock : List DeviceAct → Type 0
NoneWaitsForFreeLock acts = (d : ℕ) → WaitsForLock acts d → holder (link_acts acts) ≡ None → ⊥

quiet_left : (acts : List DeviceAct) → NoneWaitsForFreeLock acts → (c : ℕ) → Keeps acts (Waited (Left c))
quiet_left acts quiet c w free = absurd (quiet c w free)

sound_on : (c : ℕ) (act : ConnAct) (log : List Act) → Sound log → FitsArguments c (act ∷ of c log) (wait_acts (device_acts log))
    → Sound (On c act ∷ log)
sound_on c act log so told = sound_effect c (record { own = act ∷ []; adds = [] }) log so tt
    (λ d ne. same_call_refl d (wait_acts (device_acts log))) told

sound_taken : (c : ℕ) (bytes : List ℕ) (log : List Act) → Sound log → waits c (wait_acts (device_acts log)) ≡ None
    → Sound (On c (CallTaken bytes) ∷ log)
sound_taken c bytes log so none =
    sound_on c (CallTaken bytes) log so (fits_if_not_suspended c (CallTaken bytes ∷ of c log) (wait_acts (device_acts log)) none)

-- An effect without acts of the device keeps the invariant.
sound_only : (c : ℕ) (own : List ConnAct) (log : List Act) → Sound log → waits c (wait_acts (device_acts log)) ≡ None
    → Sound (acts_of c (record { own = own; adds = [] }) ++ log)
sound_only c own log so none = sound_effect c (record { own = own; adds = [] }) log so tt
    (λ d ne. same_call_refl d (wait_acts (device_acts log))) (fits_if_not_suspended c (own ++ of c log) (wait_acts (device_acts log)) none)

sound_admitted : (config : Config) (polled c : ℕ) (bytes : List ℕ) (call : CoreCall) (stop : Option Stop) (log : List Act)
    → let taken = On c (CallTaken bytes) ∷ log in
    AllSuit (device_acts log) → Sound taken → NoneWaitsForFreeLock (device_acts log) → waits c (wait_acts (device_acts log)) ≡ None
    → core_call_in (pending_call (of c taken)) ≡ Some call → stop_of c call.arguments (device_acts log) ≡ stop
    → Sound (acts_of c (call_effect call.xid (admission config polled c call.arguments stop (device_acts log))) ++ taken)
sound_admitted config polled c bytes call None log suits so quiet none known e =
    let taken = On c (CallTaken bytes) ∷ log in
    let acts = device_acts log in
    let what = own_call config polled c call.arguments acts in
    let done = call_acts_suspend_none c call.arguments what.adds acts (each_act_is_of_call config polled c call.arguments acts) in
    let may : MayDo c call.arguments acts = record {
      suits = suits;
      keeps = so.keeps;
      idle = none;
      names = λ n is. unstopped_call_owns_link c call.arguments acts n e is;
      asks = unstopped_asks c call.arguments acts e;
      turn = λ takes free. inl (λ d w. quiet d w free);
    } in
    sound_effect c (call_effect call.xid what) taken so (executed_acts_keep config polled c call.arguments acts may)
    (λ d ne. subst (λ (l : List WaitAct). SameCall d l (wait_acts acts)) (sym done) (same_call_refl d (wait_acts acts)))
    (fits_if_not_suspended c ((call_effect call.xid what).own ++ of c taken) (wait_acts (what.adds ++ acts)) (ap (waits c) done ∙ none))
sound_admitted config polled c bytes call (Some (Fails error)) log suits so quiet none known e =
    sound_only c (call_effect call.xid (only (failure call.arguments error))).own (On c (CallTaken bytes) ∷ log) so none
sound_admitted config polled c bytes call (Some (Awaits wait until)) log suits so quiet none known e =
    let taken = On c (CallTaken bytes) ∷ log in
    let acts = device_acts log in
    let named = lid_of (link call.arguments) in
    let last = deadline config until acts in
    let now = entered_waits c named wait last (wait_acts acts) in
    sound_effect c (call_effect call.xid (admission config polled c call.arguments (Some (Awaits wait until)) acts)) taken so
    ((λ lock. lock_waiter_is_locked_out c call.arguments acts until (e ∙ ap (λ (w : Wait). Some (Awaits w until)) lock)), tt)
    (λ d ne. same_call_other_conn c d (Entered c named wait last) (wait_acts acts) refl ne)
    (λ other found is busy.
    let same : call ≡ found = some_injective call found (sym known ∙ busy) in
    let waits_same : wait ≡ other = some_injective wait other (sym now.0 ∙ is) in
    subst (λ (k : CoreCall). (named_link c (Entered c named wait last ∷ wait_acts acts) ≡ lid_of (link k.arguments))
    × (takes_lock k.arguments ≡ true → other ≡ Lock) × (can_free_lock k.arguments ≡ false)) same (
      now.1,
      (λ takes. sym waits_same ∙ lock_taker_waits_for_lock c call.arguments acts wait until e takes),
      suspended_frees_no_lock c
          call.arguments acts wait until e,
    ))

sound_request : (config : Config) (polled c : ℕ) (bytes : List ℕ) (request : Request) (log : List Act) → Fit log → Sound log
    → NoneWaitsForFreeLock (device_acts log) → next_call (of c log) ≡ Some bytes → next_request (of c log) ≡ Some request
    → Sound (acts_of c (request_effect config polled c request (device_acts log)) ++ On c (CallTaken bytes) ∷ log)
sound_request config polled c bytes request log fit so quiet next asks =
    let none = next_call_means_none_suspended c log bytes fit next in
    by request (sound_taken c bytes log so none) none asks
  where
    by : (request : Request) → Sound (On c (CallTaken bytes) ∷ log) → waits c (wait_acts (device_acts log)) ≡ None
        → next_request (of c log) ≡ Some request
        → Sound (acts_of c (request_effect config polled c request (device_acts log)) ++ On c (CallTaken bytes) ∷ log)
    by (CoreRequest call) taken none asks =
        let known = core_call_is_on_core_role (of c log) bytes call next asks in
        let own = of_own_act c (CallTaken bytes) log in
        sound_admitted config polled c bytes call (stop_of c call.arguments (device_acts log)) log fit.suits taken quiet none
        (ap (λ (l : List ConnAct). core_call_in (pending_call l)) own ∙ known.1) refl
    by request taken none asks = sound_only c (request_effect config polled c request (device_acts log)).own (On c (CallTaken bytes) ∷ log)
        taken none

-- A device_abort, which ends another connection's suspended call, keeps the invariant.
sound_aborted : (c : ℕ) (own : List ConnAct) (bytes : List ℕ) (found : Option ℕ) (log : List Act) → NoneWaitsForFreeLock (device_acts log)
    → Sound (acts_of c (record { own = own; adds = [] }) ++ On c (CallTaken bytes) ∷ log)
    → let taken = acts_of c (record { own = own; adds = [] }) ++ On c (CallTaken bytes) ∷ log in Sound (abort_acts found taken ++ taken)
sound_aborted c own bytes (Some d) log quiet so =
    let taken = acts_of c (record { own = own; adds = [] }) ++ On c (CallTaken bytes) ∷ log in
    let same : device_acts taken ≡ device_acts log = device_effect c (record { own = own; adds = [] }) (On c (CallTaken bytes) ∷ log) in
    sound_failed Abort d taken so (quiet_left (device_acts taken) (subst NoneWaitsForFreeLock (sym same) quiet) d)
sound_aborted c own bytes None log quiet so = so

sound_turn : (config : Config) (polled c : ℕ) (found : Option (List ℕ)) (asked : Option Request) (log : List Act) → Fit log → Sound log
    → NoneWaitsForFreeLock (device_acts log) → next_call (of c log) ≡ found → next_request (of c log) ≡ asked
    → Sound (turn_acts config polled c found asked log ++ log)
sound_turn config polled c (Some bytes) (Some request) log fit so quiet next asks =
    let effect = request_effect config polled c request (device_acts log) in
    subst Sound (sym (turn_acts_in_order c bytes effect (aborts request (device_acts log)) log))
    (by request (sound_request config polled c bytes request log fit so quiet next asks))
  where
    by : (request : Request) → Sound (acts_of c (request_effect config polled c request (device_acts log)) ++ On c (CallTaken bytes) ∷ log)
        → let taken = acts_of c (request_effect config polled c request (device_acts log)) ++ On c (CallTaken bytes) ∷ log in
        Sound (abort_acts (aborts request (device_acts log)) taken ++ taken)
    by (AbortRequest xid lid) done = sound_aborted c (request_effect config polled c (AbortRequest xid lid) (device_acts log)).own bytes
        (aborts (AbortRequest xid lid) (device_acts log)) log quiet done
    by _ done = done
sound_turn config polled c _ _ log fit so quiet next asks = so

-- ---- a connection closes

keep_links : (ns : List ℕ) (behind : List LinkAct) (acts : List DeviceAct) → AllByRecursion (λ n. NamesNone n acts) ns
    → Each Keeps (map Linked behind) acts → Each Keeps (map Linked (reverse_aux (map Destroyed ns) behind)) acts
keep_links [] behind acts h k = k
keep_links (n ∷ ns) behind acts h k = keep_links ns (Destroyed n ∷ behind) acts h.1 (
  (λ d wait w named.
      let same = wait_acts_links behind acts in
      h.0 d wait (ap (waits d) (sym same) ∙ w) (ap (named_link d) (sym same) ∙ named)),
  k,
)

all_by : (P Q : ℕ → Type 0) (ns : List ℕ) → ((n : ℕ) → P n → Q n) → AllByRecursion P ns → AllByRecursion Q ns
all_by P Q [] so h = tt
all_by P Q (n ∷ ns) so h = (so n h.0, all_by P Q ns so h.1)

sound_close : (c : ℕ) (log : List Act) → Fit log → Sound log → NoneWaitsForFreeLock (device_acts log)
    → Sound (map OnDevice (close_acts c (device_acts log)) ++ On c PortClosed ∷ log)
sound_close c log fit so quiet =
    let acts = device_acts log in
    let new = map OnDevice (close_acts c acts) ++ On c PortClosed ∷ log in
    let before = Waited (Left c) ∷ acts in
    let keep : AllKeep before = (quiet_left acts quiet c, so.keeps) in
    let calls : wait_acts (device_acts new) ≡ Left c ∷ wait_acts acts =
    ap wait_acts (device_acts_of_close c log) ∙ wait_acts_links (closing c (link_acts acts)) before in
    let none : (n : ℕ) → owner n (link_acts acts) ≡ Some c → NamesNone n before = λ n owns d wait w named.
    elim (cases_eq d c) [
      | inl e ↦ none_is_not_some (waits c (wait_acts before)) wait (left_is_not_suspended c (wait_acts acts))
          (ap (λ (m : ℕ). waits m (wait_acts before)) (sym e) ∙ w)
      | inr ne ↦
          let lives = named_link_is_live before (tt, fit.suits) keep d wait n w named in
          ne (some_injective d c (sym lives ∙ owns))
    ] in
    record {
      keeps = subst AllKeep (sym (device_acts_of_close c log)) (
        tt,
        keep_append (map Linked (closing c (link_acts acts))) before
            (keep_links (links_of c (link_acts acts)) [] before
            (all_by (λ n. owner n (link_acts acts) ≡ Some c) (λ n. NamesNone n before) (links_of c (link_acts acts)) none
            (closed_links_are_own c _ (link_acts acts) (link_numbers_rise acts fit.suits))) tt) keep,
      );
      told = λ d. subst (λ (l : List WaitAct). FitsArguments d (of d new) l) (sym calls) (elim (cases_eq d c) [
        | inl e ↦ subst (λ (n : ℕ). FitsArguments n (of n new) (Left c ∷ wait_acts acts)) (sym e)
            (fits_if_not_suspended c (of c new) (Left c ∷ wait_acts acts) (left_is_not_suspended c (wait_acts acts)))
        | inr ne ↦ fits_same_wait d (of d log) (of d new) (wait_acts acts) (Left c ∷ wait_acts acts)
            (ap pending_call (close_leaves_others c d log ne))
            (same_call_other_conn c d (Left c) (wait_acts acts) refl ne) (so.told d)
      ]);
    }

-- ---- an event

sound_dialed : (c : ℕ) (ok : Bool) (call : CoreCall) (peer : Option Peer) (log : List Act) → Sound log
    → Keeps (device_acts log) (Waited (Left c))
    → Sound (acts_of c (call_effect call.xid (leaving c (connect_outcome_for c ok call.arguments peer))) ++ log)
sound_dialed c true call (Some peer) log so keep =
    sound_left c call.xid (connect_outcome_for c true call.arguments (Some peer)) log so keep (tt, tt) refl
sound_dialed c false call (Some peer) log so keep =
    sound_left c call.xid (connect_outcome_for c false call.arguments (Some peer)) log so keep tt refl
sound_dialed c ok call None log so keep = sound_left c call.xid (connect_outcome_for c ok call.arguments None) log so keep tt refl

pub no_wait_for_free_lock : (config : Config) (history : List PlainEvent) (log : List Act) → IsLogOf config history log
    → NoneWaitsForFreeLock (device_acts log)
no_wait_for_free_lock config history log was d w free = (none_late config history log d was).1
    (lock_waiter_can_resume (device_acts log) d w free)

pub sound_event : (config : Config) → EventsKeep config Sound
sound_event config history (Open c role) polled channel_log log was free fit so =
    sound_on c (Opened role) log so (fits_without_call c (Opened role ∷ of c log) (wait_acts (device_acts log)) refl)
sound_event config history (Bytes c piece) polled channel_log log was free fit so = sound_on c (Piece piece) log so (so.told c)
sound_event config history (Turn c) polled channel_log log was free fit so =
    sound_turn config polled c (next_call (of c log)) (next_request (of c log)) log fit so (no_wait_for_free_lock config history log was)
    refl refl
sound_event config history (Refuse c) polled channel_log log was free fit so =
    refuse_keeps Sound c (next_call (of c log)) (refusable (of c log)) log so (λ bytes call next can.
    let none = next_call_means_none_suspended c log bytes fit next in
    sound_only c (Replied (refused_reply call) ∷ []) (On c (CallTaken bytes) ∷ log) (sound_taken c bytes log so none) none)
sound_event config history (Took (Conn c) count) polled channel_log log was free fit so = sound_on c (BytesTaken count) log so (so.told c)
sound_event config history (Took (Intr c) count) polled channel_log log was free fit so =
    sound_shared (Channel (ChannelTaken c count) ∷ []) log so (tt, tt) refl
sound_event config history (Close (Conn c)) polled channel_log log was free fit so =
    subst Sound (sym (append_assoc (map OnDevice (close_acts c (device_acts log))) (On c PortClosed ∷ []) log))
    (sound_close c log fit so (no_wait_for_free_lock config history log was))
sound_event config history (Close (Intr c)) polled channel_log log was free fit so =
    sound_shared (Channel (ChannelClosed c) ∷ []) log so (tt, tt) refl
sound_event config history (Dialed c ok) polled channel_log log was free fit so =
    let keep = quiet_left (device_acts log) (no_wait_for_free_lock config history log was) c in
    sound_ended c (λ arguments. leaving c (connect_outcome c ok arguments)) log so keep
    (λ call e. rw (connect_outcome_by_peer c ok call.arguments) (sound_dialed c ok call (peer_named_by call.arguments) log so keep))
sound_event config history (Input channel microvolts) polled channel_log log was free fit so =
    sound_happened (Scanned (InputTo channel microvolts) ∷ []) log so
sound_event config history External polled channel_log log was free fit so =
    sound_happened (external_acts (instrument_acts (device_acts log))) log so
sound_event config history Tick polled channel_log log was free fit so =
    let adds = tick_acts (instrument_acts (device_acts log)) in
    subst Sound (sym (append_assoc (map OnDevice (map Applied adds)) (OnDevice Ticked ∷ []) log))
    (sound_happened adds (OnDevice Ticked ∷ log) (sound_shared (Ticked ∷ []) log so (tt, tt) refl))

-- ---- a step

pub sound_step : (config : Config) → EachStepKeeps config Sound
sound_step config log new fit so (inl (adds, such, is)) = subst Sound (sym is) (sound_happened adds log so)
sound_step config log new fit so (inr (none, inl (c, wait, polled, oldest, for, said, is))) =
    subst Sound (sym is) (sound_resumed config polled c wait log fit so oldest for)
sound_step config log new fit so (inr (none, inr (still, inl (adds, such, is)))) = subst Sound (sym is) (sound_happened adds log so)
sound_step config log new fit so (inr (none, inr (still, inr (idle, (c, wait, oldest, for, is))))) =
    subst Sound (sym is) (sound_failed (late wait) c log so
    (λ w free. absurd (none_resumes config log fit.suits still c (lock_waiter_can_resume (device_acts log) c w free))))

pub sound_none : Sound []
sound_none = record { keeps = tt; told = λ c wait call is busy. absurd (let z : None ≡ Some wait = is in cc) }

pub sound_log : (config : Config) (history : List PlainEvent) (log : List Act) → IsLogOf config history log → Sound log
sound_log config = each_place config Sound sound_none (sound_event config) (sound_step config)

-- ---- the laws

pub waits_while_held : WaitsWhileHeld
waits_while_held config history log c was w = by (holder (link_acts (device_acts log))) refl
  where
    by : (o : Option ℕ) → holder (link_acts (device_acts log)) ≡ o
        → (lid : ℕ) × (holder (link_acts (device_acts log)) ≡ Some lid) × (named_link c (wait_acts (device_acts log)) ≢ Some lid)
    by None is = absurd (no_wait_for_free_lock config history log was c w is)
    by (Some lid) is = (
      lid,
      is,
      (λ named.
          (none_late config history log c was).1 (rw (w, is, named) (rw (eq-eqb lid lid refl) refl))),
    )

pub keeps_at_each_act : (config : Config) (history : List PlainEvent) (log : List Act) (newer older : List DeviceAct) (act : DeviceAct)
    → IsLogOf config history log → device_acts log ≡ newer ++ act ∷ older → Keeps older act
keeps_at_each_act config history log newer older act was is =
    (keep_suffix newer (act ∷ older) (subst AllKeep is (sound_log config history log was).keeps)).0
