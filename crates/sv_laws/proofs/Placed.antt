-- Where acts stand in a log. A call is taken while its connection has none suspended, and suspended
-- directly after it is taken. A link frees the lock because its connection calls for it or is
-- closed. A link gets the lock because its connection's call asks for it, and it is this call's
-- turn.
use Rattle.std.proofs.Common.{◌≡◌, ℕ, ◌+◌, Bool, true, false, List, [], ◌∷◌, ◌++◌, length, nat_lt, Option, Some, None, refl, sym, ap, subst, ◌∙◌, inl, inr, ◌⊎◌, append_assoc}
use Rattle.std.specs.Prelude.{map, pos, ⊤}
use Rattle.std.specs.List.{AllByRecursion}
use Rattle.std.proofs.lemmas.Bool.{cases_Bool}
use mathlib.Core.List.{reverse_aux}
use Rattle.sv_logs.proofs.Each.{Each, each_join}
use Rattle.sv_rpc.specs.Call.{call_at}
use Rattle.sv_vxi.specs.declared.error_code.ErrorCode.{ErrorCode}
use Rattle.sv_vxi.specs.declared.arguments.GenericCall.TheVariants.{Readstb, Trigger, Clear}
use Rattle.sv_vxi.specs.Arguments.{LinkCall, DeviceWrite, DeviceRead, Generic, DeviceLock, DeviceUnlock, DeviceEnableSrq, DestroyLink, Arguments, CreateLink, OnLink, DestroyIntrChan, max_handle, link}
use Rattle.sv_links.specs.declared.request.Peer.{Peer}
use Rattle.sv_links.specs.declared.waiting.Wait.{Wait}
use Rattle.sv_links.specs.Links.{LinkAct, Made, Destroyed, Locked, Unlocked, links_made, links_of, owner, is_of, holder, is_this, is_locked_out, lids_left}
use Rattle.sv_links.specs.Waiting.{Entered, Left, waits}
use Rattle.sv_exchange.specs.Exchange.{has_ended, response, is_something}
use Rattle.sv_exchange.specs.Limits.{max_message}
use Rattle.sv_layers.specs.Act.{Act as InstrumentAct}
use Rattle.sv_instrument.specs.Step.{is_answerable}
use Rattle.sv_instrument.specs.Stimulus.{external_acts, tick_acts}
use Rattle.sv_history.specs.declared.event.Config.{Config}
use Rattle.sv_history.specs.declared.event.Port.TheVariants.{Conn}
use Rattle.sv_history.specs.declared.event.Role.TheVariants.{Core}
use Rattle.sv_history.specs.Event.{PlainEvent, Turn, Refuse, Took, Close, Dialed, External, Tick}
use Rattle.sv_history.specs.Act.{Act, ConnAct, DeviceAct, CallTaken, PortClosed, Linked, Waited, Applied, Ticked, On, OnDevice, of, device_acts, link_acts, wait_acts, instrument_acts, exchange_acts}
use Rattle.sv_history.specs.Connection.{is_open, next_call, pending_call}
use Rattle.sv_history.specs.CallOutcome.{CallOutcome, only}
use Rattle.sv_history.specs.CoreCall.{CoreCall, lid_of, failure}
use Rattle.sv_history.specs.CoreChannel.{owns, own_call}
use Rattle.sv_history.specs.Effect.{Effect, acts_of, call_effect}
use Rattle.sv_history.specs.Request.{Request, CoreRequest, request_of, core_call_in, next_request}
use Rattle.sv_history.specs.Interrupts.{has_channel, connect_outcome}
use Rattle.sv_history.specs.Admission.{Stop, Fails, Awaits, stop_of, admission}
use Rattle.sv_history.specs.Execution.{request_effect, aborts}
use Rattle.sv_history.specs.Refusing.{refusable}
use Rattle.sv_history.specs.Resuming.{effect_of, leaving, next_wait, resume_outcome, resume_effect, failure_effect, late}
use Rattle.sv_history.specs.Settling.{IsNext}
use Rattle.sv_history.specs.History.{abort_acts, turn_acts, own_acts, IsLogOf}
use Rattle.sv_history.proofs.Dialing.{peer_named_by, connect_outcome_for, connect_outcome_by_peer}
use Rattle.sv_history.proofs.Projections.{of_own_act, of_device_acts, device_acts_append, link_acts_links}
use Rattle.sv_laws.specs.LockFair.{WaitsForLock, AsksForLock, ReleasesLock}
use Rattle.sv_laws.proofs.Facts.{some_injective, true_is_not_false}
use Rattle.sv_laws.proofs.LinksAlike.{owner_before_destroy}
use Rattle.sv_laws.proofs.Closed.{closed_links_are_own}
use Rattle.sv_laws.proofs.Place.{EventsKeep, EachStepKeeps, each_place}
use Rattle.sv_laws.proofs.InTime.{NoCalls, replies_no_calls}
use Rattle.sv_laws.proofs.Sound.{takes_lock, can_free_lock, Sound, made_link_owner}
use Rattle.sv_laws.proofs.SoundEvents.{unstopped_call_owns_link, NoneWaitsForFreeLock, no_wait_for_free_lock, sound_event, sound_step, sound_none}
use Rattle.sv_laws.proofs.EveryLog.Taken.{core_call_is_on_core_role, is_core}
use Rattle.sv_laws.proofs.EveryLog.Fit.{AllSuit, Fit}
use Rattle.sv_laws.proofs.EveryLog.Known.{link_numbers_rise}
use Rattle.sv_laws.proofs.EveryLog.Keeps.{named_link_is_live}
use Rattle.sv_laws.proofs.EveryLog.EachEvent.{next_call_means_none_suspended, turn_acts_in_order, refuse_keeps, close_acts}

-- ---- where an act may stand

-- The connection that owns this link calls device_unlock or destroy_link on it, or is closed.
abbrev pub MayFree : ℕ → List Act → Type 0
MayFree lid older =
    (c : ℕ) → owner lid (link_acts (device_acts older)) ≡ Some c → (is_open (of c older) ≡ false) ⊎ ReleasesLock c lid older

-- No call waits for the lock; or a call has left the queue, and since then only links were made.
abbrev pub HasTurn : List Act → Type 0
HasTurn older = ((d : ℕ) → WaitsForLock (device_acts older) d → ⊥)
    ⊎ ((c : ℕ) × (made : List LinkAct) × (before : List Act)
    × (older ≡ map OnDevice (map Linked made) ++ OnDevice (Waited (Left c)) ∷ before))

-- The connection that owns this link has an unanswered call that asks for the lock for this link.
abbrev IsAsked : ℕ → List Act → Type 0
IsAsked lid older = (c : ℕ) × (call : CoreCall) × (owner lid (link_acts (device_acts older)) ≡ Some c)
    × (core_call_in (pending_call (of c older)) ≡ Some call) × AsksForLock lid call.arguments

-- This act may follow these acts. A call is taken while its connection has none suspended. A call
-- is suspended directly after it is taken. A link gets the lock if a call asks for it, and a free
-- lock only in turn. A link is unlocked or destroyed if its connection calls for it, or is closed.
abbrev pub IsPlaced : List Act → Act → Type 0
IsPlaced older (On c (CallTaken bytes)) = waits c (wait_acts (device_acts older)) ≡ None
IsPlaced older (OnDevice (Waited (Entered c named wait last))) =
    (bytes : List ℕ) × (before : List Act) × (older ≡ On c (CallTaken bytes) ∷ before)
IsPlaced older (OnDevice (Linked (Locked lid))) = (holder (link_acts (device_acts older)) ≡ None → HasTurn older) × IsAsked lid older
IsPlaced older (OnDevice (Linked (Unlocked lid))) = MayFree lid older
IsPlaced older (OnDevice (Linked (Destroyed lid))) = MayFree lid older
IsPlaced older act = ⊤

-- Each act of the log may follow the acts before it.
abbrev pub AllPlaced : List Act → Type 0
AllPlaced [] = ⊤
AllPlaced (act ∷ log) = IsPlaced log act × AllPlaced log

append_is_placed : (acts log : List Act) → Each IsPlaced acts log → AllPlaced log → AllPlaced (acts ++ log)
append_is_placed [] log h all = all
append_is_placed (act ∷ acts) log h all = (h.0, append_is_placed acts log h.1 all)

pub suffix_is_placed : (newer older : List Act) → AllPlaced (newer ++ older) → AllPlaced older
suffix_is_placed [] older all = all
suffix_is_placed (act ∷ newer) older all = suffix_is_placed newer older all.1

-- ---- the acts of an effect

-- Acts of a connection that take no call may follow any acts.
placed_own : (c : ℕ) (own : List ConnAct) (rest log : List Act) → NoCalls own → Each IsPlaced rest log
    → Each IsPlaced (map (On c) own ++ rest) log
placed_own c [] rest log calls h = h
placed_own c (CallTaken call ∷ own) rest log calls h = absurd calls
placed_own c (_ ∷ own) rest log calls h = (tt, placed_own c own rest log calls h)

placed_effect : (c : ℕ) (effect : Effect) (log : List Act) → AllPlaced log → NoCalls effect.own
    → Each IsPlaced (map OnDevice effect.adds) log → AllPlaced (acts_of c effect ++ log)
placed_effect c effect log all calls h =
    append_is_placed (acts_of c effect) log (placed_own c effect.own (map OnDevice effect.adds) log calls h) all

placed_happened : (adds : List InstrumentAct) (log : List Act) → AllPlaced log → AllPlaced (map OnDevice (map Applied adds) ++ log)
placed_happened [] log all = all
placed_happened (act ∷ adds) log all = (tt, placed_happened adds log all)

-- ---- a call that is executed

-- The connection has an unanswered call with these arguments.
abbrev IsPending : ℕ → Arguments → List Act → Type 0
IsPending c arguments log =
    (call : CoreCall) × (core_call_in (pending_call (of c log)) ≡ Some call) × (call.arguments ≡ arguments)

-- The call may be executed here: if it takes a free lock, it is its turn; if it frees its link's
-- lock, it may; and its connection owns the link that it names.
record MayPlace (c : ℕ) (arguments : Arguments) (log : List Act) : Type 0 where
  turn : takes_lock arguments ≡ true → holder (link_acts (device_acts log)) ≡ None → HasTurn log
  frees : (lid : ℕ) (call : LinkCall) → arguments ≡ OnLink (pos lid) call → can_free_lock arguments ≡ true → MayFree lid log
  suits : AllSuit (device_acts log)
  names : (lid : ℕ) → lid_of (link arguments) ≡ Some lid → owner lid (link_acts (device_acts log)) ≡ Some c
  pending : IsPending c arguments log

asked : (c lid : ℕ) (arguments : Arguments) (older : List Act) → IsPending c arguments older
    → owner lid (link_acts (device_acts older)) ≡ Some c → AsksForLock lid arguments → IsAsked lid older
asked c lid arguments older (call, known, is) owns asks = (c, call, owns, known, subst (AsksForLock lid) (sym is) asks)

-- Making a link leaves it a call's turn.
turn_kept_by_made : (c lid : ℕ) (log : List Act) → HasTurn log → HasTurn (OnDevice (Linked (Made lid c)) ∷ log)
turn_kept_by_made c lid log (inl nobody) = inl nobody
turn_kept_by_made c lid log (inr (d, made, before, is)) =
    inr (d, Made lid c ∷ made, before, ap (λ (l : List Act). OnDevice (Linked (Made lid c)) ∷ l) is)

-- The acts of the executed call may follow this log.
abbrev ArePlaced : Config → ℕ → ℕ → Arguments → List Act → Type 0
ArePlaced config polled c arguments log = Each IsPlaced (map OnDevice (own_call config polled c arguments (device_acts log)).adds) log

placed_done : (config : Config) (polled c : ℕ) (arguments : Arguments) (log : List Act) → MayPlace c arguments log
    → ArePlaced config polled c arguments log
placed_done config polled c (CreateLink client_id true lock_timeout device) log may = by (lids_left (link_acts (device_acts log))) refl
  where
    by : (b : Bool) → lids_left (link_acts (device_acts log)) ≡ b
        → ArePlaced config polled c (CreateLink client_id true lock_timeout device) log
    by true e =
        let lid = links_made (link_acts (device_acts log)) + 1 in
        let older = OnDevice (Linked (Made lid c)) ∷ log in
        let owns = made_link_owner c lid (device_acts log) may.suits refl in
        let asks = asked c lid (CreateLink client_id true lock_timeout device) older may.pending owns refl in
        rw e (((λ free. turn_kept_by_made c lid log (may.turn refl free)), asks), (tt, tt))
    by false e = rw e tt
placed_done config polled c (CreateLink client_id false lock_timeout device) log may =
    elim (cases_Bool (lids_left (link_acts (device_acts log)))) [ inl e ↦ rw e (tt, tt) | inr e ↦ rw e tt ]
placed_done config polled c (OnLink (pos n) (DeviceWrite io_timeout lock_timeout flags bytes)) log may =
    elim (cases_Bool (nat_lt max_message (length bytes))) [
      | inl e ↦ rw e tt
      | inr e ↦ elim (cases_Bool (has_ended (exchange_acts (device_acts log)))) [ inl k ↦ rw (e, k) tt | inr k ↦ rw (e, k) (tt, tt) ]
    ]
placed_done config polled c (OnLink (pos n) (DeviceRead request_size io_timeout lock_timeout flags term_char)) log may =
    let acts = device_acts log in
    elim (cases_Bool (is_answerable (instrument_acts acts))) [
      | inl k ↦ elim (cases_Bool (is_something (response (exchange_acts acts)))) [
        | inl e ↦ rw (k, e) (tt, tt)
        | inr e ↦ rw (k, e) (tt, (tt, tt))
      ]
      | inr k ↦ elim (cases_Bool (is_something (response (exchange_acts acts)))) [
        | inl e ↦ rw (k, e) (tt, tt)
        | inr e ↦ rw (k, e) tt
      ]
    ]
placed_done config polled c (OnLink (pos n) (Generic Readstb flags lock_timeout io_timeout)) log may = (tt, tt)
placed_done config polled c (OnLink (pos n) (Generic Trigger flags lock_timeout io_timeout)) log may = (tt, tt)
placed_done config polled c (OnLink (pos n) (Generic Clear flags lock_timeout io_timeout)) log may = (tt, tt)
placed_done config polled c (OnLink (pos n) (DeviceLock flags lock_timeout)) log may =
    elim (cases_Bool (is_locked_out (holder (link_acts (device_acts log))) (Some n))) [
      | inl e ↦ rw e tt
      | inr e ↦
          let asks = asked c n (OnLink (pos n) (DeviceLock flags lock_timeout)) log may.pending (may.names n refl) refl in
          rw e ((may.turn refl, asks), tt)
    ]
placed_done config polled c (OnLink (pos n) DeviceUnlock) log may =
    elim (cases_Bool (is_this n (holder (link_acts (device_acts log))))) [
      | inl e ↦ rw e (may.frees n DeviceUnlock refl refl, tt)
      | inr e ↦ rw e tt
    ]
placed_done config polled c (OnLink (pos n) (DeviceEnableSrq true handle)) log may =
    elim (cases_Bool (is_of c (owner n (link_acts (device_acts log))))) [
      | inl e ↦ elim (cases_Bool (nat_lt max_handle (length handle))) [ inl k ↦ rw (e, k) tt | inr k ↦ rw (e, k) (tt, tt) ]
      | inr e ↦ rw e tt
    ]
placed_done config polled c (OnLink (pos n) (DeviceEnableSrq false handle)) log may =
    elim (cases_Bool (is_of c (owner n (link_acts (device_acts log))))) [ inl e ↦ rw e (tt, tt) | inr e ↦ rw e tt ]
placed_done config polled c (OnLink (pos n) DestroyLink) log may = (may.frees n DestroyLink refl refl, tt)
placed_done config polled c DestroyIntrChan log may =
    elim (cases_Bool (has_channel c (device_acts log))) [ inl e ↦ rw e (tt, tt) | inr e ↦ rw e tt ]
placed_done config polled c _ log may = tt

-- ---- a suspended call ends or is suspended again

-- A call that leaves the queue may add the acts of its outcome.
placed_left : (c xid : ℕ) (outcome : CallOutcome) (log : List Act) → AllPlaced log
    → Each IsPlaced (map OnDevice outcome.adds) (OnDevice (Waited (Left c)) ∷ log)
    → AllPlaced (acts_of c (call_effect xid (leaving c outcome)) ++ log)
placed_left c xid outcome log all h = placed_effect c (call_effect xid (leaving c outcome)) log all (replies_no_calls xid outcome.result)
    (joined outcome.adds h)
  where
    joined : (adds : List DeviceAct) → Each IsPlaced (map OnDevice adds) (OnDevice (Waited (Left c)) ∷ log)
        → Each IsPlaced (map OnDevice (adds ++ Waited (Left c) ∷ [])) log
    joined adds h = subst (λ (l : List Act). Each IsPlaced l log) (sym (split adds))
        (each_join IsPlaced (map OnDevice adds) (OnDevice (Waited (Left c)) ∷ []) log h (tt, tt))
      where
        split : (adds : List DeviceAct)
            → map OnDevice (adds ++ Waited (Left c) ∷ []) ≡ map OnDevice adds ++ OnDevice (Waited (Left c)) ∷ []
        split [] = refl
        split (act ∷ adds) = ap (λ (l : List Act). OnDevice act ∷ l) (split adds)

-- A suspended call may fail with any error.
placed_failed : (error : ErrorCode) (c : ℕ) (call : Option CoreCall) (log : List Act) → AllPlaced log
    → AllPlaced (acts_of c (failure_effect error c call) ++ log)
placed_failed error c (Some call) log all = placed_left c call.xid (only (failure call.arguments error)) log all tt
placed_failed error c None log all = (tt, all)

-- ---- together with the invariant of suspended calls

pub record Placed (log : List Act) : Type 0 where
  pub sound : Sound log
  pub placed : AllPlaced log

-- A call that resumes may be executed, since no suspended call frees the lock of its link.
placed_resumed : (config : Config) (polled c : ℕ) (wait : Wait) (call : CoreCall) (next : Option (Wait × ℕ)) (log : List Act) → Fit log
    → Placed log → waits c (wait_acts (device_acts log)) ≡ Some wait → core_call_in (pending_call (of c log)) ≡ Some call
    → AllPlaced (acts_of c (call_effect call.xid (resume_outcome config polled c call.arguments next (device_acts log))) ++ log)
placed_resumed config polled c wait call (Some next) log fit so for known = (tt, so.placed)
placed_resumed config polled c wait call None log fit so for known =
    let acts = device_acts log in
    let left = OnDevice (Waited (Left c)) ∷ log in
    let told = so.sound.told c wait call for known in
    placed_left c call.xid (own_call config polled c call.arguments (device_acts left)) log so.placed
    (placed_done config polled c call.arguments left (record {
      turn = λ takes free. inr (c, [], log, refl);
      frees = λ lid one is goes. true_is_not_false (can_free_lock call.arguments) goes told.2;
      suits = (tt, fit.suits);
      names = λ lid is. named_link_is_live acts fit.suits so.sound.keeps c wait lid for (told.0 ∙ is);
      pending = (call, known, refl);
    }))

placed_step : (config : Config) → EachStepKeeps config Placed
placed_step config log new fit so next = record { sound = sound_step config log new fit so.sound next; placed = by next }
  where
    by : IsNext config log new → AllPlaced new
    by (inl (adds, such, is)) = subst AllPlaced (sym is) (placed_happened adds log so.placed)
    by (inr (none, inl (c, wait, polled, oldest, for, said, is))) =
        let known = (fit.held c wait for).1 in
        let call = known.0 in
        subst AllPlaced (sym is)
        (subst (λ (found : Option CoreCall). AllPlaced (acts_of c (resume_effect config polled c wait found (device_acts log)) ++ log))
        (sym known.1) (placed_resumed config polled c wait call (next_wait wait call.arguments (device_acts log)) log fit so for known.1))
    by (inr (none, inr (still, inl (adds, such, is)))) = subst AllPlaced (sym is) (placed_happened adds log so.placed)
    by (inr (none, inr (still, inr (idle, (c, wait, oldest, for, is))))) =
        subst AllPlaced (sym is) (placed_failed (late wait) c (core_call_in (pending_call (of c log))) log so.placed)

-- ---- a Turn

-- A call that is executed when it is taken may free its link's lock: its connection owns the link.
taken_frees : (c : ℕ) (bytes : List ℕ) (call : CoreCall) (log : List Act) → stop_of c call.arguments (device_acts log) ≡ None
    → core_call_in (Some bytes) ≡ Some call → (lid : ℕ) (one : LinkCall) → call.arguments ≡ OnLink (pos lid) one
    → can_free_lock call.arguments ≡ true → MayFree lid (On c (CallTaken bytes) ∷ log)
taken_frees c bytes call log e known lid one is goes d owns =
    let lives = unstopped_call_owns_link c (OnLink (pos lid) one) (device_acts log) lid
    (ap (λ (a : Arguments). stop_of c a (device_acts log)) (sym is) ∙ e) refl in
    let same : c ≡ d = some_injective c d (sym lives ∙ owns) in
    subst (λ (n : ℕ). (is_open (of n (On c (CallTaken bytes) ∷ log)) ≡ false) ⊎ ReleasesLock n lid (On c (CallTaken bytes) ∷ log)) same
    (inr (by one is (ap can_free_lock (sym is) ∙ goes)))
  where
    asks : (one : LinkCall) → call.arguments ≡ OnLink (pos lid) one
        → request_of Core (call_at bytes) ≡ CoreRequest (record { xid = call.xid; arguments = OnLink (pos lid) one })
    asks one is = is_core (request_of Core (call_at bytes)) call known
        ∙ ap (λ (a : Arguments). CoreRequest (record { xid = call.xid; arguments = a })) is

    by : (one : LinkCall) → call.arguments ≡ OnLink (pos lid) one → can_free_lock (OnLink (pos lid) one) ≡ true
        → ReleasesLock c lid (On c (CallTaken bytes) ∷ log)
    by DeviceUnlock is goes = (bytes, log, call.xid, refl, inl (asks DeviceUnlock is))
    by DestroyLink is goes = (bytes, log, call.xid, refl, inr (asks DestroyLink is))
    by _ is goes = absurd cc

placed_admitted : (config : Config) (polled c : ℕ) (bytes : List ℕ) (call : CoreCall) (stop : Option Stop) (log : List Act)
    → let taken = On c (CallTaken bytes) ∷ log in
    AllPlaced taken → AllSuit (device_acts log) → NoneWaitsForFreeLock (device_acts log) → core_call_in (Some bytes) ≡ Some call
    → stop_of c call.arguments (device_acts log) ≡ stop
    → AllPlaced (acts_of c (call_effect call.xid (admission config polled c call.arguments stop (device_acts log))) ++ taken)
placed_admitted config polled c bytes call None log all suits quiet known e =
    let taken = On c (CallTaken bytes) ∷ log in
    let outcome = own_call config polled c call.arguments (device_acts taken) in
    placed_effect c (call_effect call.xid outcome) taken all (replies_no_calls call.xid outcome.result)
    (placed_done config polled c call.arguments taken (record {
      turn = λ takes free. inl (λ d w. quiet d w free);
      frees = taken_frees c bytes call log e known;
      suits = suits;
      names = λ lid is. unstopped_call_owns_link c call.arguments (device_acts log) lid e is;
      pending = (
        call,
        ap (λ (l : List ConnAct). core_call_in (pending_call l)) (of_own_act c (CallTaken bytes) log) ∙ known,
        refl,
      );
    }))
placed_admitted config polled c bytes call (Some (Fails error)) log all suits quiet known e = (tt, all)
placed_admitted config polled c bytes call (Some (Awaits wait until)) log all suits quiet known e = ((bytes, log, refl), all)

placed_request : (config : Config) (polled c : ℕ) (bytes : List ℕ) (request : Request) (log : List Act) → Fit log → AllPlaced log
    → NoneWaitsForFreeLock (device_acts log) → next_call (of c log) ≡ Some bytes → next_request (of c log) ≡ Some request
    → AllPlaced (acts_of c (request_effect config polled c request (device_acts log)) ++ On c (CallTaken bytes) ∷ log)
placed_request config polled c bytes (CoreRequest call) log fit all quiet next asks =
    placed_admitted config polled c bytes call (stop_of c call.arguments (device_acts log)) log
    (next_call_means_none_suspended c log bytes fit next, all)
    fit.suits quiet (core_call_is_on_core_role (of c log) bytes call next asks).1 refl
placed_request config polled c bytes _ log fit all quiet next asks = (tt, (next_call_means_none_suspended c log bytes fit next, all))

placed_turn : (config : Config) (polled c : ℕ) (found : Option (List ℕ)) (asked : Option Request) (log : List Act) → Fit log
    → AllPlaced log → NoneWaitsForFreeLock (device_acts log) → next_call (of c log) ≡ found → next_request (of c log) ≡ asked
    → AllPlaced (turn_acts config polled c found asked log ++ log)
placed_turn config polled c (Some bytes) (Some request) log fit all quiet next asks =
    let effect = request_effect config polled c request (device_acts log) in
    subst AllPlaced (sym (turn_acts_in_order c bytes effect (aborts request (device_acts log)) log))
    (by (aborts request (device_acts log)) (acts_of c effect ++ On c (CallTaken bytes) ∷ log)
    (placed_request config polled c bytes request log fit all quiet next asks))
  where
    by : (found : Option ℕ) (log : List Act) → AllPlaced log → AllPlaced (abort_acts found log ++ log)
    by (Some d) log all = placed_failed _ d (core_call_in (pending_call (of d log))) log all
    by None log all = all
placed_turn config polled c _ _ log fit all quiet next asks = all

-- ---- a connection closes

-- After these acts each link has the owner that it had before, or none.
abbrev OwnersOnlyRemoved : List LinkAct → List Act → Type 0
OwnersOnlyRemoved behind base =
    (n d : ℕ) → owner n (behind ++ link_acts (device_acts base)) ≡ Some d → owner n (link_acts (device_acts base)) ≡ Some d

-- The links of the connection are destroyed one by one.
placed_links : (c : ℕ) (ns : List ℕ) (behind : List LinkAct) (base : List Act) → is_open (of c base) ≡ false
    → AllByRecursion (λ n. owner n (link_acts (device_acts base)) ≡ Some c) ns → OwnersOnlyRemoved behind base
    → AllPlaced (map OnDevice (map Linked behind ++ Waited (Left c) ∷ []) ++ base)
    → AllPlaced (map OnDevice (map Linked (reverse_aux (map Destroyed ns) behind) ++ Waited (Left c) ∷ []) ++ base)
placed_links c [] behind base shut own less all = all
placed_links c (n ∷ ns) behind base shut own less all =
    placed_links c ns (Destroyed n ∷ behind) base shut own.1
    (λ m d is. less m d (owner_before_destroy m d n (behind ++ link_acts (device_acts base)) is).1) (
      (λ d owns.
          let adds = map Linked behind ++ Waited (Left c) ∷ [] in
          let links : link_acts (device_acts (map OnDevice adds ++ base)) ≡ behind ++ link_acts (device_acts base) =
          ap link_acts (device_acts_append adds base ∙ append_assoc (map Linked behind) (Waited (Left c) ∷ []) (device_acts base))
          ∙ link_acts_links behind (Waited (Left c) ∷ device_acts base) in
          let same : c ≡ d = some_injective c d (sym own.0 ∙ less n d (ap (owner n) (sym links) ∙ owns)) in
          inl (ap is_open (of_device_acts d adds base) ∙ ap (λ (m : ℕ). is_open (of m base)) (sym same) ∙ shut)),
      all,
    )

placed_close : (c : ℕ) (log : List Act) → Fit log → AllPlaced log
    → AllPlaced (map OnDevice (close_acts c (device_acts log)) ++ On c PortClosed ∷ log)
placed_close c log fit all =
    let base = On c PortClosed ∷ log in
    let acts = link_acts (device_acts log) in
    let shut : is_open (of c base) ≡ false = ap is_open (of_own_act c PortClosed log) in (
      tt,
      placed_links c (links_of c acts) [] base shut (closed_links_are_own c _ acts (link_numbers_rise (device_acts log) fit.suits))
          (λ n d is. is)
          (tt, (tt, all)),
    )

-- ---- an event

placed_dialed : (c : ℕ) (ok : Bool) (call : CoreCall) (peer : Option Peer) (log : List Act) → AllPlaced log
    → AllPlaced (acts_of c (call_effect call.xid (leaving c (connect_outcome_for c ok call.arguments peer))) ++ log)
placed_dialed c true call (Some peer) log all = placed_left c call.xid (connect_outcome_for c true call.arguments (Some peer)) log all
    (tt, tt)
placed_dialed c false call (Some peer) log all = placed_left c call.xid (connect_outcome_for c false call.arguments (Some peer)) log all tt
placed_dialed c ok call None log all = placed_left c call.xid (connect_outcome_for c ok call.arguments None) log all tt

placed_event : (config : Config) → EventsKeep config Placed
placed_event config history event polled channel_log log was free fit so =
    record { sound = sound_event config history event polled channel_log log was free fit so.sound; placed = by event }
  where
    all : AllPlaced log
    all = so.placed

    by : (event : PlainEvent) → AllPlaced (own_acts config polled event log ++ log)
    by (Turn c) = placed_turn config polled c (next_call (of c log)) (next_request (of c log)) log fit all
        (no_wait_for_free_lock config history log was) refl refl
    by (Refuse c) = refuse_keeps AllPlaced c (next_call (of c log)) (refusable (of c log)) log all
        (λ bytes call next can. (tt, (next_call_means_none_suspended c log bytes fit next, all)))
    by (Took (Conn c) count) = (tt, all)
    by (Close (Conn c)) =
        subst AllPlaced (sym (append_assoc (map OnDevice (close_acts c (device_acts log))) (On c PortClosed ∷ []) log))
        (placed_close c log fit all)
    by (Dialed c ok) = called c ok (core_call_in (pending_call (of c log)))
      where
        called : (c : ℕ) (ok : Bool) (call : Option CoreCall)
            → AllPlaced (acts_of c (effect_of c (λ arguments. leaving c (connect_outcome c ok arguments)) call) ++ log)
        called c ok (Some call) = rw (connect_outcome_by_peer c ok call.arguments)
            (placed_dialed c ok call (peer_named_by call.arguments) log all)
        called c ok None = (tt, all)
    by External = placed_happened (external_acts (instrument_acts (device_acts log))) log all
    by Tick =
        let adds = tick_acts (instrument_acts (device_acts log)) in
        subst AllPlaced (sym (append_assoc (map OnDevice (map Applied adds)) (OnDevice Ticked ∷ []) log))
        (placed_happened adds (OnDevice Ticked ∷ log) (tt, all))
    by _ = (tt, all)

pub placed_log : (config : Config) (history : List PlainEvent) (log : List Act) → IsLogOf config history log → Placed log
placed_log config = each_place config Placed (record { sound = sound_none; placed = tt }) (placed_event config) (placed_step config)
