-- If memory is lacking for the event Turn, then the event Refuse is possible.
use Rattle.std.proofs.Common.{◌≡◌, ℕ, Bool, true, false, cond, eqb, List, [], ◌∷◌, ◌++◌, Option, Some, None, nat_lt, refl, sym, ap, subst, ◌∙◌, inl, inr, append-nil}
use Rattle.std.specs.Prelude.{not, is_none, option_map, ◌&&◌}
use Rattle.std.proofs.lemmas.Bool.{cases_Bool}
use Rattle.sv_logs.proofs.Each.{Each}
use Rattle.sv_vxi.specs.declared.error_code.ErrorCode.TheVariants.{Abort, InvalidLink, ParameterError, Locked as DeviceLocked}
use Rattle.sv_vxi.specs.declared.arguments.LockWait.{LockWait}
use Rattle.sv_vxi.specs.Arguments.{LinkCall, DeviceWrite, DeviceRead, Arguments, CreateLink, OnLink, link, lock_wait, is_create_link}
use Rattle.sv_links.specs.declared.waiting.Wait.{Wait}
use Rattle.sv_links.specs.declared.waiting.Wait.TheVariants.{Lock, Input as ForInput, Response}
use Rattle.sv_links.specs.Links.{Made, links_made}
use Rattle.sv_links.specs.Waiting.{WaitAct, Entered, Left, is_lock, is_creating, creating, connections}
use Rattle.sv_exchange.specs.Exchange.{has_ended}
use Rattle.sv_instrument.specs.Step.{is_answerable}
use Rattle.sv_history.specs.declared.event.Config.{Config}
use Rattle.sv_history.specs.declared.event.Refused.TheVariants.{NoConn, NoRoom, NotRefusable}
use Rattle.sv_history.specs.Event.{Refuse}
use Rattle.sv_history.specs.Act.{Act, DeviceAct, CallTaken, Replied, Linked, Waited, On, of, device_acts, link_acts, wait_acts, instrument_acts, exchange_acts}
use Rattle.sv_history.specs.Connection.{next_call, is_idle, free, pending_call}
use Rattle.sv_history.specs.Limits.{longest_reply}
use Rattle.sv_history.specs.CoreCall.{CoreCall, lid_of, is_too_long}
use Rattle.sv_history.specs.CoreChannel.{owns, own_call}
use Rattle.sv_history.specs.Request.{Request, CoreRequest, AbortRequest, core_call_in, next_request}
use Rattle.sv_history.specs.Effect.{Effect, acts_of}
use Rattle.sv_history.specs.Interrupts.{is_dial, is_dialing, dialing}
use Rattle.sv_history.specs.Admission.{Stop, Fails, Awaits, lock_stop, device_wait, call_stop, deadline, stop_of, admission}
use Rattle.sv_history.specs.Execution.{request_effect, aborts}
use Rattle.sv_history.specs.Refusing.{takes_memory, refusable_call, refusable}
use Rattle.sv_history.specs.Resuming.{failure_effect}
use Rattle.sv_history.specs.History.{taken_acts, turn_acts, refuse_acts, is_shut, wants_memory}
use Rattle.sv_laws.proofs.Brought.{CanBeRefused}
use Rattle.sv_history.proofs.Projections.{device_effect}
use Rattle.sv_laws.proofs.EveryLog.Done.{IsActOfCall, each_act_is_of_call}
use Rattle.sv_laws.proofs.Facts.{true_is_not_false}
use Rattle.sv_laws.proofs.NothingLost.{done_if_not_refused, filter_false_is_empty, leaving_needs_no_memory}

-- ---- a call that is executed

done_makes_no_link : (c : ℕ) (arguments : Arguments) (adds acts : List DeviceAct) → is_create_link arguments ≡ false
    → Each (IsActOfCall c arguments) adds acts → (links_made (link_acts adds) ≡ 0) × (wait_acts adds ≡ [])
done_makes_no_link c arguments [] acts other h = (refl, refl)
done_makes_no_link c arguments (Linked (Made lid conn) ∷ adds) acts other h = true_is_not_false (is_create_link arguments) h.0.2 other
done_makes_no_link c arguments (Waited act ∷ adds) acts other h = absurd h.0
done_makes_no_link c arguments (_ ∷ adds) acts other h = done_makes_no_link c arguments adds acts other h.1

creates_not : (arguments : Arguments) → takes_memory arguments ≡ false → is_create_link arguments ≡ false
creates_not (CreateLink client_id lock_device lock_timeout device) e = absurd cc
creates_not _ e = refl

-- ---- a call that is suspended

-- The call waits neither for its peer nor, without naming a link, for the lock. So the server needs
-- no memory to suspend it: it is no create_intr_chan and no create_link.
abbrev NeedsNoMemory : Wait → Option ℕ → Type 0
NeedsNoMemory wait named = (is_dial (Some wait) ≡ false) × ((is_lock (Some wait) && is_none named) ≡ false)

device_wait_needs_no_memory : (call : LinkCall) (acts : List DeviceAct) (wait : Wait) (until named : Option ℕ)
    → option_map (λ (wait : Wait × ℕ). Awaits wait.0 (Some wait.1)) (device_wait call acts) ≡ Some (Awaits wait until)
    → NeedsNoMemory wait named
device_wait_needs_no_memory (DeviceWrite io_timeout lock_timeout flags bytes) acts wait until named e =
    by (has_ended (exchange_acts acts)) wait e
  where
    by : (b : Bool) (wait : Wait)
        → option_map (λ (wait : Wait × ℕ). Awaits wait.0 (Some wait.1)) (cond b (Some (ForInput, io_timeout)) None)
        ≡ Some (Awaits wait until) → NeedsNoMemory wait named
    by true ForInput e = (refl, refl)
    by _ _ e = absurd cc
device_wait_needs_no_memory (DeviceRead request_size io_timeout lock_timeout flags term_char) acts wait until named e =
    by (is_answerable (instrument_acts acts)) wait e
  where
    by : (b : Bool) (wait : Wait)
        → option_map (λ (wait : Wait × ℕ). Awaits wait.0 (Some wait.1)) (cond b None (Some (Response, io_timeout)))
        ≡ Some (Awaits wait until) → NeedsNoMemory wait named
    by false Response e = (refl, refl)
    by _ _ e = absurd cc
device_wait_needs_no_memory _ acts wait until named e = absurd cc

-- If a connection owns the link that a call names, the call names a link.
own_link_is_named : (c : ℕ) (named : Option ℕ) (acts : List DeviceAct) → owns c named acts ≡ true → is_none named ≡ false
own_link_is_named c (Some n) acts e = refl
own_link_is_named c None acts e = absurd cc

lock_wait_needs_no_memory : (found : Option LockWait) (wait : Wait) (until named : Option ℕ) → is_none named ≡ false
    → option_map lock_stop found ≡ Some (Awaits wait until) → NeedsNoMemory wait named
lock_wait_needs_no_memory (Some one) wait until named some e = by one.waits wait e
  where
    by : (b : Bool) (wait : Wait) → Some (cond b (Awaits Lock (Some one.timeout)) (Fails DeviceLocked)) ≡ Some (Awaits wait until)
        → NeedsNoMemory wait named
    by true Lock e = (refl, some)
    by _ _ e = absurd cc
lock_wait_needs_no_memory None wait until named some e = absurd cc

call_wait_needs_no_memory : (c : ℕ) (named : Option ℕ) (call : LinkCall) (acts : List DeviceAct) (wait : Wait) (until : Option ℕ)
    → call_stop c named call acts ≡ Some (Awaits wait until) → NeedsNoMemory wait named
call_wait_needs_no_memory c named call acts wait until e = by (owns c named acts) (is_too_long call) _ refl e
  where
    by : (own long out : Bool) → owns c named acts ≡ own
        → cond (not own) (Some (Fails InvalidLink)) (cond long (Some (Fails ParameterError))
        (cond out (option_map lock_stop (lock_wait call))
        (option_map (λ (wait : Wait × ℕ). Awaits wait.0 (Some wait.1)) (device_wait call acts))))
        ≡ Some (Awaits wait until) → NeedsNoMemory wait named
    by false long out o e = absurd cc
    by true true out o e = absurd cc
    by true false true o e = lock_wait_needs_no_memory (lock_wait call) wait until named (own_link_is_named c named acts o) e
    by true false false o e = device_wait_needs_no_memory call acts wait until named e

wait_needs_no_memory : (c : ℕ) (arguments : Arguments) (acts : List DeviceAct) (wait : Wait) (until : Option ℕ)
    → takes_memory arguments ≡ false → stop_of c arguments acts ≡ Some (Awaits wait until) → NeedsNoMemory wait (lid_of (link arguments))
wait_needs_no_memory c (OnLink lid call) acts wait until small e = call_wait_needs_no_memory c (lid_of (Some lid)) call acts wait until e
wait_needs_no_memory c _ acts wait until small e = absurd cc

entered_creates : (c d : ℕ) (named : Option ℕ) (wait : Wait) (last : Option ℕ) → (is_lock (Some wait) && is_none named) ≡ false
    → is_creating (Entered c named wait last ∷ []) d ≡ false
entered_creates c d named wait last h = elim (cases_Bool (eqb c d)) [ inl e ↦ rw e h | inr e ↦ rw e refl ]

entered_dials : (c d : ℕ) (named : Option ℕ) (wait : Wait) (last : Option ℕ) → is_dial (Some wait) ≡ false
    → is_dialing d (Entered c named wait last ∷ []) ≡ false
entered_dials c d named wait last h = elim (cases_Bool (eqb c d)) [ inl e ↦ rw e h | inr e ↦ rw e refl ]

wants_no_memory_by_parts : (acts : List DeviceAct) (calls : List WaitAct) → links_made (link_acts acts) ≡ 0 → wait_acts acts ≡ calls
    → creating calls ≡ 0 → dialing calls ≡ 0 → wants_memory acts ≡ false
wants_no_memory_by_parts acts calls no_link is none nobody =
    let a : creating (wait_acts acts) ≡ 0 = ap creating is ∙ none in
    let b : dialing (wait_acts acts) ≡ 0 = ap dialing is ∙ nobody in rw (no_link, a, b) refl

entered_wants_no_memory : (c : ℕ) (named : Option ℕ) (wait : Wait) (last : Option ℕ) → NeedsNoMemory wait named
    → wants_memory (Waited (Entered c named wait last) ∷ []) ≡ false
entered_wants_no_memory c named wait last h =
    let none : creating (Entered c named wait last ∷ []) ≡ 0 =
    filter_false_is_empty (is_creating (Entered c named wait last ∷ [])) connections (λ d. entered_creates c d named wait last h.1) in
    let nobody : dialing (Entered c named wait last ∷ []) ≡ 0 =
    filter_false_is_empty (λ d. is_dialing d (Entered c named wait last ∷ [])) connections (λ d. entered_dials c d named wait last h.0) in
    wants_no_memory_by_parts (Waited (Entered c named wait last) ∷ []) (Entered c named wait last ∷ []) refl refl none nobody

-- ---- a call that allocates no memory

none_made : (adds : List DeviceAct) → links_made (link_acts adds) ≡ 0 → wait_acts adds ≡ [] → wants_memory adds ≡ false
none_made adds none still = wants_no_memory_by_parts adds [] none still refl refl

admission_wants_no_memory : (config : Config) (polled c : ℕ) (arguments : Arguments) (stop : Option Stop) (acts : List DeviceAct)
    → takes_memory arguments ≡ false → stop_of c arguments acts ≡ stop
    → wants_memory (admission config polled c arguments stop acts).adds ≡ false
admission_wants_no_memory config polled c arguments None acts small e =
    let none = done_makes_no_link c arguments (own_call config polled c arguments acts).adds acts (creates_not arguments small)
    (each_act_is_of_call config polled c arguments acts) in
    none_made (own_call config polled c arguments acts).adds none.0 none.1
admission_wants_no_memory config polled c arguments (Some (Fails error)) acts small e = refl
admission_wants_no_memory config polled c arguments (Some (Awaits wait until)) acts small e =
    entered_wants_no_memory c (lid_of (link arguments)) wait (deadline config until acts)
    (wait_needs_no_memory c arguments acts wait until small e)

-- A record that aborts no call adds only its own effect to the acts of the device.
taken_adds : (c : ℕ) (bytes : List ℕ) (effect : Effect) (log : List Act) → device_acts (taken_acts c bytes effect None log) ≡ effect.adds
taken_adds c bytes effect log = device_effect c effect (On c (CallTaken bytes) ∷ []) ∙ append-nil effect.adds

abort_adds : (c d : ℕ) (bytes own : List ℕ) (log : List Act)
    → wants_memory (device_acts (taken_acts c bytes (record { own = Replied own ∷ []; adds = [] }) (Some d) log)) ≡ false
abort_adds c d bytes own log = by (core_call_in (pending_call (of d (On c (Replied own) ∷ On c (CallTaken bytes) ∷ log))))
  where
    by : (call : Option CoreCall)
        → wants_memory (device_acts (acts_of d (failure_effect Abort d call) ++ (On c (Replied own) ∷ On c (CallTaken bytes) ∷ []))) ≡ false
    by (Some call) = leaving_needs_no_memory d (Waited (Left d) ∷ []) refl refl
    by None = leaving_needs_no_memory d (Waited (Left d) ∷ []) refl refl

abort_wants_no_memory : (c : ℕ) (bytes own : List ℕ) (found : Option ℕ) (log : List Act)
    → wants_memory (device_acts (taken_acts c bytes (record { own = Replied own ∷ []; adds = [] }) found log)) ≡ false
abort_wants_no_memory c bytes own (Some d) log = abort_adds c d bytes own log
abort_wants_no_memory c bytes own None log = refl

unrefusable_takes_no_memory : (arguments : Arguments) (call : CoreCall) → cond (takes_memory arguments) (Some call) None ≡ None
    → takes_memory arguments ≡ false
unrefusable_takes_no_memory arguments call e = by (takes_memory arguments) e
  where
    by : (b : Bool) → cond b (Some call) None ≡ None → b ≡ false
    by true e = absurd cc
    by false e = refl

request_wants_no_memory : (config : Config) (polled c : ℕ) (bytes : List ℕ) (request : Request) (log : List Act)
    → refusable_call (Some request) ≡ None
    → wants_memory (device_acts (taken_acts c bytes (request_effect config polled c request (device_acts log))
    (aborts request (device_acts log)) log)) ≡ false
request_wants_no_memory config polled c bytes (AbortRequest xid lid) log e =
    abort_wants_no_memory c bytes _ (aborts (AbortRequest xid lid) (device_acts log)) log
request_wants_no_memory config polled c bytes (CoreRequest call) log e =
    subst (λ (adds : List DeviceAct). wants_memory adds ≡ false)
    (sym (taken_adds c bytes (request_effect config polled c (CoreRequest call) (device_acts log)) log))
    (admission_wants_no_memory config polled c call.arguments (stop_of c call.arguments (device_acts log)) (device_acts log)
    (unrefusable_takes_no_memory call.arguments call e) refl)
request_wants_no_memory config polled c bytes _ log e = refl

-- ---- a call that allocates memory can be refused

turn_refusable : (config : Config) (polled c : ℕ) (found : Option (List ℕ)) (request : Option Request) (log : List Act)
    → wants_memory (device_acts (turn_acts config polled c found request log)) ≡ true
    → (is_none found ≡ false) × (is_none (refusable_call request) ≡ false)
turn_refusable config polled c (Some bytes) (Some request) log h = (refl, by (refusable_call (Some request)) refl)
  where
    by : (call : Option CoreCall) → refusable_call (Some request) ≡ call → is_none call ≡ false
    by (Some call) e = refl
    by None e = true_is_not_false _ h (request_wants_no_memory config polled c bytes request log e)
turn_refusable config polled c _ _ log h = absurd cc

refuse_is_not_refused : (shut idle few none : Bool) → cond shut (Some NoConn) (cond idle None (cond few (Some NoRoom) None)) ≡ None
    → idle ≡ false → none ≡ false → cond shut (Some NoConn) (cond none (Some NotRefusable) (cond few (Some NoRoom) None)) ≡ None
refuse_is_not_refused false false few false h busy some = h
refuse_is_not_refused _ _ few _ h busy some = absurd cc

refuse_wants_no_memory : (c : ℕ) (found : Option (List ℕ)) (call : Option CoreCall)
    → wants_memory (device_acts (refuse_acts c found call)) ≡ false
refuse_wants_no_memory c (Some bytes) (Some call) = refl
refuse_wants_no_memory c (Some bytes) None = refl
refuse_wants_no_memory c None (Some call) = refl
refuse_wants_no_memory c None None = refl

pub can_be_refused : CanBeRefused
can_be_refused config history c log result was (channel_log, hears, (open_so, polled, said, wants)) (also, hears_also, h) =
    let can = turn_refusable config polled c (next_call (of c log)) (next_request (of c log)) log wants in
    done_if_not_refused config also (Refuse c) log result
    (refuse_is_not_refused (is_shut c log) (is_idle (of c log)) (nat_lt (free (of c log)) longest_reply) (is_none (refusable (of c log)))
    open_so can.0 can.1) refl
    (λ polled. refuse_wants_no_memory c (next_call (of c log)) (refusable (of c log))) h
