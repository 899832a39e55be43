-- An invariant of logs: each act of the device satisfies `Keeps`, and each suspended call fits its
-- arguments. Calls that resume or fail keep it.
use Rattle.std.proofs.Common.{◌≡◌, ◌≢◌, ℕ, ◌+◌, Bool, true, false, cond, eqb, List, [], ◌∷◌, ◌++◌, length, nat_lt, Option, Some, None, refl, sym, ap, subst, ◌∙◌, inl, inr, ◌⊎◌, eq-eqb, append_assoc, arith}
use Rattle.std.specs.Prelude.{map, pos, option_map, find}
use Rattle.std.proofs.lemmas.Bool.{cases_Bool, not-true}
use Rattle.sv_logs.proofs.Each.{Each, each_join}
use Rattle.sv_vxi.specs.declared.error_code.ErrorCode.{ErrorCode}
use Rattle.sv_vxi.specs.declared.arguments.GenericCall.TheVariants.{Readstb, Trigger, Clear}
use Rattle.sv_vxi.specs.Arguments.{DeviceWrite, DeviceRead, Generic, DeviceLock, DeviceUnlock, DeviceEnableSrq, DestroyLink, Arguments, CreateLink, OnLink, DestroyIntrChan, link, max_handle}
use Rattle.sv_links.specs.declared.links.Link.{Link}
use Rattle.sv_links.specs.declared.waiting.Wait.{Wait}
use Rattle.sv_links.specs.declared.waiting.Wait.TheVariants.{Lock, Input as ForInput, Response, Dial}
use Rattle.sv_links.specs.Links.{Made, links_made, live, owner, is_of, holder, is_this, is_locked_out, lids_left}
use Rattle.sv_links.specs.Waiting.{WaitAct, Again, Left, waits, IsOldest, link as named_link}
use Rattle.sv_exchange.specs.Exchange.{has_ended, response, is_something}
use Rattle.sv_exchange.specs.Limits.{max_message}
use Rattle.sv_layers.specs.Act.{Act as InstrumentAct}
use Rattle.sv_instrument.specs.Step.{is_answerable}
use Rattle.sv_history.specs.declared.event.Config.{Config}
use Rattle.sv_history.specs.Act.{Act, ConnAct, DeviceAct, Linked, Waited, Applied, OnDevice, of, device_acts, link_acts, wait_acts, instrument_acts, exchange_acts}
use Rattle.sv_history.specs.Connection.{pending_call}
use Rattle.sv_history.specs.CallOutcome.{CallOutcome, only}
use Rattle.sv_history.specs.CoreCall.{CoreCall, lid_of, failure}
use Rattle.sv_history.specs.CoreChannel.{owns, own_call}
use Rattle.sv_history.specs.Effect.{Effect, acts_of, call_effect}
use Rattle.sv_history.specs.Interrupts.{has_channel}
use Rattle.sv_history.specs.Request.{core_call_in}
use Rattle.sv_history.specs.Resuming.{effect_of, leaving, next_wait, resume_outcome, resume_effect, failure_effect}
use Rattle.sv_history.specs.Settling.{CanResume}
use Rattle.sv_history.proofs.Projections.{of_device_acts, device_acts_append, device_effect, wait_acts_applied}
use Rattle.sv_laws.specs.LockFair.{WaitsForLock}
use Rattle.sv_laws.proofs.Facts.{some_injective, none_is_not_some}
use Rattle.sv_laws.proofs.CallsAlike.{SameCall, connection_of, foreign_act_keeps_call, same_call_refl}
use Rattle.sv_laws.proofs.EveryLog.Done.{each_act_is_of_call}
use Rattle.sv_laws.proofs.EveryLog.Fit.{AllSuit, Fit, each_after_effect}
use Rattle.sv_laws.proofs.EveryLog.Known.{live_number_was_made}
use Rattle.sv_laws.proofs.EveryLog.EachEvent.{call_acts_suspend_none, left_is_not_suspended}
use Rattle.sv_laws.proofs.EveryLog.Keeps.{IsEarliest, MayTake, Keeps, AllKeep, NamesNone, keep_append, named_link_is_live, not_locked_out_names_holder, lock_is_free}

-- ---- a suspended call fits its arguments

-- Whether a call can take the lock: create_link and device_lock.
abbrev pub takes_lock : Arguments → Bool
takes_lock (CreateLink client_id lock_device lock_timeout device) = true
takes_lock (OnLink lid (DeviceLock flags lock_timeout)) = true
takes_lock _ = false

-- Whether a call can free the lock of its link: device_unlock and destroy_link.
abbrev pub can_free_lock : Arguments → Bool
can_free_lock (OnLink lid DeviceUnlock) = true
can_free_lock (OnLink lid DestroyLink) = true
can_free_lock _ = false

-- A suspended call has the link of its arguments, waits for the lock if it can take the lock, and
-- can't free the lock of its link.
abbrev pub FitsArguments : ℕ → List ConnAct → List WaitAct → Type 0
FitsArguments c own acts = (wait : Wait) (call : CoreCall) → waits c acts ≡ Some wait → core_call_in (pending_call own) ≡ Some call
    → (named_link c acts ≡ lid_of (link call.arguments)) × (takes_lock call.arguments ≡ true → wait ≡ Lock)
    × (can_free_lock call.arguments ≡ false)

pub record Sound (log : List Act) : Type 0 where
  pub keeps : AllKeep (device_acts log)
  pub told : (c : ℕ) → FitsArguments c (of c log) (wait_acts (device_acts log))

pub fits_if_not_suspended : (c : ℕ) (own : List ConnAct) (acts : List WaitAct) → waits c acts ≡ None → FitsArguments c own acts
fits_if_not_suspended c own acts none = λ wait call is busy. none_is_not_some (waits c acts) wait none is

pub fits_without_call : (c : ℕ) (own : List ConnAct) (acts : List WaitAct) → pending_call own ≡ None → FitsArguments c own acts
fits_without_call c own acts none = λ wait call is busy. none_is_not_some (core_call_in (pending_call own)) call (ap core_call_in none) busy

pub fits_same_wait : (c : ℕ) (own now : List ConnAct) (acts after : List WaitAct) → pending_call now ≡ pending_call own
    → SameCall c after acts → FitsArguments c own acts → FitsArguments c now after
fits_same_wait c own now acts after pending same told = λ wait call is busy.
    let was = told wait call (sym same.wait ∙ is) (ap core_call_in (sym pending) ∙ busy) in (same.named ∙ was.0, was.1, was.2)

pub same_call_other_conn : (c d : ℕ) (act : WaitAct) (acts : List WaitAct) → connection_of act ≡ c → d ≢ c → SameCall d (act ∷ acts) acts
same_call_other_conn c d act acts is ne = foreign_act_keeps_call d act acts acts (λ e. ne (sym e ∙ is)) (same_call_refl d acts)

-- ---- acts of one connection and acts of the device

pub sound_effect : (c : ℕ) (effect : Effect) (log : List Act) → Sound log → Each Keeps effect.adds (device_acts log)
    → ((d : ℕ) → d ≢ c → SameCall d (wait_acts (effect.adds ++ device_acts log)) (wait_acts (device_acts log)))
    → FitsArguments c (effect.own ++ of c log) (wait_acts (effect.adds ++ device_acts log)) → Sound (acts_of c effect ++ log)
sound_effect c effect log so keep others mine =
    let acts = device_effect c effect log in
    record {
      keeps = subst AllKeep (sym acts) (keep_append effect.adds (device_acts log) keep so.keeps);
      told = λ d. subst (λ (l : List DeviceAct). FitsArguments d (of d (acts_of c effect ++ log)) (wait_acts l)) (sym acts)
          (each_after_effect (λ d own. FitsArguments d own (wait_acts (effect.adds ++ device_acts log))) c effect log mine (λ d ne.
          fits_same_wait d (of d log) (of d log) (wait_acts (device_acts log)) (wait_acts (effect.adds ++ device_acts log)) refl
          (others d ne) (so.told d)) d);
    }

pub sound_shared : (adds : List DeviceAct) (log : List Act) → Sound log → Each Keeps adds (device_acts log)
    → wait_acts (adds ++ device_acts log) ≡ wait_acts (device_acts log) → Sound (map OnDevice adds ++ log)
sound_shared adds log so keep same = record {
  keeps = subst AllKeep (sym (device_acts_append adds log)) (keep_append adds (device_acts log) keep so.keeps);
  told = λ d. rw (device_acts_append adds log, same, of_device_acts d adds log) (so.told d);
}

keep_happened : (adds : List InstrumentAct) (acts : List DeviceAct) → Each Keeps (map Applied adds) acts
keep_happened [] acts = tt
keep_happened (act ∷ adds) acts = (tt, keep_happened adds acts)

pub sound_happened : (adds : List InstrumentAct) (log : List Act) → Sound log → Sound (map OnDevice (map Applied adds) ++ log)
sound_happened adds log so =
    sound_shared (map Applied adds) log so (keep_happened adds (device_acts log)) (wait_acts_applied adds (device_acts log))

-- ---- the acts of a call that is executed

-- Whether the call is a create_link that asks for the lock.
abbrev pub asks_lock : Arguments → Bool
asks_lock (CreateLink client_id lock_device lock_timeout device) = lock_device
asks_lock _ = false

-- No call waits for the lock; or by the newest act this connection's call, which was suspended
-- first, stops waiting for it.
abbrev pub IsTurn : ℕ → List DeviceAct → Type 0
IsTurn c acts = ((d : ℕ) → WaitsForLock acts d → ⊥)
    ⊎ ((before : List DeviceAct) × (acts ≡ Waited (Left c) ∷ before) × IsEarliest c before)

pub record MayDo (c : ℕ) (arguments : Arguments) (acts : List DeviceAct) : Type 0 where
  pub suits : AllSuit acts
  pub keeps : AllKeep acts
  pub idle : waits c (wait_acts acts) ≡ None
  pub names : (n : ℕ) → lid_of (link arguments) ≡ Some n → owner n (link_acts acts) ≡ Some c
  pub asks : asks_lock arguments ≡ true → holder (link_acts acts) ≡ None
  pub turn : takes_lock arguments ≡ true → holder (link_acts acts) ≡ None → IsTurn c acts

pushed_new : (n c : ℕ) (xs : List Link) → option_map (λ link. link.conn) (find (λ link. eqb link.lid n) xs) ≡ None
    → option_map (λ link. link.conn) (find (λ link. eqb link.lid n) (xs ++ record { lid = n; conn = c } ∷ [])) ≡ Some c
pushed_new n c [] h = rw (eq-eqb n n refl) refl
pushed_new n c (x ∷ xs) h = elim (cases_Bool (eqb x.lid n)) [
  | inl e ↦ absurd (let z : Some x.conn ≡ None = rw e at h in cc)
  | inr e ↦ rw e (pushed_new n c xs (rw e at h))
]

pub made_link_owner : (c lid : ℕ) (acts : List DeviceAct) → AllSuit acts → lid ≡ links_made (link_acts acts) + 1
    → owner lid (Made lid c ∷ link_acts acts) ≡ Some c
made_link_owner c lid acts all next = pushed_new lid c (live (link_acts acts)) (by (owner lid (link_acts acts)) refl)
  where
    by : (found : Option ℕ) → owner lid (link_acts acts) ≡ found → owner lid (link_acts acts) ≡ None
    by None is = is
    by (Some d) is = let le = live_number_was_made lid d acts all is in absurd (omega (arith, le, next))

may_get : (c lid : ℕ) (acts : List DeviceAct) → owner lid (link_acts acts) ≡ Some c → holder (link_acts acts) ≡ None → IsTurn c acts
    → MayTake lid acts
may_get c lid acts owns free (inl nobody) = inr (free, inl nobody)
may_get c lid acts owns free (inr (before, is, first)) = inr (free, inr (c, [], before, is, owns, first))

made_gets : (c lid : ℕ) (acts : List DeviceAct) → owner lid (Made lid c ∷ link_acts acts) ≡ Some c → holder (link_acts acts) ≡ None
    → IsTurn c acts → MayTake lid (Linked (Made lid c) ∷ acts)
made_gets c lid acts owns free (inl nobody) = inr (free, inl nobody)
made_gets c lid acts owns free (inr (before, is, first)) =
    inr (free, inr (c, Made lid c ∷ [], before, ap (λ (l : List DeviceAct). Linked (Made lid c) ∷ l) is, owns, first))

lock_gets : (c lid : ℕ) (acts : List DeviceAct) (o : Option ℕ) → holder (link_acts acts) ≡ o → is_locked_out o (Some lid) ≡ false
    → owner lid (link_acts acts) ≡ Some c → (holder (link_acts acts) ≡ None → IsTurn c acts) → MayTake lid acts
lock_gets c lid acts None is e owns turn = may_get c lid acts owns is (turn is)
lock_gets c lid acts (Some h) is e owns turn = inl (is ∙ sym (not_locked_out_names_holder h (Some lid) e))

destroys : (c lid : ℕ) (acts : List DeviceAct) → AllSuit acts → AllKeep acts → waits c (wait_acts acts) ≡ None
    → owner lid (link_acts acts) ≡ Some c → NamesNone lid acts
destroys c lid acts suits keeps idle owns d wait w named =
    let same : d ≡ c = some_injective d c (sym (named_link_is_live acts suits keeps d wait lid w named) ∙ owns) in
    none_is_not_some (waits c (wait_acts acts)) wait idle (ap (λ (m : ℕ). waits m (wait_acts acts)) (sym same) ∙ w)

pub executed_acts_keep : (config : Config) (polled c : ℕ) (arguments : Arguments) (acts : List DeviceAct) → MayDo c arguments acts
    → Each Keeps (own_call config polled c arguments acts).adds acts
executed_acts_keep config polled c (CreateLink client_id true lock_timeout device) acts may =
    elim (cases_Bool (lids_left (link_acts acts))) [
      | inl e ↦
          let lid = links_made (link_acts acts) + 1 in
          let owns = made_link_owner c lid acts may.suits refl in
          rw e (((c, owns, may.idle), made_gets c lid acts owns (may.asks refl) (may.turn refl (may.asks refl))), (tt, tt))
      | inr e ↦ rw e tt
    ]
executed_acts_keep config polled c (CreateLink client_id false lock_timeout device) acts may =
    elim (cases_Bool (lids_left (link_acts acts))) [
      | inl e ↦ rw e (tt, tt)
      | inr e ↦ rw e tt
    ]
executed_acts_keep config polled c (OnLink (pos n) (DeviceWrite io_timeout lock_timeout flags bytes)) acts may =
    elim (cases_Bool (nat_lt max_message (length bytes))) [
      | inl e ↦ rw e tt
      | inr e ↦ elim (cases_Bool (has_ended (exchange_acts acts))) [ inl k ↦ rw (e, k) tt | inr k ↦ rw (e, k) (tt, tt) ]
    ]
executed_acts_keep config polled c (OnLink (pos n) (DeviceRead request_size io_timeout lock_timeout flags term_char)) acts may =
    elim (cases_Bool (is_answerable (instrument_acts acts))) [
      | inl k ↦ elim (cases_Bool (is_something (response (exchange_acts acts)))) [
        | inl e ↦ rw (k, e) (tt, tt)
        | inr e ↦ rw (k, e) (tt, (tt, tt))
      ]
      | inr k ↦ elim (cases_Bool (is_something (response (exchange_acts acts)))) [
        | inl e ↦ rw (k, e) (tt, tt)
        | inr e ↦ rw (k, e) tt
      ]
    ]
executed_acts_keep config polled c (OnLink (pos n) (Generic Readstb flags lock_timeout io_timeout)) acts may = (tt, tt)
executed_acts_keep config polled c (OnLink (pos n) (Generic Trigger flags lock_timeout io_timeout)) acts may = (tt, tt)
executed_acts_keep config polled c (OnLink (pos n) (Generic Clear flags lock_timeout io_timeout)) acts may = (tt, tt)
executed_acts_keep config polled c (OnLink (pos n) (DeviceLock flags lock_timeout)) acts may =
    elim (cases_Bool (is_locked_out (holder (link_acts acts)) (Some n))) [
      | inl e ↦ rw e tt
      | inr e ↦ rw e (
        (
          (c, may.names n refl, may.idle),
          lock_gets c n acts (holder (link_acts acts)) refl e (may.names n refl) (may.turn refl),
        ),
        tt,
      )
    ]
executed_acts_keep config polled c (OnLink (pos n) DeviceUnlock) acts may =
    elim (cases_Bool (is_this n (holder (link_acts acts)))) [ inl e ↦ rw e (tt, tt) | inr e ↦ rw e tt ]
executed_acts_keep config polled c (OnLink (pos n) (DeviceEnableSrq true handle)) acts may =
    elim (cases_Bool (is_of c (owner n (link_acts acts)))) [
      | inl e ↦ elim (cases_Bool (nat_lt max_handle (length handle))) [ inl k ↦ rw (e, k) tt | inr k ↦ rw (e, k) (tt, tt) ]
      | inr e ↦ rw e tt
    ]
executed_acts_keep config polled c (OnLink (pos n) (DeviceEnableSrq false handle)) acts may =
    elim (cases_Bool (is_of c (owner n (link_acts acts)))) [ inl e ↦ rw e (tt, tt) | inr e ↦ rw e tt ]
executed_acts_keep config polled c (OnLink (pos n) DestroyLink) acts may =
    (destroys c n acts may.suits may.keeps may.idle (may.names n refl), tt)
executed_acts_keep config polled c DestroyIntrChan acts may =
    elim (cases_Bool (has_channel c acts)) [ inl e ↦ rw e (tt, tt) | inr e ↦ rw e tt ]
executed_acts_keep config polled c _ acts may = tt

-- ---- a suspended call ends or is suspended again

pub mapped_again : (c : ℕ) (wait other before : Wait) (last : Option ℕ) (acts : List WaitAct) → waits c acts ≡ Some before
    → waits c (Again c wait last ∷ acts) ≡ Some other → wait ≡ other
mapped_again c wait other before last acts was is =
    let now : Some wait ≡ Some other = rw (eq-eqb c c refl, was) at is in some_injective wait other now

-- A suspended call that ends with a result keeps the invariant.
pub sound_left : (c xid : ℕ) (outcome : CallOutcome) (log : List Act) → Sound log → Keeps (device_acts log) (Waited (Left c))
    → Each Keeps outcome.adds (Waited (Left c) ∷ device_acts log)
    → wait_acts (outcome.adds ++ Waited (Left c) ∷ device_acts log) ≡ Left c ∷ wait_acts (device_acts log)
    → Sound (acts_of c (call_effect xid (leaving c outcome)) ++ log)
sound_left c xid outcome log so keep done left =
    let acts = device_acts log in
    let moved : wait_acts ((outcome.adds ++ Waited (Left c) ∷ []) ++ acts) ≡ Left c ∷ wait_acts acts =
    ap wait_acts (append_assoc outcome.adds (Waited (Left c) ∷ []) acts) ∙ left in
    sound_effect c (call_effect xid (leaving c outcome)) log so
    (each_join Keeps outcome.adds (Waited (Left c) ∷ []) acts done (keep, tt))
    (λ d ne. subst (λ (l : List WaitAct). SameCall d l (wait_acts acts)) (sym moved)
    (same_call_other_conn c d (Left c) (wait_acts acts) refl ne))
    (fits_if_not_suspended c ((call_effect xid (leaving c outcome)).own ++ of c log)
    (wait_acts ((outcome.adds ++ Waited (Left c) ∷ []) ++ acts))
    (ap (waits c) moved ∙ left_is_not_suspended c (wait_acts acts)))

pub sound_ended : (c : ℕ) (does : Arguments → CallOutcome) (log : List Act) → Sound log → Keeps (device_acts log) (Waited (Left c))
    → ((call : CoreCall) → core_call_in (pending_call (of c log)) ≡ Some call
    → Sound (acts_of c (call_effect call.xid (does call.arguments)) ++ log))
    → Sound (acts_of c (effect_of c does (core_call_in (pending_call (of c log)))) ++ log)
sound_ended c does log so keep ends = by (core_call_in (pending_call (of c log))) refl
  where
    by : (call : Option CoreCall) → core_call_in (pending_call (of c log)) ≡ call → Sound (acts_of c (effect_of c does call) ++ log)
    by (Some call) e = ends call e
    by None e = sound_effect c (effect_of c does None) log so (keep, tt)
        (λ d ne. same_call_other_conn c d (Left c) (wait_acts (device_acts log)) refl ne)
        (fits_if_not_suspended c (of c log) (Left c ∷ wait_acts (device_acts log)) (left_is_not_suspended c (wait_acts (device_acts log))))

pub sound_failed : (error : ErrorCode) (c : ℕ) (log : List Act) → Sound log → Keeps (device_acts log) (Waited (Left c))
    → Sound (acts_of c (failure_effect error c (core_call_in (pending_call (of c log)))) ++ log)
sound_failed error c log so keep = sound_ended c (λ arguments. leaving c (only (failure arguments error))) log so keep
    (λ call e. sound_left c call.xid (only (failure call.arguments error)) log so keep tt refl)

-- ---- a call that resumes

not_out : (acts : List DeviceAct) (c : ℕ) → CanResume acts c → WaitsForLock acts c
    → is_locked_out (holder (link_acts acts)) (named_link c (wait_acts acts)) ≡ false
not_out acts c able w = not-true _ (rw w at able)

pub lock_waiter_can_resume : (acts : List DeviceAct) (c : ℕ) → WaitsForLock acts c → holder (link_acts acts) ≡ None → CanResume acts c
lock_waiter_can_resume acts c w free = rw (w, free) refl

pub lock_free_for_resumed : (acts : List DeviceAct) → AllSuit acts → AllKeep acts → (c : ℕ) → CanResume acts c → WaitsForLock acts c
    → holder (link_acts acts) ≡ None
lock_free_for_resumed acts suits keeps c able w = lock_is_free acts suits keeps c w (not_out acts c able w)

pub resumed_is_earliest : (acts : List DeviceAct) → AllSuit acts → AllKeep acts → (c : ℕ)
    → IsOldest (wait_acts acts) (CanResume acts) (Some c) → WaitsForLock acts c → IsEarliest c acts
resumed_is_earliest acts suits keeps c oldest w =
    let free = lock_free_for_resumed acts suits keeps c oldest.0 w in
    (w, λ d waits_too. oldest.1 d (lock_waiter_can_resume acts d waits_too free))

again_by : (b : Bool) (wait : Wait) (timeout : ℕ) (next : Wait × ℕ) → wait ≢ Lock → cond b (Some (wait, timeout)) None ≡ Some next
    → next.0 ≢ Lock
again_by true wait timeout next ne e same =
    let is : wait ≡ next.0 = ap (λ (p : Wait × ℕ). p.0) (some_injective (wait, timeout) next e) in ne (is ∙ same)
again_by false wait timeout next ne e same = absurd cc

again_not : (b : Bool) (wait : Wait) (timeout : ℕ) (next : Wait × ℕ) → wait ≢ Lock → cond b None (Some (wait, timeout)) ≡ Some next
    → next.0 ≢ Lock
again_not false wait timeout next ne e same =
    let is : wait ≡ next.0 = ap (λ (p : Wait × ℕ). p.0) (some_injective (wait, timeout) next e) in ne (is ∙ same)
again_not true wait timeout next ne e same = absurd cc

input_not : ForInput ≢ Lock
input_not e = cc

response_not : Response ≢ Lock
response_not e = cc

abbrev pub IsSecondWait : Wait → Arguments → Wait × ℕ → Type 0
IsSecondWait wait arguments next = (wait ≡ Lock) × (next.0 ≢ Lock) × (takes_lock arguments ≡ false)

pub second_wait_is : (wait : Wait) (arguments : Arguments) (acts : List DeviceAct) (next : Wait × ℕ)
    → next_wait wait arguments acts ≡ Some next → IsSecondWait wait arguments next
second_wait_is Lock (OnLink lid (DeviceWrite timeout lock_timeout flags bytes)) acts next e =
    (refl, again_by (has_ended (exchange_acts acts)) ForInput timeout next input_not e, refl)
second_wait_is Lock (OnLink lid (DeviceRead request_size timeout lock_timeout flags term_char)) acts next e =
    (refl, again_not (is_answerable (instrument_acts acts)) Response timeout next response_not e, refl)
second_wait_is Lock _ acts next e = absurd cc
second_wait_is ForInput arguments acts next e = absurd cc
second_wait_is Response arguments acts next e = absurd cc
second_wait_is Dial arguments acts next e = absurd cc

sound_continued : (config : Config) (polled c : ℕ) (wait : Wait) (call : CoreCall) (next : Option (Wait × ℕ)) (log : List Act) → Fit log
    → Sound log → IsOldest (wait_acts (device_acts log)) (CanResume (device_acts log)) (Some c)
    → waits c (wait_acts (device_acts log)) ≡ Some wait → core_call_in (pending_call (of c log)) ≡ Some call
    → next_wait wait call.arguments (device_acts log) ≡ next
    → Sound (acts_of c (call_effect call.xid (resume_outcome config polled c call.arguments next (device_acts log))) ++ log)
sound_continued config polled c wait call (Some next) log fit so oldest for known e =
    let acts = device_acts log in
    let again = second_wait_is wait call.arguments acts next e in
    let lock : WaitsForLock acts c = for ∙ ap (λ (w : Wait). Some w) again.0 in
    sound_effect c (call_effect call.xid (resume_outcome config polled c call.arguments (Some next) acts)) log so (
      (again.1, lock_free_for_resumed acts fit.suits so.keeps c oldest.0 lock, resumed_is_earliest acts fit.suits so.keeps c oldest lock),
      tt,
    )
    (λ d ne. same_call_other_conn c d (Again c next.0 _) (wait_acts acts) refl ne)
    (λ other found is busy.
    let same : found ≡ call = some_injective found call (sym busy ∙ known) in (
      (so.told c wait found for busy).0,
      λ takes. absurd (let z : true ≡ false = sym takes ∙ ap (λ (k : CoreCall). takes_lock k.arguments) same
          ∙ again.2 in cc),
      (so.told c wait found for busy).2,
    ))
sound_continued config polled c wait call None log fit so oldest for known e =
    let acts = device_acts log in
    let before = Waited (Left c) ∷ acts in
    let outcome = own_call config polled c call.arguments before in
    let told = so.told c wait call for known in
    let keep : Keeps acts (Waited (Left c)) = λ w free. resumed_is_earliest acts fit.suits so.keeps c oldest w in
    let may : MayDo c call.arguments before = record {
      suits = (tt, fit.suits);
      keeps = (keep, so.keeps);
      idle = left_is_not_suspended c (wait_acts acts);
      names = λ n is. named_link_is_live acts fit.suits so.keeps c wait n for (told.0 ∙ is);
      asks = λ asks.
          let lock : WaitsForLock acts c = for ∙ ap (λ (w : Wait). Some w) (told.1 (takes_asked call.arguments asks)) in
          lock_free_for_resumed acts fit.suits so.keeps c oldest.0 lock;
      turn = λ takes free.
          let lock : WaitsForLock acts c = for ∙ ap (λ (w : Wait). Some w) (told.1 takes) in
          inr (acts, refl, resumed_is_earliest acts fit.suits so.keeps c oldest lock);
    } in
    sound_left c call.xid outcome log so keep (executed_acts_keep config polled c call.arguments before may)
    (call_acts_suspend_none c call.arguments outcome.adds before (each_act_is_of_call config polled c call.arguments before))
  where
    takes_asked : (arguments : Arguments) → asks_lock arguments ≡ true → takes_lock arguments ≡ true
    takes_asked (CreateLink client_id lock_device lock_timeout device) e = refl
    takes_asked _ e = absurd cc

pub sound_resumed : (config : Config) (polled c : ℕ) (wait : Wait) (log : List Act) → Fit log → Sound log
    → IsOldest (wait_acts (device_acts log)) (CanResume (device_acts log)) (Some c) → waits c (wait_acts (device_acts log)) ≡ Some wait
    → Sound (acts_of c (resume_effect config polled c wait (core_call_in (pending_call (of c log))) (device_acts log)) ++ log)
sound_resumed config polled c wait log fit so oldest for =
    let held = fit.held c wait for in
    subst (λ (call : Option CoreCall). Sound (acts_of c (resume_effect config polled c wait call (device_acts log)) ++ log)) (sym held.1.1)
    (sound_continued config polled c wait held.1.0 (next_wait wait held.1.0.arguments (device_acts log))
    log fit so oldest for held.1.1 refl)
