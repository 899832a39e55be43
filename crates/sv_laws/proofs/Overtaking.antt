-- A call that needs the lock, and is taken while another link holds it, isn't executed.
use Rattle.std.proofs.Common.{◌≡◌, ◌≢◌, ℕ, ◌+◌, ◌≤◌, Bool, true, false, cond, List, ◌∷◌, ◌++◌, Option, Some, None, refl, sym, ap, subst, ◌∙◌, inl, inr, ◌⊎◌, arith}
use Rattle.std.specs.Prelude.{not, is_some, ◌&&◌, option_map, ℤ}
use Rattle.std.proofs.lemmas.Bool.{cases_eq, ne_eqb}
use Rattle.sv_vxi.specs.declared.error_code.ErrorCode.{ErrorCode}
use Rattle.sv_vxi.specs.declared.error_code.ErrorCode.TheVariants.{InvalidLink, ParameterError, NotAccessible, OutOfResources, Locked as DeviceLocked}
use Rattle.sv_vxi.specs.declared.arguments.LockWait.{LockWait}
use Rattle.sv_vxi.specs.Arguments.{LinkCall, Arguments, CreateLink, OnLink, lock_wait, link as link_in}
use Rattle.sv_links.specs.declared.waiting.Wait.{Wait}
use Rattle.sv_links.specs.declared.waiting.Wait.TheVariants.{Lock}
use Rattle.sv_links.specs.Links.{holder, is_locked_out}
use Rattle.sv_links.specs.Waiting.{WaitAct, Entered, Left, waits, IsExpired, deadline as until_of}
use Rattle.sv_layers.specs.Act.{Act as InstrumentAct}
use Rattle.sv_instrument.specs.Stimulus.{IsFired}
use Rattle.sv_instrument.specs.Step.{IsStep}
use Rattle.sv_history.specs.declared.event.Config.{Config}
use Rattle.sv_history.specs.Event.{PlainEvent, Turn}
use Rattle.sv_history.specs.Act.{Act, ConnAct, DeviceAct, CallTaken, Replied, Waited, On, OnDevice, of, device_acts, link_acts, wait_acts, instrument_acts, ticks}
use Rattle.sv_history.specs.Connection.{next_call, open_role, pending_call}
use Rattle.sv_history.specs.CoreCall.{CoreCall, lid_of, is_too_long, failure}
use Rattle.sv_history.specs.CoreChannel.{owns}
use Rattle.sv_history.specs.Effect.{acts_of, result_reply, call_effect}
use Rattle.sv_history.specs.Request.{CoreRequest, core_call_in, request_for, next_request}
use Rattle.sv_history.specs.Admission.{Stop, Fails, Awaits, lock_stop, stop_of, admission, deadline}
use Rattle.sv_history.specs.Resuming.{failure_effect, late}
use Rattle.sv_history.specs.Settling.{CanResume, IsNext, Settles}
use Rattle.sv_history.specs.History.{turn_acts, own_acts, IsLogOf}
use Rattle.sv_history.proofs.Projections.{of_own_act}
use Rattle.sv_laws.specs.InTime.{lock_time, waits_for_peer}
use Rattle.sv_laws.proofs.Patience.{BeginsWait, begins}
use Rattle.sv_laws.proofs.InTime.{entered_until}
use Rattle.sv_laws.specs.LockFair.{IsLockedOut, NoneOvertakes, needs_lock, is_own_fault}
use Rattle.sv_laws.proofs.Facts.{some_injective, none_is_not_some}
use Rattle.sv_laws.proofs.CallsAlike.{SameCall}
use Rattle.sv_laws.proofs.OneLog.{one_log}
use Rattle.sv_laws.proofs.NoneLate.{none_late}
use Rattle.sv_laws.proofs.Sound.{same_call_other_conn}
use Rattle.sv_laws.proofs.EveryLog.Taken.{core_call_is_on_core_role}
use Rattle.sv_laws.proofs.EveryLog.Steps.{log_settled, Rested, settled_is_rested}
use Rattle.sv_laws.proofs.EveryLog.EachEvent.{settling_keeps, turn_acts_in_order, entered_waits, left_is_not_suspended}

-- ---- what stops a call that is locked out

-- A call that is locked out may fail with error 11 if it waits no time for the lock, or with an
-- error that is its own fault.
abbrev MayFail : Arguments → ErrorCode → Type 0
MayFail arguments error = ((error ≡ DeviceLocked) × (lock_time arguments ≡ 0)) ⊎ (is_own_fault error ≡ true)

-- The call is stopped: it fails with such an error, or it waits for the lock.
abbrev IsStopped : Arguments → Option Stop → Type 0
IsStopped arguments stop = ((error : ErrorCode) × MayFail arguments error × (stop ≡ Some (Fails error)))
    ⊎ ((until : Option ℕ) × (stop ≡ Some (Awaits Lock until)))

-- A create_link that asks for the lock is stopped while a link holds the lock.
link_stopped : (arguments : Arguments) (named more : Bool) (timeout : ℕ)
    → IsStopped arguments (cond (not named) (Some (Fails NotAccessible)) (cond (not more) (Some (Fails OutOfResources))
    (Some (Awaits Lock (Some timeout)))))
link_stopped arguments false more timeout = inl (NotAccessible, inr refl, refl)
link_stopped arguments true false timeout = inl (OutOfResources, inr refl, refl)
link_stopped arguments true true timeout = inr (Some timeout, refl)

-- A call on a link that is locked out waits for the lock, or fails with error 11 and waits no time.
lock_stopped : (lid : ℤ) (call : LinkCall) (found : Option LockWait) → lock_wait call ≡ found → is_some found ≡ true
    → IsStopped (OnLink lid call) (option_map lock_stop found)
lock_stopped lid call (Some one) is some = by one.waits refl
  where
    by : (b : Bool) → one.waits ≡ b
        → IsStopped (OnLink lid call) (Some (cond b (Awaits Lock (Some one.timeout)) (Fails DeviceLocked)))
    by true w = inr (Some one.timeout, refl)
    by false w = inl (DeviceLocked, inl (refl, rw (is, w) refl), refl)
lock_stopped lid call None is some = absurd cc

call_stopped : (arguments : Arguments) (own long some locked : Bool) (lock other : Option Stop) → some ≡ true → locked ≡ true
    → IsStopped arguments lock → IsStopped arguments
    (cond (not own) (Some (Fails InvalidLink)) (cond long (Some (Fails ParameterError)) (cond (some && locked) lock other)))
call_stopped arguments false long some locked lock other is out stops = inl (InvalidLink, inr refl, refl)
call_stopped arguments true true some locked lock other is out stops = inl (ParameterError, inr refl, refl)
call_stopped arguments true false true true lock other is out stops = stops
call_stopped arguments true false true false lock other is out stops = absurd cc
call_stopped arguments true false false locked lock other is out stops = absurd cc

-- A call that needs the lock is stopped while it is locked out.
locked_out_is_stopped : (c : ℕ) (arguments : Arguments) (acts : List DeviceAct) → needs_lock arguments ≡ true
    → is_locked_out (holder (link_acts acts)) (lid_of (link_in arguments)) ≡ true → IsStopped arguments (stop_of c arguments acts)
locked_out_is_stopped c (CreateLink client_id true lock_timeout device) acts needs out =
    rw out (link_stopped (CreateLink client_id true lock_timeout device) _ _ lock_timeout)
locked_out_is_stopped c (CreateLink client_id false lock_timeout device) acts needs out = absurd cc
locked_out_is_stopped c (OnLink lid call) acts needs out =
    call_stopped (OnLink lid call) (owns c (lid_of (Some lid)) acts) (is_too_long call) (is_some (lock_wait call))
    (is_locked_out (holder (link_acts acts)) (lid_of (Some lid))) (option_map lock_stop (lock_wait call)) _ needs out
    (lock_stopped lid call (lock_wait call) refl needs)
locked_out_is_stopped c _ acts needs out = absurd cc

lock_call_waits_no_peer : (arguments : Arguments) → needs_lock arguments ≡ true → waits_for_peer arguments ≡ true → ⊥
lock_call_waits_no_peer (CreateLink client_id lock_device lock_timeout device) needs peer = cc
lock_call_waits_no_peer (OnLink lid call) needs peer = cc
lock_call_waits_no_peer _ needs peer = cc

locked_out_unless_holder : (o named : Option ℕ) → (o ≡ None → ⊥) → o ≢ named → is_locked_out o named ≡ true
locked_out_unless_holder None named held ne = absurd (held refl)
locked_out_unless_holder (Some h) None held ne = refl
locked_out_unless_holder (Some h) (Some n) held ne = rw (ne_eqb n h (λ e. ne (ap (λ (m : ℕ). Some m) (sym e)))) refl

-- ---- no step is due

-- No step is due if the instrument is as after a history, and no suspended call can resume or is
-- past its deadline.
no_step_due : (config : Config) (history : List PlainEvent) (before log new : List Act) → IsLogOf config history before
    → instrument_acts (device_acts log) ≡ instrument_acts (device_acts before) → ((e : ℕ) → CanResume (device_acts log) e → ⊥)
    → ((e : ℕ) → IsExpired (config.clock + ticks (device_acts log)) (wait_acts (device_acts log)) e → ⊥) → IsNext config log new → ⊥
no_step_due config history before log new was same able late (inl (adds, such, so)) =
    (settled_is_rested config before (log_settled config history before was)).fires _
    (adds, subst (λ (i : List InstrumentAct). IsFired i (adds ++ i)) same such, refl)
no_step_due config history before log new was same able late (inr (none, inl (e, wait, polled, oldest, for, said, so))) = able e oldest.0
no_step_due config history before log new was same able late (inr (none, inr (still, inl (adds, such, so)))) =
    (settled_is_rested config before (log_settled config history before was)).steps _
    (adds, subst (λ (i : List InstrumentAct). IsStep i (adds ++ i)) same such, refl)
no_step_due config history before log new was same able late (inr (none, inr (still, inr (idle, (e, wait, oldest, for, so))))) =
    late e oldest.0

-- A call that is suspended as after a history isn't past its deadline.
none_late_alike : (config : Config) (history : List PlainEvent) (before : List Act) (e : ℕ) (acts : List WaitAct)
    → IsLogOf config history before → SameCall e acts (wait_acts (device_acts before))
    → IsExpired (config.clock + ticks (device_acts before)) acts e → ⊥
none_late_alike config history before e acts was alike (wait, last, for, until, past) =
    (none_late config history before e was).0 (wait, last, sym alike.wait ∙ for, sym alike.until ∙ until, past)

-- ---- the call waits for the lock, or is answered with an error

-- The log `before` is that of a history, and in it the call is locked out.
record IsBehind (config : Config) (c : ℕ) (bytes : List ℕ) (call : CoreCall) (before : List Act) : Type 0 where
  history : List PlainEvent
  was : IsLogOf config history before
  known : core_call_in (Some bytes) ≡ Some call
  out : is_locked_out (holder (link_acts (device_acts before))) (lid_of (link_in call.arguments)) ≡ true

-- A wait with this deadline that begins now lasts at least the call's lock timeout.
abbrev IsLong : Config → CoreCall → List Act → Option ℕ → Type 0
IsLong config call before last =
    (n : ℕ) → last ≡ Some n → config.clock + ticks (device_acts before) + lock_time call.arguments ≤ n

-- If a call that needs the lock waits for it, the wait lasts so long.
lock_wait_is_long : (config : Config) (c : ℕ) (call : CoreCall) (before : List Act) (until : Option ℕ) → needs_lock call.arguments ≡ true
    → BeginsWait Lock until call.arguments → IsLong config call before (deadline config until (device_acts before))
lock_wait_is_long config c call before until needs (inl peer) = absurd (lock_call_waits_no_peer call.arguments needs peer)
lock_wait_is_long config c call before until needs (inr (timeout, is, most, least)) = λ n same.
    let clock = config.clock + ticks (device_acts before) in
    let now : Some (clock + timeout) ≡ Some n = ap (λ (u : Option ℕ). deadline config u (device_acts before)) (sym is) ∙ same in
    let sum : clock + timeout ≡ n = some_injective (clock + timeout) n now in
    let less = least refl in omega (arith, sum, less)

-- The log after the call was taken, and suspended until it gets the lock.
abbrev suspended : ℕ → List ℕ → CoreCall → Option ℕ → List Act → List Act
suspended c bytes call last before =
    OnDevice (Waited (Entered c (lid_of (link_in call.arguments)) Lock last)) ∷ On c (CallTaken bytes) ∷ before

-- The call is answered with an error, at once or directly after it is suspended.
abbrev IsRefused : ℕ → List ℕ → CoreCall → List Act → List Act → Type 0
IsRefused c bytes call before log = (error : ErrorCode) × MayFail call.arguments error
    × ((log ≡ On c (Replied (result_reply call.xid (failure call.arguments error))) ∷ On c (CallTaken bytes) ∷ before)
    ⊎ ((last : Option ℕ) × (log ≡ On c (Replied (result_reply call.xid (failure call.arguments error))) ∷ OnDevice (Waited (Left c))
    ∷ suspended c bytes call last before)))

-- The call waits for the lock, or it is answered with an error.
abbrev StaysBehind : Config → ℕ → List ℕ → CoreCall → List Act → List Act → Type 0
StaysBehind config c bytes call before log =
    ((last : Option ℕ) × (log ≡ suspended c bytes call last before) × IsLong config call before last) ⊎ IsRefused c bytes call before log

-- ---- no step but the call's own timeout is due

-- While the call waits for the lock, no suspended call can resume.
none_resumes_while_waiting : (config : Config) (c : ℕ) (bytes : List ℕ) (call : CoreCall) (before : List Act) (last : Option ℕ) (e : ℕ)
    → IsBehind config c bytes call before → CanResume (device_acts (suspended c bytes call last before)) e → ⊥
none_resumes_while_waiting config c bytes call before last e is able = elim (cases_eq e c) [
  | inl same ↦
      let acts = wait_acts (device_acts before) in
      let named = lid_of (link_in call.arguments) in
      let now = entered_waits c named Lock last acts in
      let mine : CanResume (device_acts (suspended c bytes call last before)) c =
      subst (CanResume (device_acts (suspended c bytes call last before))) same able in
      let there : not (is_locked_out (holder (link_acts (device_acts before))) named) ≡ true = rw (now.0, now.1) at mine in
      (let z : false ≡ true = rw is.out at there in cc)
  | inr ne ↦
      let acts = wait_acts (device_acts before) in
      let alike = same_call_other_conn c e (Entered c (lid_of (link_in call.arguments)) Lock last) acts refl ne in
      (none_late config is.history before e is.was).1 (rw (alike.wait, alike.named) at able)
]

-- Suspending the call, and ending its suspension, leaves the other suspended calls alone.
other_waits_unchanged : (c e : ℕ) (named last : Option ℕ) (acts : List WaitAct) → e ≢ c
    → SameCall e (Left c ∷ Entered c named Lock last ∷ acts) acts
other_waits_unchanged c e named last acts ne =
    let one = same_call_other_conn c e (Entered c named Lock last) acts refl ne in
    let two = same_call_other_conn c e (Left c) (Entered c named Lock last ∷ acts) refl ne in
    record { wait = two.wait ∙ one.wait; until = two.until ∙ one.until; named = two.named ∙ one.named }

-- Once the call is answered, no step is due.
refused_is_settled : (config : Config) (c : ℕ) (bytes : List ℕ) (call : CoreCall) (before log new : List Act)
    → IsBehind config c bytes call before → IsRefused c bytes call before log → IsNext config log new → ⊥
refused_is_settled config c bytes call before log new is (error, may, inl so) next =
    let answered = On c (Replied (result_reply call.xid (failure call.arguments error))) ∷ On c (CallTaken bytes) ∷ before in
    no_step_due config is.history before answered new is.was refl (λ e able. (none_late config is.history before e is.was).1 able)
    (λ e late. (none_late config is.history before e is.was).0 late) (subst (λ (l : List Act). IsNext config l new) so next)
refused_is_settled config c bytes call before log new is (error, may, inr (last, so)) next =
    let held = suspended c bytes call last before in
    let answered = On c (Replied (result_reply call.xid (failure call.arguments error))) ∷ OnDevice (Waited (Left c)) ∷ held in
    let named = lid_of (link_in call.arguments) in
    let acts = wait_acts (device_acts before) in
    let now = Left c ∷ Entered c named Lock last ∷ acts in
    let none : waits c now ≡ None = left_is_not_suspended c (Entered c named Lock last ∷ acts) in
    no_step_due config is.history before answered new is.was refl
    (λ e able. elim (cases_eq e c) [
      | inl same ↦
          let mine : CanResume (device_acts answered) c = subst (CanResume (device_acts answered)) same able in
          (let z : false ≡ true = rw none at mine in cc)
      | inr other ↦
          let alike = other_waits_unchanged c e named last acts other in
          (none_late config is.history before e is.was).1 (rw (alike.wait, alike.named) at able)
    ])
    (λ e late. elim (cases_eq e c) [
      | inl same ↦ none_is_not_some (waits e now) late.0 (ap (λ (n : ℕ). waits n now) same ∙ none) late.2
      | inr other ↦ none_late_alike config is.history before e now is.was (other_waits_unchanged c e named last acts other) late
    ]) (subst (λ (l : List Act). IsNext config l new) so next)

-- If the call times out at once, its lock timeout is 0, and it is answered with error 11.
timeout_is_refusal : (config : Config) (c : ℕ) (bytes : List ℕ) (call : CoreCall) (before : List Act) (last : Option ℕ) (new : List Act)
    (e : ℕ)
    (wait : Wait) → IsBehind config c bytes call before → IsLong config call before last → e ≡ c
    → let log = suspended c bytes call last before in
    waits e (wait_acts (device_acts log)) ≡ Some wait
    → IsExpired (config.clock + ticks (device_acts before)) (wait_acts (device_acts log)) e
    → new ≡ acts_of e (failure_effect (late wait) e (core_call_in (pending_call (of e log)))) ++ log → IsRefused c bytes call before new
timeout_is_refusal config c bytes call before last new e wait is long same for past so =
    let log = suspended c bytes call last before in
    let own : of c log ≡ CallTaken bytes ∷ of c before = of_own_act c (CallTaken bytes) before in
    let now = entered_waits c (lid_of (link_in call.arguments)) Lock last (wait_acts (device_acts before)) in
    let lock : Lock ≡ wait = some_injective Lock wait (sym now.0 ∙ ap (λ (n : ℕ). waits n (wait_acts (device_acts log))) (sym same) ∙ for)
    in
    let found : core_call_in (pending_call (of c log)) ≡ Some call =
    ap (λ (l : List ConnAct). core_call_in (pending_call l)) own ∙ is.known in
    let moved : new ≡ acts_of c (failure_effect (late wait) c (core_call_in (pending_call (of c log)))) ++ log =
    so ∙ ap (λ (n : ℕ). acts_of n (failure_effect (late wait) n (core_call_in (pending_call (of n log)))) ++ log) same in
    let mine : new ≡ acts_of c (failure_effect DeviceLocked c (Some call)) ++ log =
    moved ∙ ap (λ (w : Wait). acts_of c (failure_effect (late w) c (core_call_in (pending_call (of c log)))) ++ log) (sym lock)
    ∙ ap (λ (k : Option CoreCall). acts_of c (failure_effect DeviceLocked c k) ++ log) found in
    let acts = wait_acts (device_acts before) in
    let until : last ≡ Some past.1 = sym (entered_until c (lid_of (link_in call.arguments)) Lock last acts)
    ∙ ap (λ (n : ℕ). until_of n (wait_acts (device_acts log))) (sym same) ∙ past.3 in
    let least = long past.1 until in
    let most = past.4 in
    let no_time : lock_time call.arguments ≡ 0 = omega (arith, least, most) in
    (DeviceLocked, inl (refl, no_time), inr (last, mine))

behind_step : (config : Config) (c : ℕ) (bytes : List ℕ) (call : CoreCall) (before log new : List Act)
    → IsBehind config c bytes call before → StaysBehind config c bytes call before log → IsNext config log new
    → StaysBehind config c bytes call before new
behind_step config c bytes call before log new is (inr refused) next =
    absurd (refused_is_settled config c bytes call before log new is refused next)
behind_step config c bytes call before log new is (inl (last, same, long)) next =
    by (subst (λ (l : List Act). IsNext config l new) same next)
  where
    rest : Rested config before
    rest = settled_is_rested config before (log_settled config is.history before is.was)

    by : IsNext config (suspended c bytes call last before) new → StaysBehind config c bytes call before new
    by (inl (adds, such, so)) = absurd (rest.fires _ (adds, such, refl))
    by (inr (none, inl (e, wait, polled, oldest, for, said, so))) = absurd
        (none_resumes_while_waiting config c bytes call before last e is oldest.0)
    by (inr (none, inr (still, inl (adds, such, so)))) = absurd (rest.steps _ (adds, such, refl))
    by (inr (none, inr (still, inr (idle, (e, wait, oldest, for, so))))) = elim (cases_eq e c) [
      | inl same ↦ inr (timeout_is_refusal config c bytes call before last new e wait is long same for oldest.0 so)
      | inr ne ↦
          let acts = wait_acts (device_acts before) in
          let named = lid_of (link_in call.arguments) in
          absurd (none_late_alike config is.history before e (Entered c named Lock last ∷ acts) is.was
          (same_call_other_conn c e (Entered c named Lock last) acts refl ne) oldest.0)
    ]

-- ---- the Turn that takes the call

behind_turn : (config : Config) (polled c : ℕ) (bytes : List ℕ) (call : CoreCall) (before : List Act) (stop : Option Stop)
    → needs_lock call.arguments ≡ true → stop_of c call.arguments (device_acts before) ≡ stop → IsStopped call.arguments stop
    → let effect = call_effect call.xid (admission config polled c call.arguments stop (device_acts before)) in
    StaysBehind config c bytes call before (acts_of c effect ++ On c (CallTaken bytes) ∷ before)
behind_turn config polled c bytes call before stop needs e (inl (error, may, is)) = rw is (inr (error, may, inl refl))
behind_turn config polled c bytes call before stop needs e (inr (until, is)) =
    let long = lock_wait_is_long config c call before until needs (begins c call.arguments (device_acts before) Lock until (e ∙ is)) in
    rw is (inl (deadline config until (device_acts before), refl, long))

behind_settled : (config : Config) (polled c : ℕ) (bytes : List ℕ) (call : CoreCall) (before log : List Act)
    → IsBehind config c bytes call before → next_call (of c before) ≡ Some bytes → next_request (of c before) ≡ Some (CoreRequest call)
    → needs_lock call.arguments ≡ true → Settles config (own_acts config polled (Turn c) before ++ before) log
    → StaysBehind config c bytes call before log
behind_settled config polled c bytes call before log is next asks needs settles =
    let acts = device_acts before in
    let effect = call_effect call.xid (admission config polled c call.arguments (stop_of c call.arguments acts) acts) in
    let adds = turn_acts config polled c (Some bytes) (Some (CoreRequest call)) before in
    let turned : StaysBehind config c bytes call before (adds ++ before) =
    subst (StaysBehind config c bytes call before) (sym (turn_acts_in_order c bytes effect None before))
    (behind_turn config polled c bytes call before (stop_of c call.arguments acts) needs refl
    (locked_out_is_stopped c call.arguments acts needs is.out)) in
    let asked : request_for (open_role (of c before)) (Some bytes) ≡ Some (CoreRequest call) =
    ap (request_for (open_role (of c before))) (sym next) ∙ asks in
    let begins : StaysBehind config c bytes call before (own_acts config polled (Turn c) before ++ before) = rw (next, asked) turned in
    settling_keeps config (StaysBehind config c bytes call before)
    (λ one new so due. behind_step config c bytes call before one new is so due)
    settles.0 (own_acts config polled (Turn c) before ++ before) log begins settles.1

-- ---- the call is locked out

locked_out : (config : Config) (c : ℕ) (bytes : List ℕ) (call : CoreCall) (before log : List Act)
    → StaysBehind config c bytes call before log → IsLockedOut c bytes call before log
locked_out config c bytes call before log (inl (last, is, long)) =
    subst (IsLockedOut c bytes call before) (sym is) (
      (refl, refl),
      refl,
      inl (
        of_own_act c (CallTaken bytes) before,
        (entered_waits c (lid_of (link_in call.arguments)) Lock last (wait_acts (device_acts before))).0,
      ),
    )
locked_out config c bytes call before log (inr (error, may, inl is)) =
    let reply = Replied (result_reply call.xid (failure call.arguments error)) in
    subst (IsLockedOut c bytes call before) (sym is) (
      (refl, refl),
      refl,
      inr (
        error,
        may,
        of_own_act c reply (On c (CallTaken bytes) ∷ before) ∙ ap (λ (l : List ConnAct). reply ∷ l) (of_own_act c (CallTaken bytes) before),
      ),
    )
locked_out config c bytes call before log (inr (error, may, inr (last, is))) =
    let reply = Replied (result_reply call.xid (failure call.arguments error)) in
    subst (IsLockedOut c bytes call before) (sym is) (
      (refl, refl),
      refl,
      inr (
        error,
        may,
        of_own_act c reply (OnDevice (Waited (Left c)) ∷ suspended c bytes call last before)
            ∙ ap (λ (l : List ConnAct). reply ∷ l) (of_own_act c (CallTaken bytes) before),
      ),
    )

pub none_overtakes : NoneOvertakes
none_overtakes config history before log c bytes call was now held next asks needs other =
    let same = one_log config history now.0 before now.4 was in
    locked_out config c bytes call before log (behind_settled config now.1 c bytes call before log (record {
      history = history;
      was = was;
      known = (core_call_is_on_core_role (of c before) bytes call next asks).1;
      out = locked_out_unless_holder (holder (link_acts (device_acts before))) (lid_of (link_in call.arguments)) held other;
    }) next asks needs (subst (λ (l : List Act). Settles config (own_acts config now.1 (Turn c) l ++ l) log) same now.8))
