-- The arguments of a call bound how long it waits: first for the lock, and then for the device.
use Rattle.std.proofs.Common.{◌≡◌, ◌≢◌, ℕ, ◌+◌, ◌≤◌, Bool, true, false, cond, List, Option, Some, None, refl, subst, inl, inr, ◌⊎◌, arith}
use Rattle.std.specs.Prelude.{not, is_some, ◌&&◌, option_map, ℤ}
use Rattle.sv_vxi.specs.declared.error_code.ErrorCode.TheVariants.{InvalidLink, ParameterError, NotAccessible, NotSupported, OutOfResources, InvalidAddress, AlreadyEstablished, Locked as DeviceLocked}
use Rattle.sv_vxi.specs.declared.arguments.LockWait.{LockWait}
use Rattle.sv_vxi.specs.Arguments.{LinkCall, DeviceWrite, DeviceRead, Arguments, CreateLink, OnLink, CreateIntrChan, DestroyIntrChan, lock_wait}
use Rattle.sv_links.specs.declared.waiting.Wait.{Wait}
use Rattle.sv_links.specs.declared.waiting.Wait.TheVariants.{Lock, Input as ForInput, Response, Dial}
use Rattle.sv_links.specs.Links.{holder, is_locked_out}
use Rattle.sv_exchange.specs.Exchange.{has_ended}
use Rattle.sv_instrument.specs.Step.{is_answerable}
use Rattle.sv_history.specs.Act.{DeviceAct, link_acts, instrument_acts, exchange_acts}
use Rattle.sv_history.specs.CoreCall.{lid_of, is_too_long}
use Rattle.sv_history.specs.CoreChannel.{owns}
use Rattle.sv_history.specs.Admission.{Stop, Fails, Awaits, lock_stop, device_wait, stop_of}
use Rattle.sv_history.specs.Resuming.{next_wait}
use Rattle.sv_laws.specs.InTime.{lock_patience, lock_time, patience, waits_for_peer, time_for}
use Rattle.sv_laws.proofs.Facts.{some_injective}
use Rattle.sv_laws.proofs.Sound.{second_wait_is}

-- The most milliseconds that a call can have waited in all when this wait ends.
abbrev pub bound : Wait → Arguments → ℕ
bound Lock arguments = lock_time arguments
bound _ arguments = patience arguments

pub bound_within_patience : (wait : Wait) (arguments : Arguments) → bound wait arguments ≤ patience arguments
bound_within_patience Lock (CreateLink client_id lock_device lock_timeout device) = omega arith
bound_within_patience Lock (OnLink lid call) = omega arith
bound_within_patience Lock _ = omega arith
bound_within_patience _ arguments = omega arith

-- A single wait is at most as long as all waits of the call up to its end.
pub wait_within_bound : (wait : Wait) (arguments : Arguments) → time_for wait arguments ≤ bound wait arguments
wait_within_bound Lock arguments = omega arith
wait_within_bound _ arguments = omega arith

-- What this bound leaves after the longest wait for the lock is at most the timeout of the wait
-- itself.
pub time_left_after_lock : (wait : Wait) (arguments : Arguments) (n : ℕ) → n + lock_time arguments ≤ bound wait arguments
    → n ≤ time_for wait arguments
time_left_after_lock Lock arguments n le = omega (arith, le)
time_left_after_lock _ arguments n le = omega (arith, le)

-- ---- the wait after that for the lock

-- The call waited for the lock. Its next wait isn't for the lock, and ends within `bound` even
-- after the longest wait for the lock.
abbrev pub IsWaitAfterLock : Wait → Arguments → Wait × ℕ → Type 0
IsWaitAfterLock wait arguments next = (wait ≡ Lock) × (waits_for_peer arguments ≡ false)
    × (next.1 + lock_time arguments ≤ bound next.0 arguments) × (next.0 ≢ Lock)

then_write : (b : Bool) (timeout most : ℕ) (arguments : Arguments) (next : Wait × ℕ) → cond b (Some (ForInput, timeout)) None ≡ Some next
    → timeout + most ≤ patience arguments → next.1 + most ≤ bound next.0 arguments
then_write true timeout most arguments next e le =
    subst (λ (n : Wait × ℕ). n.1 + most ≤ bound n.0 arguments) (some_injective (ForInput, timeout) next e) le
then_write false timeout most arguments next e le = absurd cc

then_read : (b : Bool) (timeout most : ℕ) (arguments : Arguments) (next : Wait × ℕ) → cond b None (Some (Response, timeout)) ≡ Some next
    → timeout + most ≤ patience arguments → next.1 + most ≤ bound next.0 arguments
then_read false timeout most arguments next e le =
    subst (λ (n : Wait × ℕ). n.1 + most ≤ bound n.0 arguments) (some_injective (Response, timeout) next e) le
then_read true timeout most arguments next e le = absurd cc

pub wait_after_lock_is : (wait : Wait) (arguments : Arguments) (acts : List DeviceAct) (next : Wait × ℕ)
    → next_wait wait arguments acts ≡ Some next → IsWaitAfterLock wait arguments next
wait_after_lock_is Lock (OnLink lid (DeviceWrite timeout lock_timeout flags bytes)) acts next e =
    let call = DeviceWrite timeout lock_timeout flags bytes in (
      refl,
      refl,
      then_write (has_ended (exchange_acts acts)) timeout (lock_patience (lock_wait call)) (OnLink lid call) next e
          (omega arith),
      (second_wait_is Lock (OnLink lid call) acts next e).1,
    )
wait_after_lock_is Lock (OnLink lid (DeviceRead request_size timeout lock_timeout flags term_char)) acts next e =
    let call = DeviceRead request_size timeout lock_timeout flags term_char in (
      refl,
      refl,
      then_read (is_answerable (instrument_acts acts)) timeout (lock_patience (lock_wait call)) (OnLink lid call) next e
          (omega arith),
      (second_wait_is Lock (OnLink lid call) acts next e).1,
    )
wait_after_lock_is Lock _ acts next e = absurd cc
wait_after_lock_is ForInput arguments acts next e = absurd cc
wait_after_lock_is Response arguments acts next e = absurd cc
wait_after_lock_is Dial arguments acts next e = absurd cc

-- ---- the first wait of a call

-- The call waits for its peer; or its timeout is at most that of its arguments, and for the lock
-- exactly that.
abbrev pub BeginsWait : Wait → Option ℕ → Arguments → Type 0
BeginsWait wait until arguments = (waits_for_peer arguments ≡ true)
    ⊎ ((timeout : ℕ) × (until ≡ Some timeout) × (timeout ≤ time_for wait arguments) × (wait ≡ Lock → lock_time arguments ≤ timeout))

begins_same : (wait other : Wait) (until also : Option ℕ) (arguments : Arguments) → BeginsWait wait until arguments
    → Some (Awaits wait until) ≡ Some (Awaits other also) → BeginsWait other also arguments
begins_same wait other until also arguments begins e =
    let same : Awaits wait until ≡ Awaits other also = some_injective (Awaits wait until) (Awaits other also) e in
    let w : wait ≡ other = cc in
    let u : until ≡ also = cc in
    subst (λ (v : Wait). BeginsWait v also arguments) w (subst (λ (v : Option ℕ). BeginsWait wait v arguments) u begins)

device_begins : (lid : ℤ) (call : LinkCall) (acts : List DeviceAct) (wait : Wait) (until : Option ℕ)
    → option_map (λ (w : Wait × ℕ). Awaits w.0 (Some w.1)) (device_wait call acts) ≡ Some (Awaits wait until)
    → BeginsWait wait until (OnLink lid call)
device_begins lid (DeviceWrite timeout lock_timeout flags bytes) acts wait until e = by (has_ended (exchange_acts acts)) e
  where
    by : (b : Bool) → option_map (λ (w : Wait × ℕ). Awaits w.0 (Some w.1)) (cond b (Some (ForInput, timeout)) None)
        ≡ Some (Awaits wait until)
        → BeginsWait wait until (OnLink lid (DeviceWrite timeout lock_timeout flags bytes))
    by true e = begins_same ForInput wait (Some timeout) until (OnLink lid (DeviceWrite timeout lock_timeout flags bytes))
        (inr (timeout, refl, omega arith, λ (lock : ForInput ≡ Lock). absurd cc)) e
    by false e = absurd cc
device_begins lid (DeviceRead request_size timeout lock_timeout flags term_char) acts wait until e = by
    (is_answerable (instrument_acts acts)) e
  where
    by : (b : Bool) → option_map (λ (w : Wait × ℕ). Awaits w.0 (Some w.1)) (cond b None (Some (Response, timeout)))
        ≡ Some (Awaits wait until)
        → BeginsWait wait until (OnLink lid (DeviceRead request_size timeout lock_timeout flags term_char))
    by false e = begins_same Response wait (Some timeout) until (OnLink lid (DeviceRead request_size timeout lock_timeout flags term_char))
        (inr (timeout, refl, omega arith, λ (lock : Response ≡ Lock). absurd cc)) e
    by true e = absurd cc
device_begins lid _ acts wait until e = absurd cc

lock_begins : (lid : ℤ) (call : LinkCall) (found : Option LockWait) (wait : Wait) (until : Option ℕ) → lock_wait call ≡ found
    → option_map lock_stop found ≡ Some (Awaits wait until) → BeginsWait wait until (OnLink lid call)
lock_begins lid call (Some one) wait until is e = by one.waits refl e
  where
    by : (b : Bool) → one.waits ≡ b → Some (cond b (Awaits Lock (Some one.timeout)) (Fails DeviceLocked)) ≡ Some (Awaits wait until)
        → BeginsWait wait until (OnLink lid call)
    by true w e = begins_same Lock wait (Some one.timeout) until (OnLink lid call)
        (inr (one.timeout, refl, rw (is, w) (omega arith), λ (lock : Lock ≡ Lock). rw (is, w) (omega arith))) e
    by false w e = absurd cc
lock_begins lid call None wait until is e = absurd cc

call_begins : (own long out : Bool) (lock other : Option Stop) (wait : Wait) (until : Option ℕ) (arguments : Arguments)
    → (lock ≡ Some (Awaits wait until) → BeginsWait wait until arguments)
    → (other ≡ Some (Awaits wait until) → BeginsWait wait until arguments)
    → cond (not own) (Some (Fails InvalidLink)) (cond long (Some (Fails ParameterError)) (cond out lock other)) ≡ Some (Awaits wait until)
    → BeginsWait wait until arguments
call_begins false long out lock other wait until arguments f g e = absurd cc
call_begins true true out lock other wait until arguments f g e = absurd cc
call_begins true false true lock other wait until arguments f g e = f e
call_begins true false false lock other wait until arguments f g e = g e

link_begins : (named more asks locked : Bool) (client_id : ℤ) (timeout : ℕ) (device : List ℕ) (wait : Wait) (until : Option ℕ)
    → cond (not named) (Some (Fails NotAccessible)) (cond (not more) (Some (Fails OutOfResources))
    (cond (asks && locked) (Some (Awaits Lock (Some timeout))) None)) ≡ Some (Awaits wait until)
    → BeginsWait wait until (CreateLink client_id asks timeout device)
link_begins false more asks locked client_id timeout device wait until e = absurd cc
link_begins true false asks locked client_id timeout device wait until e = absurd cc
link_begins true true true true client_id timeout device wait until e =
    begins_same Lock wait (Some timeout) until (CreateLink client_id true timeout device)
    (inr (timeout, refl, omega arith, λ (lock : Lock ≡ Lock). omega arith)) e
link_begins true true true false client_id timeout device wait until e = absurd cc
link_begins true true false locked client_id timeout device wait until e = absurd cc

channel_begins : (there family peer : Bool) (wait : Wait) (until : Option ℕ) (arguments : Arguments) → waits_for_peer arguments ≡ true
    → Some (cond there (Fails AlreadyEstablished) (cond (not family) (Fails NotSupported) (cond (not peer) (Fails InvalidAddress)
    (Awaits Dial None)))) ≡ Some (Awaits wait until) → BeginsWait wait until arguments
channel_begins true family peer wait until arguments is e = absurd cc
channel_begins false false peer wait until arguments is e = absurd cc
channel_begins false true false wait until arguments is e = absurd cc
channel_begins false true true wait until arguments is e = inl is

pub begins : (c : ℕ) (arguments : Arguments) (acts : List DeviceAct) (wait : Wait) (until : Option ℕ)
    → stop_of c arguments acts ≡ Some (Awaits wait until) → BeginsWait wait until arguments
begins c (CreateLink client_id lock_device lock_timeout device) acts wait until e =
    link_begins _ _ lock_device (is_locked_out (holder (link_acts acts)) None) client_id lock_timeout device wait until e
begins c (OnLink lid call) acts wait until e =
    call_begins (owns c (lid_of (Some lid)) acts) (is_too_long call)
    (is_some (lock_wait call) && is_locked_out (holder (link_acts acts)) (lid_of (Some lid))) (option_map lock_stop (lock_wait call)) _
    wait until (OnLink lid call) (lock_begins lid call (lock_wait call) wait until refl) (device_begins lid call acts wait until) e
begins c (CreateIntrChan host_addr host_port prog_num prog_vers prog_family) acts wait until e = channel_begins _ _ _ wait until
    (CreateIntrChan host_addr host_port prog_num prog_vers prog_family) refl e
begins c DestroyIntrChan acts wait until e = absurd cc
