-- What follows from a call's arguments and from what stops the call: its result, what it waits for,
-- and whether a place and memory are reserved for its link.
use Rattle.std.proofs.Common.{◌≡◌, ℕ, ◌<◌, ◌&&◌, Bool, true, false, cond, suc, List, [], ◌∷◌, nat_lt, Option, Some, None, refl, sym, ap, subst, ◌∙◌, arith}
use Rattle.std.specs.Prelude.{ℤ, pos, negsuc, not, ◌||◌, is_none, is_some, option_map, Result, Ok, Err, IfOk, OnOk, OnErr, ◌==◌}
use Rattle.sv_vxi.specs.declared.error_code.ErrorCode.TheVariants.{InvalidLink, ParameterError, IoTimeout, NotAccessible, NotSupported, OutOfResources, InvalidAddress, Locked as DeviceLocked}
use Rattle.sv_vxi.specs.declared.arguments.LockWait.{LockWait}
use Rattle.sv_vxi.specs.Arguments.{LinkCall, DeviceWrite, DeviceRead, Arguments, CreateLink, OnLink, CreateIntrChan, DestroyIntrChan, link, lock_wait, is_create_link}
use Rattle.sv_links.specs.declared.waiting.Entry.{Entry}
use Rattle.sv_links.specs.declared.waiting.Wait.{Wait}
use Rattle.sv_links.specs.declared.waiting.Wait.TheVariants.{Lock, Input, Response, Dial}
use Rattle.sv_links.specs.Links.{holder, is_locked_out, is_this, lids_left}
use Rattle.sv_links.specs.Waiting.{Entered, Left, creating, waits, link as link_of_wait, is_lock}
use Rattle.sv_links.specs.Queue.{IsEntry, creations, without, wait_measure}
use Rattle.sv_history.specs.declared.event.Config.{Config}
use Rattle.sv_history.specs.Act.{DeviceAct, Waited, link_acts, wait_acts, instrument_acts, exchange_acts}
use Rattle.sv_history.specs.CallOutcome.{only}
use Rattle.sv_history.specs.CoreCall.{lid_of, is_too_long, failure}
use Rattle.sv_history.specs.Interrupts.{is_peer, dialing, has_channel}
use Rattle.sv_history.specs.CoreChannel.{owns, make_link, link_call, own_call}
use Rattle.sv_history.specs.Admission.{Stop, Fails, Awaits, lock_stop, device_wait, may_make_more, channel_stop, stop_of, admission}
use Rattle.sv_history.specs.History.{wants_memory}
use Rattle.sv_server.specs.Device.Representation.{Device, IsDevice, HasPlace}
use Rattle.sv_server.specs.Device.Inside.Outcome.{IsReadyFor, CanExecute, IsCall, IsFree, NeedsNoWait, IsGranted, MayMake, Admits, AdmitsAt, executed, makes_link}
use Rattle.sv_server.specs.declared.outcome.Outcome.{Outcome}
use Rattle.sv_server.specs.declared.device.admitted.Admitted.{Admitted}
use Rattle.sv_server.specs.declared.device.admitted.Admitted.TheVariants as admitted
use Rattle.sv_vxi.specs.Reading.{plain_call}
use Rattle.sv_exchange.specs.Exchange.{has_ended, response, is_something}
use Rattle.sv_instrument.specs.Step.{is_answerable}
use Rattle.sv_instrument.specs.Representation.{Kept}
use Rattle.std.proofs.lemmas.Bool.{and_parts, or_right, or_left}
use Rattle.std.proofs.lemmas.Option.{same_Some}

pub if_ok : {A E : Type 0} (r : Result A E) (P Q : A → Type 0) → IfOk r P → ((a : A) → P a → Q a) → IfOk r Q
if_ok (Ok a) P Q p then = then a p
if_ok (Err e) P Q p then = tt

pub on_err_then : {A E : Type 0} (r : Result A E) (P Q : Type 0) → OnErr r P → (P → Q) → OnErr r Q
on_err_then (Ok a) P Q p then = tt
on_err_then (Err e) P Q p then = then p

pub on_ok : {A E : Type 0} (r : Result A E) (P Q : Type 0) → OnOk r P → (P → Q) → OnOk r Q
on_ok (Ok a) P Q p then = then p
on_ok (Err e) P Q p then = tt

pub on_err : {A E : Type 0} (r : Result A E) (P : Type 0) → P → OnErr r P
on_err (Ok a) P p = tt
on_err (Err e) P p = p

-- ---- what may stop a create_link

unstopped_link_has_place : (named more asks locked : Bool) (timeout : ℕ)
    → cond (not named) (Some (Fails NotAccessible)) (cond (not more) (Some (Fails OutOfResources))
    (cond (asks && locked) (Some (Awaits Lock (Some timeout))) None)) ≡ None
    → (more ≡ true) × (asks ≡ true → locked ≡ false)
unstopped_link_has_place false more asks locked timeout e = absurd cc
unstopped_link_has_place true false asks locked timeout e = absurd cc
unstopped_link_has_place true true true true timeout e = absurd cc
unstopped_link_has_place true true true false timeout e = (refl, λ _. refl)
unstopped_link_has_place true true false locked timeout e = (refl, λ z. absurd cc)

link_waits_for_lock : (named more asks locked : Bool) (timeout : ℕ) (wait : Wait) (until : Option ℕ)
    → cond (not named) (Some (Fails NotAccessible)) (cond (not more) (Some (Fails OutOfResources))
    (cond (asks && locked) (Some (Awaits Lock (Some timeout))) None)) ≡ Some (Awaits wait until)
    → (more ≡ true) × (wait ≡ Lock)
link_waits_for_lock false more asks locked timeout wait until e = absurd cc
link_waits_for_lock true false asks locked timeout wait until e = absurd cc
link_waits_for_lock true true true true timeout wait until e = (refl, cc)
link_waits_for_lock true true true false timeout wait until e = absurd cc
link_waits_for_lock true true false locked timeout wait until e = absurd cc

-- A create_link that nothing stops has a place for its link and, if it asks for the lock, finds it
-- free.
pub granted_start : (c : ℕ) (arguments : Arguments) (kept : Device) (acts : List DeviceAct) → stop_of c arguments acts ≡ None
    → (is_create_link arguments ≡ true → may_make_more acts ≡ true → HasPlace kept acts) → IsGranted arguments kept acts
granted_start c (CreateLink client_id lock_device lock_timeout device) kept acts free place =
    let known = unstopped_link_has_place _ (may_make_more acts) lock_device _ lock_timeout free in (place refl known.0, known.1)
granted_start c _ kept acts free place = tt

-- ---- what a call waits for

channel_waits : (there : Bool) (host_addr host_port prog_family : ℕ) (wait : Wait) (until : Option ℕ)
    → channel_stop there host_addr host_port prog_family ≡ Awaits wait until → (there ≡ false) × (wait ≡ Dial)
channel_waits true host_addr host_port prog_family wait until e = absurd cc
channel_waits false host_addr host_port prog_family wait until e =
    (refl, by (not (prog_family == 0)) (not (is_peer host_addr host_port)) e)
  where
    by : (other far : Bool) → cond other (Fails NotSupported) (cond far (Fails InvalidAddress) (Awaits Dial None)) ≡ Awaits wait until
        → wait ≡ Dial
    by true far e = absurd cc
    by false true e = absurd cc
    by false false e = cc

lock_both : (wait : Wait) (b : Bool) → (is_lock (Some wait) && b) ≡ true → (wait ≡ Lock) × (b ≡ true)
lock_both Lock b e = (refl, e)
lock_both _ b e = absurd cc

-- A call that waits for the lock and names no link is a create_link, and a link may still be made.
pub lock_wait_is_create_link : (c : ℕ) (arguments : Arguments) (acts : List DeviceAct) (wait : Wait) (until : Option ℕ)
    → stop_of c arguments acts ≡ Some (Awaits wait until) → (is_lock (Some wait) && is_none (lid_of (link arguments))) ≡ true
    → (is_create_link arguments ≡ true) × (may_make_more acts ≡ true)
lock_wait_is_create_link c (CreateLink client_id lock_device lock_timeout device) acts wait until e both =
    (refl, (link_waits_for_lock _ (may_make_more acts) lock_device _ lock_timeout wait until e).0)
lock_wait_is_create_link c (OnLink (pos n) call) acts wait until e both =
    absurd (let z : false ≡ true = (lock_both wait false both).1 in cc)
lock_wait_is_create_link c (OnLink (negsuc n) call) acts wait until e both = absurd cc
lock_wait_is_create_link c (CreateIntrChan host_addr host_port prog_num prog_vers prog_family) acts wait until e both =
    let dial = channel_waits (has_channel c acts) host_addr host_port prog_family wait until (same_Some _ _ e) in
    absurd (let z : Lock ≡ Dial = sym (lock_both wait _ both).0 ∙ dial.1 in cc)
lock_wait_is_create_link c DestroyIntrChan acts wait until e both = absurd cc

-- Conversely, a suspended create_link waits for the lock and names no link.
pub create_link_waits_for_lock : (c : ℕ) (arguments : Arguments) (acts : List DeviceAct) (wait : Wait) (until : Option ℕ)
    → stop_of c arguments acts ≡ Some (Awaits wait until) → is_create_link arguments ≡ true
    → (is_lock (Some wait) && is_none (lid_of (link arguments))) ≡ true
create_link_waits_for_lock c (CreateLink client_id lock_device lock_timeout device) acts wait until e makes =
    rw (link_waits_for_lock _ (may_make_more acts) lock_device _ lock_timeout wait until e).1 refl
create_link_waits_for_lock c _ acts wait until e makes = absurd (let z : false ≡ true = makes in cc)

-- Only create_intr_chan waits until its peer is connected, and then its connection has no interrupt
-- channel.

lock_never : (lock : Option LockWait) (until : Option ℕ) → option_map lock_stop lock ≡ Some (Awaits Dial until) → ⊥
lock_never None until e = cc
lock_never (Some wait) until e = by wait.waits e
  where
    by : (waits : Bool) → Some (cond waits (Awaits Lock (Some wait.timeout)) (Fails DeviceLocked)) ≡ Some (Awaits Dial until) → ⊥
    by true e = cc
    by false e = cc

device_never : (call : LinkCall) (acts : List DeviceAct) (until : Option ℕ)
    → option_map (λ (wait : Wait × ℕ). Awaits wait.0 (Some wait.1)) (device_wait call acts) ≡ Some (Awaits Dial until) → ⊥
device_never (DeviceWrite timeout lock_timeout flags bytes) acts until e = by (has_ended (exchange_acts acts)) e
  where
    by : (b : Bool) → option_map (λ (wait : Wait × ℕ). Awaits wait.0 (Some wait.1)) (cond b (Some (Input, timeout)) None)
        ≡ Some (Awaits Dial until) → ⊥
    by true e = cc
    by false e = cc
device_never (DeviceRead request_size timeout lock_timeout flags term_char) acts until e = by (is_answerable (instrument_acts acts)) e
  where
    by : (b : Bool) → option_map (λ (wait : Wait × ℕ). Awaits wait.0 (Some wait.1)) (cond b None (Some (Response, timeout)))
        ≡ Some (Awaits Dial until) → ⊥
    by true e = cc
    by false e = cc
device_never _ acts until e = absurd cc

dial_never : (own long out : Bool) (lock : Option LockWait) (device : Option Stop) (until : Option ℕ)
    → (device ≡ Some (Awaits Dial until) → ⊥) → cond (not own) (Some (Fails InvalidLink)) (cond long (Some (Fails ParameterError))
    (cond out (option_map lock_stop lock) device)) ≡ Some (Awaits Dial until) → ⊥
dial_never false long out lock device until never e = cc
dial_never true true out lock device until never e = cc
dial_never true false true lock device until never e = lock_never lock until e
dial_never true false false lock device until never e = never e

pub dialing_has_no_channel : (c : ℕ) (arguments : Arguments) (acts : List DeviceAct) (until : Option ℕ)
    → stop_of c arguments acts ≡ Some (Awaits Dial until)
    → (has_channel c acts ≡ false) × (is_create_link arguments ≡ false)
dialing_has_no_channel c (CreateLink client_id lock_device lock_timeout device) acts until e =
    absurd (let z : Dial ≡ Lock = (link_waits_for_lock _ (may_make_more acts) lock_device _ lock_timeout Dial until e).1 in cc)
dialing_has_no_channel c (CreateIntrChan host_addr host_port prog_num prog_vers prog_family) acts until e =
    ((channel_waits (has_channel c acts) host_addr host_port prog_family Dial until (same_Some _ _ e)).0, refl)
dialing_has_no_channel c (OnLink lid call) acts until e =
    absurd (dial_never (owns c (lid_of (Some lid)) acts) (is_too_long call) _ (lock_wait call)
    (option_map (λ (wait : Wait × ℕ). Awaits wait.0 (Some wait.1)) (device_wait call acts)) until (device_never call acts until) e)
dialing_has_no_channel c DestroyIntrChan acts until e = absurd cc

-- ---- a call that is executed

-- A link number that was read is the call's argument.
pub link_numbered : (n : ℕ) (lid : ℤ) → Some n ≡ lid_of (Some lid) → lid ≡ pos n
link_numbered n (pos m) e = ap pos (sym (same_Some n m e))
link_numbered n (negsuc m) e = absurd cc

-- A call that would have to wait for the device times out.
pub own_times_out : (config : Config) (polled c n : ℕ) (call : LinkCall) (acts : List DeviceAct) → is_too_long call ≡ false
    → is_some (device_wait call acts) ≡ true
    → own_call config polled c (OnLink (pos n) call) acts ≡ only (failure (OnLink (pos n) call) IoTimeout)
own_times_out config polled c n (DeviceWrite timeout lock_timeout flags bytes) acts short due =
    rw (short, ended_of (has_ended (exchange_acts acts)) due) refl
  where
    ended_of : (b : Bool) → is_some {T = Wait × ℕ} (cond b (Some (Input, timeout)) None) ≡ true → b ≡ true
    ended_of true e = refl
    ended_of false e = absurd cc
own_times_out config polled c n (DeviceRead request_size timeout lock_timeout flags term_char) acts short due =
    let none = unanswerable_of (is_answerable (instrument_acts acts)) due in
    rw (none, nothing_there (response (exchange_acts acts)) _ none) refl
  where
    unanswerable_of : (b : Bool) → is_some {T = Wait × ℕ} (cond b None (Some (Response, timeout))) ≡ true → b ≡ false
    unanswerable_of true e = absurd cc
    unanswerable_of false e = refl

    nothing_there : (bytes : List ℕ) (b : Bool) → (is_something bytes || b) ≡ false → is_something bytes ≡ false
    nothing_there [] b e = refl
    nothing_there (byte ∷ bytes) b e = absurd cc
own_times_out config polled c n _ acts short due = absurd cc

-- An admitted call does what a call with its arguments does.
pub executed_is : (config : Config) (polled c : ℕ) (call : Admitted) (arguments : Arguments) (acts : List DeviceAct) → IsCall call arguments
    → own_call config polled c arguments acts ≡ executed config polled c call acts
executed_is config polled c (admitted.CreateLink lock_device) arguments acts (client_id, lock_timeout, device, is) = rw is refl
executed_is config polled c (admitted.OnLink lid call) arguments acts is = rw is refl
executed_is config polled c admitted.DestroyIntrChan arguments acts is = rw is refl

pub makes_as : (call : Admitted) (arguments : Arguments) → IsCall call arguments → is_create_link arguments ≡ makes_link call
makes_as (admitted.CreateLink lock_device) arguments (client_id, lock_timeout, device, is) = rw is refl
makes_as (admitted.OnLink lid call) arguments is = rw is refl
makes_as admitted.DestroyIntrChan arguments is = rw is refl

-- A call can be executed as long as the instrument stays as it is.
pub can_still : (call : Admitted) (old new : Device) → new.instrument ≡ old.instrument → CanExecute call old → CanExecute call new
can_still (admitted.OnLink lid call) old new same can =
    (subst (λ (instrument : Kept). IsReadyFor (plain_call call) instrument) (sym same) can.0, can.1)
can_still (admitted.CreateLink lock_device) old new same can = tt
can_still admitted.DestroyIntrChan old new same can = tt

-- A call that nothing stops needn't wait for the device.
no_stop : (own long out : Bool) (lock : Option LockWait) (device : Option (Wait × ℕ))
    → cond (not own) (Some (Fails InvalidLink)) (cond long (Some (Fails ParameterError))
    (cond (is_some lock && out) (option_map lock_stop lock) (option_map (λ (wait : Wait × ℕ). Awaits wait.0 (Some wait.1)) device))) ≡ None
    → device ≡ None
no_stop false long out lock device e = absurd cc
no_stop true true out lock device e = absurd cc
no_stop true false true (Some wait) device e = absurd cc
no_stop true false true None None e = refl
no_stop true false true None (Some wait) e = absurd cc
no_stop true false false (Some lock) None e = refl
no_stop true false false (Some lock) (Some wait) e = absurd cc
no_stop true false false None None e = refl
no_stop true false false None (Some wait) e = absurd cc

-- What stops a call on a link while another link holds the lock, and while none does.
pub stops_locked : (out : Bool) (lock : Option LockWait) (wait : LockWait) (other : Option Stop) → Some wait ≡ cond out lock None
    → cond (is_some lock && out) (option_map lock_stop lock) other ≡ Some (lock_stop wait)
stops_locked true (Some lock) wait other e = ap (option_map lock_stop) (sym e)
stops_locked true None wait other e = absurd cc
stops_locked false lock wait other e = absurd cc

pub stops_unlocked : (out : Bool) (lock : Option LockWait) (stop other : Option Stop) → None ≡ cond out lock None
    → cond (is_some lock && out) stop other ≡ other
stops_unlocked true (Some lock) stop other e = absurd cc
stops_unlocked true None stop other e = refl
stops_unlocked false (Some lock) stop other e = refl
stops_unlocked false None stop other e = refl

pub none_of_not_some : (wait : Option (Wait × ℕ)) → false ≡ is_some wait → wait ≡ None
none_of_not_some None e = refl
none_of_not_some (Some wait) e = absurd cc

pub needs_no_wait : (c : ℕ) (call : Admitted) (arguments : Arguments) (acts : List DeviceAct) → IsCall call arguments
    → stop_of c arguments acts ≡ None → NeedsNoWait call acts
needs_no_wait c (admitted.CreateLink lock_device) arguments acts is free = tt
needs_no_wait c (admitted.OnLink lid call) arguments acts is free =
    no_stop (owns c (Some lid) acts) (is_too_long (plain_call call)) (is_locked_out (holder (link_acts acts)) (Some lid))
    (lock_wait (plain_call call)) (device_wait (plain_call call) acts) (rw is at free)
needs_no_wait c admitted.DestroyIntrChan arguments acts is free = tt

pub free_of : (call : Admitted) (arguments : Arguments) (kept : Device) (acts : List DeviceAct) → IsCall call arguments
    → IsGranted arguments kept acts → NeedsNoWait call acts → IsFree call kept acts
free_of (admitted.CreateLink lock_device) arguments kept acts (client_id, lock_timeout, device, is) granted needs = rw is at granted
free_of (admitted.OnLink lid call) arguments kept acts is granted needs = needs
free_of admitted.DestroyIntrChan arguments kept acts is granted needs = tt

-- A function that begins a call correctly after acts with the known stop begins it correctly.
pub admits_as : (stop : Option Stop) {E : Type 0} (result : Result Outcome E) (c : ℕ) (arguments : Arguments) (old new : Device)
    → ((config : Config) (acts : List DeviceAct) → IsDevice old config acts → stop_of c arguments acts ≡ stop)
    → AdmitsAt stop result c arguments old new → Admits result c arguments old new
admits_as stop {E} result c arguments old new is at = record {
  does = λ config polled acts known. if_ok result _ _ (at.does config polled acts known) (λ outcome so always. so (is config acts known.0));
  lacks = λ config polled acts known. on_err_then result _ _ (at.lacks config polled acts known)
      (λ wants always. wants (is config acts known.0));
  brief = at.brief;
  err = at.err;
}

-- ---- a suspended call

-- A create_link that leaves the queue of suspended calls gets the place reserved for it.
pub granted_left : (arguments : Arguments) (kept : Device) (waiting : List Entry) (config : Config) (acts : List DeviceAct) (c : ℕ)
    → IsDevice kept config acts → waiting ≡ without c kept.waiting → MayMake arguments c kept acts
    → IsGranted arguments (record kept { waiting = waiting }) (Waited (Left c) ∷ acts)
granted_left (CreateLink client_id lock_device lock_timeout device) kept waiting config acts c is left may =
    rw left ((omega (arith, is.5.0, may.0), omega (arith, is.5.1, may.0)), λ asks. may.1)
granted_left _ kept waiting config acts c is left may = tt

pub may_make_link : (arguments : Arguments) (kept : Device) (acts : List DeviceAct) (c : ℕ) → (is_create_link arguments ≡ true
    → (creations (without c kept.waiting) < creations kept.waiting) × (is_locked_out (holder (link_acts acts)) None ≡ false))
    → MayMake arguments c kept acts
may_make_link (CreateLink client_id lock_device lock_timeout device) kept acts c may = may refl
may_make_link _ kept acts c may = tt

-- A wait whose measure is 1 isn't for the lock.
pub measure_one_is_not_lock : (wait : Wait) → wait_measure wait ≡ 1 → wait ≡ Lock → ⊥
measure_one_is_not_lock Lock e same = absurd cc
measure_one_is_not_lock _ e same = cc

pub free_lock_excludes_nobody : (holder : Option ℕ) (lid : ℕ) → is_locked_out holder None ≡ false → is_locked_out holder (Some lid) ≡ false
free_lock_excludes_nobody (Some other) lid e = absurd cc
free_lock_excludes_nobody None lid e = refl

-- The entry of a suspended call has the link that the log says the call names.
pub entry_names_waiting_link : (c lid : ℕ) (entry : Entry) (acts : List DeviceAct) → entry.conn ≡ c → IsEntry (wait_acts acts) entry
    → is_this lid entry.lid ≡ (is_some (waits c (wait_acts acts)) && is_this lid (link_of_wait c (wait_acts acts)))
entry_names_waiting_link c lid entry acts same is =
    subst (λ (d : ℕ). is_this lid entry.lid ≡ (is_some (waits d (wait_acts acts)) && is_this lid (link_of_wait d (wait_acts acts)))) same
    (ap (λ (l : Option ℕ). is_this lid l) (sym is.2)
    ∙ ap (λ (w : Option Wait). is_some w && is_this lid (link_of_wait entry.conn (wait_acts acts))) (sym is.0))

-- A suspended create_link counts as one link to be made, and a create_intr_chan as one connect.
one_creation_or_dial : (c : ℕ) (named until : Option ℕ) → c < 16
    → (nat_lt 0 (creating (Entered c None Lock until ∷ [])) ≡ true) × (nat_lt 0 (dialing (Entered c named Dial until ∷ [])) ≡ true)
one_creation_or_dial (suc (suc (suc (suc (suc (suc (suc (suc (suc (suc (suc (suc (suc (suc (suc (suc n)))))))))))))))) named until lt =
    absurd
    (omega (arith, lt))
one_creation_or_dial _ named until lt = (refl, refl)

-- ---- calls that need memory

made_wants : (config : Config) (c : ℕ) (lock_device : Bool) (acts : List DeviceAct) → lids_left (link_acts acts) ≡ true
    → wants_memory (make_link config c lock_device acts).adds ≡ true
made_wants config c true acts left = rw left refl
made_wants config c false acts left = rw left refl

pub unstopped_link_needs_memory : (config : Config) (polled c : ℕ) (arguments : Arguments) (acts : List DeviceAct)
    → stop_of c arguments acts ≡ None
    → is_create_link arguments ≡ true → wants_memory (admission config polled c arguments None acts).adds ≡ true
unstopped_link_needs_memory config polled c (CreateLink client_id lock_device lock_timeout device) acts free makes =
    made_wants config c lock_device acts (and_parts _ (lids_left (link_acts acts))
    (unstopped_link_has_place _ (may_make_more acts) lock_device _ lock_timeout
    free).0).1
unstopped_link_needs_memory config polled c _ acts free makes = absurd (let z : false ≡ true = makes in cc)

pub lock_wait_needs_memory : (c : ℕ) (arguments : Arguments) (acts : List DeviceAct) (wait : Wait) (until deadline : Option ℕ) → c < 16
    → stop_of c arguments acts ≡ Some (Awaits wait until) → is_create_link arguments ≡ true
    → wants_memory (Waited (Entered c (lid_of (link arguments)) wait deadline) ∷ []) ≡ true
lock_wait_needs_memory c (CreateLink client_id lock_device lock_timeout device) acts wait until deadline lt e makes =
    rw (link_waits_for_lock _ (may_make_more acts) lock_device _ lock_timeout wait until e).1
    (or_left _ _ (one_creation_or_dial c None deadline lt).0)
lock_wait_needs_memory c _ acts wait until deadline lt e makes = absurd (let z : false ≡ true = makes in cc)

pub dial_needs_memory : (c : ℕ) (named deadline : Option ℕ) → c < 16 → wants_memory (Waited (Entered c named Dial deadline) ∷ []) ≡ true
dial_needs_memory c named deadline lt = or_right (nat_lt 0 (creating (Entered c named Dial deadline ∷ []))) _
    (one_creation_or_dial c named deadline lt).1
