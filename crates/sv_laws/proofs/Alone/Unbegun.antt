-- In each log of a history, no unit of a message is executed before the message has ended.
use Rattle.std.proofs.Common.{◌≡◌, ℕ, Bool, true, false, List, [], ◌∷◌, ◌++◌, length, drop, nat_lt, Option, Some, None, refl, sym, ap, subst, ◌∙◌, inl, inr, append_assoc}
use Rattle.std.specs.Prelude.{map, pos, ⊤}
use Rattle.std.specs.List.{AllByRecursion}
use Rattle.std.proofs.lemmas.Bool.{cases_Bool}
use Rattle.sv_errors.specs.declared.code.Code.{Code}
use Rattle.sv_errors.specs.declared.source.Source.TheVariants.{Immediate, Bus}
use Rattle.sv_vxi.specs.declared.error_code.ErrorCode.{ErrorCode}
use Rattle.sv_vxi.specs.declared.error_code.ErrorCode.TheVariants.{Abort}
use Rattle.sv_vxi.specs.declared.arguments.GenericCall.TheVariants.{Readstb, Trigger, Clear}
use Rattle.sv_vxi.specs.Arguments.{DeviceWrite, DeviceRead, Generic, DeviceLock, DeviceUnlock, DeviceEnableSrq, DestroyLink, Arguments, CreateLink, OnLink, CreateIntrChan, DestroyIntrChan, max_handle}
use Rattle.sv_links.specs.declared.waiting.Wait.{Wait}
use Rattle.sv_links.specs.Links.{owner, is_of, holder, is_this, is_locked_out, lids_left, closing}
use Rattle.sv_links.specs.Waiting.{Left}
use Rattle.sv_scan.specs.declared.acts.ScanAct.TheVariants.{Trigger as ScanTrigger}
use Rattle.sv_scan.specs.declared.setting.State.{State}
use Rattle.sv_scan.specs.declared.setting.State.TheVariants.{Scanning}
use Rattle.sv_scan.specs.Counted.{trigger_fault}
use Rattle.sv_exchange.specs.Exchange.{has_ended, has_overrun, is_long, current, text, messages, messages_finished, response, is_something}
use Rattle.sv_exchange.specs.Limits.{max_message}
use Rattle.sv_layers.specs.Act.{Act as InstrumentAct, Scanned, exchange_acts as exchanged}
use Rattle.sv_layers.specs.Condition.{effective_acts}
use Rattle.sv_instrument.specs.Stimulus.{or_reported, where_scanning, or_nothing}
use Rattle.sv_instrument.specs.Step.{is_answerable}
use Rattle.sv_history.specs.declared.event.Port.TheVariants.{Conn}
use Rattle.sv_history.specs.declared.event.Config.{Config}
use Rattle.sv_history.specs.Event.{PlainEvent, Turn, Refuse, Took, Close, Dialed, External, Tick}
use Rattle.sv_history.specs.Act.{Act, DeviceAct, CallTaken, PortClosed, Waited, Applied, Ticked, On, OnDevice, of, device_acts, link_acts, instrument_acts, exchange_acts}
use Rattle.sv_history.specs.Connection.{pending_call, next_call}
use Rattle.sv_history.specs.CallOutcome.{CallOutcome, only}
use Rattle.sv_history.specs.CoreCall.{CoreCall, failure}
use Rattle.sv_history.specs.CoreChannel.{own_call}
use Rattle.sv_history.specs.Interrupts.{has_channel, connect_outcome}
use Rattle.sv_history.specs.Admission.{Stop, Fails, Awaits, stop_of, admission}
use Rattle.sv_history.specs.Request.{Request, CoreRequest, core_call_in, next_request}
use Rattle.sv_history.specs.Refusing.{refusable}
use Rattle.sv_history.specs.Effect.{Effect, acts_of}
use Rattle.sv_history.specs.Execution.{request_effect, aborts}
use Rattle.sv_history.specs.Resuming.{leaving, resume_outcome, next_wait, effect_of, failure_effect, late}
use Rattle.sv_history.specs.Settling.{IsNext}
use Rattle.sv_history.specs.History.{abort_acts, turn_acts, own_acts, IsLogOf}
use Rattle.sv_history.proofs.Projections.{device_acts_append, device_effect, instrument_acts_applied, instrument_acts_links}
use Rattle.sv_laws.proofs.Facts.{all_append}
use Rattle.sv_laws.proofs.EveryLog.EachEvent.{induction_over_history, turn_acts_in_order, refuse_keeps, close_acts, device_acts_of_close}
use Rattle.sv_instrument.specs.HeldUnit.{held_unit}
use Rattle.sv_laws.proofs.Alone.Texts.{Left as Nothing, rest_unended, rest_short}
use Rattle.sv_laws.proofs.Alone.Sound.{IsTame, NothingExecuted, Sound, sound_tame, step_sound}

-- ---- acts of the device

abbrev Tame : DeviceAct → Type 0
Tame (Applied act) = IsTame act
Tame _ = ⊤

abbrev IsSoundLog : List Act → Type 0
IsSoundLog log = Sound (instrument_acts (device_acts log))

tame_more : (adds acts : List DeviceAct) → AllByRecursion Tame adds → Sound (instrument_acts acts) → Sound (instrument_acts (adds ++ acts))
tame_more [] acts tame s = s
tame_more (Applied act ∷ adds) acts tame s = sound_tame act (instrument_acts (adds ++ acts)) tame.0 (tame_more adds acts tame.1 s)
tame_more (_ ∷ adds) acts tame s = tame_more adds acts tame.1 s

effect_keeps_sound : (c : ℕ) (effect : Effect) (log : List Act) → AllByRecursion Tame effect.adds → IsSoundLog log
    → IsSoundLog (acts_of c effect ++ log)
effect_keeps_sound c effect log tame s = subst (λ (l : List DeviceAct). Sound (instrument_acts l)) (sym (device_effect c effect log))
    (tame_more effect.adds (device_acts log) tame s)

-- ---- calls

tame_trigger : (fault : Option Code) → AllByRecursion Tame (map Applied (or_reported fault ∷ []))
tame_trigger None = (tt, tt)
tame_trigger (Some code) = (tt, tt)

all_tame : (config : Config) (polled c : ℕ) (arguments : Arguments) (acts : List DeviceAct)
    → AllByRecursion Tame (own_call config polled c arguments acts).adds
all_tame config polled c (CreateLink client_id true lock_timeout device) acts = elim (cases_Bool (lids_left (link_acts acts))) [
  | inl e ↦ rw e (tt, (tt, tt))
  | inr e ↦ rw e tt
]
all_tame config polled c (CreateLink client_id false lock_timeout device) acts = elim (cases_Bool (lids_left (link_acts acts))) [
  | inl e ↦ rw e (tt, tt)
  | inr e ↦ rw e tt
]
all_tame config polled c (OnLink (pos n) (DeviceWrite io_timeout lock_timeout flags bytes)) acts =
    elim (cases_Bool (nat_lt max_message (length bytes))) [
      | inl e ↦ rw e tt
      | inr e ↦ elim (cases_Bool (has_ended (exchange_acts acts))) [ inl k ↦ rw (e, k) tt | inr k ↦ rw (e, k) (tt, tt) ]
    ]
all_tame config polled c (OnLink (pos n) (DeviceRead request_size io_timeout lock_timeout flags term_char)) acts =
    elim (cases_Bool (is_answerable (instrument_acts acts))) [
      | inl k ↦ elim (cases_Bool (is_something (response (exchange_acts acts)))) [
        | inl e ↦ rw (k, e) (tt, tt)
        | inr e ↦ rw (k, e) (tt, (tt, tt))
      ]
      | inr k ↦ elim (cases_Bool (is_something (response (exchange_acts acts)))) [
        | inl e ↦ rw (k, e) (tt, tt)
        | inr e ↦ rw (k, e) tt
      ]
    ]
all_tame config polled c (OnLink (pos n) (Generic Readstb flags lock_timeout io_timeout)) acts = (tt, tt)
all_tame config polled c (OnLink (pos n) (Generic Trigger flags lock_timeout io_timeout)) acts =
    tame_trigger (trigger_fault (effective_acts (instrument_acts acts)) Bus)
all_tame config polled c (OnLink (pos n) (Generic Clear flags lock_timeout io_timeout)) acts = (tt, tt)
all_tame config polled c (OnLink (pos n) (DeviceLock flags lock_timeout)) acts =
    elim (cases_Bool (is_locked_out (holder (link_acts acts)) (Some n))) [ inl e ↦ rw e tt | inr e ↦ rw e (tt, tt) ]
all_tame config polled c (OnLink (pos n) DeviceUnlock) acts =
    elim (cases_Bool (is_this n (holder (link_acts acts)))) [ inl e ↦ rw e (tt, tt) | inr e ↦ rw e tt ]
all_tame config polled c (OnLink (pos n) (DeviceEnableSrq true handle)) acts = elim (cases_Bool (is_of c (owner n (link_acts acts)))) [
  | inl e ↦ elim (cases_Bool (nat_lt max_handle (length handle))) [ inl k ↦ rw (e, k) tt | inr k ↦ rw (e, k) (tt, tt) ]
  | inr e ↦ rw e tt
]
all_tame config polled c (OnLink (pos n) (DeviceEnableSrq false handle)) acts =
    elim (cases_Bool (is_of c (owner n (link_acts acts)))) [ inl e ↦ rw e (tt, tt) | inr e ↦ rw e tt ]
all_tame config polled c (OnLink (pos n) DestroyLink) acts = (tt, tt)
all_tame config polled c DestroyIntrChan acts =
    elim (cases_Bool (has_channel c acts)) [ inl e ↦ rw e (tt, tt) | inr e ↦ rw e tt ]
all_tame config polled c _ acts = tt

tame_leaving : (c : ℕ) (outcome : CallOutcome) → AllByRecursion Tame outcome.adds → AllByRecursion Tame (leaving c outcome).adds
tame_leaving c outcome tame = all_append Tame outcome.adds (Waited (Left c) ∷ []) tame (tt, tt)

tame_resumed : (config : Config) (polled c : ℕ) (arguments : Arguments) (next : Option (Wait × ℕ)) (acts : List DeviceAct)
    → AllByRecursion Tame (resume_outcome config polled c arguments next acts).adds
tame_resumed config polled c arguments (Some wait) acts = (tt, tt)
tame_resumed config polled c arguments None acts = tame_leaving c (own_call config polled c arguments (Waited (Left c) ∷ acts))
    (all_tame config polled c arguments (Waited (Left c) ∷ acts))

tame_connected : (c : ℕ) (ok : Bool) (arguments : Arguments) → AllByRecursion Tame (connect_outcome c ok arguments).adds
tame_connected c true (CreateIntrChan host_addr host_port prog_num prog_vers prog_family) = (tt, tt)
tame_connected c false (CreateIntrChan host_addr host_port prog_num prog_vers prog_family) = tt
tame_connected c ok _ = tt

tame_effect : (c : ℕ) (does : Arguments → CallOutcome) (call : Option CoreCall)
    → ((arguments : Arguments) → AllByRecursion Tame (does arguments).adds) → AllByRecursion Tame (effect_of c does call).adds
tame_effect c does (Some call) tame = tame call.arguments
tame_effect c does None tame = (tt, tt)

failing_call_keeps_sound : (error : ErrorCode) (c : ℕ) (call : Option CoreCall) (log : List Act) → IsSoundLog log
    → IsSoundLog (acts_of c (failure_effect error c call) ++ log)
failing_call_keeps_sound error c call log = effect_keeps_sound c (failure_effect error c call) log
    (tame_effect c (λ arguments. leaving c (only (failure arguments error))) call
    (λ arguments. tame_leaving c (only (failure arguments error)) tt))

tame_admitted : (config : Config) (polled c : ℕ) (arguments : Arguments) (stop : Option Stop) (acts : List DeviceAct)
    → AllByRecursion Tame (admission config polled c arguments stop acts).adds
tame_admitted config polled c arguments None acts = all_tame config polled c arguments acts
tame_admitted config polled c arguments (Some (Fails error)) acts = tt
tame_admitted config polled c arguments (Some (Awaits wait timeout)) acts = (tt, tt)

tame_request : (config : Config) (polled c : ℕ) (request : Request) (acts : List DeviceAct)
    → AllByRecursion Tame (request_effect config polled c request acts).adds
tame_request config polled c (CoreRequest call) acts =
    tame_admitted config polled c call.arguments (stop_of c call.arguments acts) acts
tame_request config polled c _ acts = tt

aborted_so : (found : Option ℕ) (log : List Act) → IsSoundLog log → IsSoundLog (abort_acts found log ++ log)
aborted_so (Some d) log s = failing_call_keeps_sound Abort d (core_call_in (pending_call (of d log))) log s
aborted_so None log s = s

turn_keeps_sound : (config : Config) (polled c : ℕ) (found : Option (List ℕ)) (asked : Option Request) (log : List Act) → IsSoundLog log
    → IsSoundLog (turn_acts config polled c found asked log ++ log)
turn_keeps_sound config polled c (Some bytes) (Some request) log s =
    let effect = request_effect config polled c request (device_acts log) in
    let taken = acts_of c effect ++ On c (CallTaken bytes) ∷ log in
    subst IsSoundLog (sym (turn_acts_in_order c bytes effect (aborts request (device_acts log)) log))
    (aborted_so (aborts request (device_acts log)) taken
    (effect_keeps_sound c effect (On c (CallTaken bytes) ∷ log) (tame_request config polled c request (device_acts log)) s))
turn_keeps_sound config polled c _ _ log s = s

-- ---- steps and events

happened_so : (adds : List InstrumentAct) (log : List Act) → Sound (adds ++ instrument_acts (device_acts log))
    → IsSoundLog (map OnDevice (map Applied adds) ++ log)
happened_so adds log s = subst Sound (sym (ap instrument_acts (device_acts_append (map Applied adds) log)
    ∙ instrument_acts_applied adds (device_acts log))) s

step_keeps_sound : (config : Config) (log new : List Act) → IsSoundLog log → IsNext config log new → IsSoundLog new
step_keeps_sound config log new s (inl (adds, such, is)) = subst IsSoundLog (sym is) (happened_so adds log (subst Sound (sym such.1)
    (sound_tame (Scanned (ScanTrigger Immediate)) (instrument_acts (device_acts log)) tt s)))
step_keeps_sound config log new s (inr (none, inl (c, wait, polled, oldest, for, said, is))) =
    let call = core_call_in (pending_call (of c log)) in
    let does = λ (arguments : Arguments). resume_outcome config polled c arguments (next_wait wait arguments (device_acts log))
    (device_acts log) in
    subst IsSoundLog (sym is) (effect_keeps_sound c (effect_of c does call) log (tame_effect c does call (λ arguments.
    tame_resumed config polled c arguments (next_wait wait arguments (device_acts log)) (device_acts log))) s)
step_keeps_sound config log new s (inr (none, inr (still, inl (adds, step, is)))) =
    subst IsSoundLog (sym is)
    (happened_so adds log (step_sound (instrument_acts (device_acts log)) (adds ++ instrument_acts (device_acts log))
    step s))
step_keeps_sound config log new s (inr (none, inr (still, inr (idle, (c, wait, oldest, for, is))))) =
    subst IsSoundLog (sym is) (failing_call_keeps_sound (late wait) c (core_call_in (pending_call (of c log))) log s)

ticked_so : (now : State) (log : List Act) → IsSoundLog log
    → IsSoundLog ((map OnDevice (map Applied (where_scanning now)) ++ OnDevice Ticked ∷ []) ++ log)
ticked_so Scanning log s = s
ticked_so _ log s = s

triggered_so : (fault : Option Code) (log : List Act) → IsSoundLog log → IsSoundLog (map OnDevice (map Applied (or_nothing fault)) ++ log)
triggered_so None log s = s
triggered_so (Some code) log s = s

closed_so : (c : ℕ) (log : List Act) → IsSoundLog log → IsSoundLog (map OnDevice (close_acts c (device_acts log)) ++ On c PortClosed ∷ log)
closed_so c log s =
    subst Sound (sym (ap instrument_acts (device_acts_of_close c log)
    ∙ instrument_acts_links (closing c (link_acts (device_acts log))) (Waited (Left c) ∷ device_acts log))) s

event_keeps_sound : (config : Config) (polled : ℕ) (event : PlainEvent) (log : List Act) → IsSoundLog log
    → IsSoundLog (own_acts config polled event log ++ log)
event_keeps_sound config polled (Turn d) log s = turn_keeps_sound config polled d (next_call (of d log)) (next_request (of d log)) log s
event_keeps_sound config polled (Refuse d) log s =
    refuse_keeps IsSoundLog d (next_call (of d log)) (refusable (of d log)) log s (λ bytes call e f. s)
event_keeps_sound config polled (Took (Conn d) count) log s = s
event_keeps_sound config polled (Close (Conn d)) log s =
    subst IsSoundLog (sym (append_assoc (map OnDevice (close_acts d (device_acts log))) (On d PortClosed ∷ []) log)) (closed_so d log s)
event_keeps_sound config polled (Dialed d ok) log s =
    let call = core_call_in (pending_call (of d log)) in
    let does = λ (arguments : Arguments). leaving d (connect_outcome d ok arguments) in
    effect_keeps_sound d (effect_of d does call) log (tame_effect d does call
    (λ arguments. tame_leaving d (connect_outcome d ok arguments) (tame_connected d ok arguments))) s
event_keeps_sound config polled External log s = triggered_so _ log s
event_keeps_sound config polled Tick log s = ticked_so _ log s
event_keeps_sound config polled _ log s = s

sound_log : (config : Config) (history : List PlainEvent) (log : List Act) → IsLogOf config history log
    → Sound (instrument_acts (device_acts log))
sound_log config = induction_over_history config IsSoundLog (inr (refl, (refl, refl, refl)), λ h. absurd cc)
    (λ event polled channel_log log is_event free s. event_keeps_sound config polled event log s) (step_keeps_sound config)

-- ---- at rest

unended_is_fresh : (acts : List InstrumentAct) → Sound acts → has_ended (exchanged acts) ≡ false
    → (held_unit acts ≡ None) × NothingExecuted (current (exchanged acts))
unended_is_fresh acts (inl e, long) unended = absurd (let z : true ≡ false = sym e ∙ unended in cc)
unended_is_fresh acts (inr fresh, long) unended = fresh

-- A message that isn't too long wasn't reported as too long.
short_message_not_overrun : (acts : List InstrumentAct) → Sound acts → is_long (exchanged acts) ≡ false
    → has_overrun (current (exchanged acts)) ≡ false
short_message_not_overrun acts s short = elim (cases_Bool (has_overrun (current (exchanged acts)))) [
  | inl e ↦ absurd (let z : true ≡ false = sym (s.1 e) ∙ short in cc)
  | inr e ↦ e
]

-- If all text was executed, no unit of the current message was executed, and no unit is held.
pub all_executed_is_at_rest : (config : Config) (history : List PlainEvent) (log : List Act) → IsLogOf config history log
    → drop (messages_finished (exchange_acts (device_acts log))) (messages (text (exchange_acts (device_acts log)))) ≡ [] ∷ []
    → Nothing ([] ∷ []) (exchange_acts (device_acts log)) × (held_unit (instrument_acts (device_acts log)) ≡ None)
all_executed_is_at_rest config history log is_log left =
    let acts = instrument_acts (device_acts log) in
    let sound = sound_log config history log is_log in
    let fresh = unended_is_fresh acts sound (rest_unended (exchanged acts) left) in (
      record {
        left = left;
        done = fresh.1.0;
        overrun = short_message_not_overrun acts sound (rest_short (exchanged acts) left);
        dropped = fresh.1.1;
        given = fresh.1.2;
      },
      fresh.0,
    )
