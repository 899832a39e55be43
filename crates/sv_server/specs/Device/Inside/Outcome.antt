-- The outcome of a call that begins, or of a suspended call that continues, in terms of the code's
-- types.
use Rattle.std.specs.Prelude.{◌≡◌, ◌⊎◌, ℕ, ℤ, pos, ◌+◌, ◌<◌, ◌≤◌, ◌||◌, List, [], ◌∷◌, ◌++◌, map, Bool, true, false, IsTrue, Option, Some, None, Result, Ok, Err, IfOk, OnErr, ⊤}
use Rattle.sv_vxi.specs.declared.error_code.ErrorCode.{ErrorCode}
use Rattle.sv_vxi.specs.declared.results.VxiResult.{VxiResult}
use Rattle.sv_vxi.specs.Arguments.{LinkCall, DeviceWrite, DeviceRead, Arguments, CreateLink, OnLink, DestroyIntrChan, is_create_link}
use Rattle.sv_vxi.specs.Reading.{plain_call}
use Rattle.sv_vxi.specs.Results.{Outcome as VxiOutcome, plain_result, data_of}
use Rattle.sv_links.specs.declared.waiting.Entry.{Entry}
use Rattle.sv_links.specs.declared.waiting.Wait.{Wait}
use Rattle.sv_links.specs.Links.{holder, is_locked_out}
use Rattle.sv_links.specs.Waiting.{Left, waits}
use Rattle.sv_links.specs.Queue.{creates, creations, without, anew, queue_measure, wait_measure}
use Rattle.sv_exchange.specs.Exchange.{response, is_something}
use Rattle.sv_exchange.specs.Contents.{is_open, shown_by}
use Rattle.sv_layers.specs.Act.{Act as InstrumentAct}
use Rattle.sv_instrument.specs.Representation.{Kept}
use Rattle.sv_history.specs.declared.event.Config.{Config}
use Rattle.sv_history.specs.Act.{DeviceAct, Waited, Applied, link_acts, wait_acts, instrument_acts, exchange_acts}
use Rattle.sv_history.specs.CallOutcome.{CallOutcome, only}
use Rattle.sv_history.specs.CoreCall.{is_too_long, failure}
use Rattle.sv_history.specs.Interrupts.{is_dialing, connect_outcome}
use Rattle.sv_history.specs.CoreChannel.{reads, make_link, link_call, own_call}
use Rattle.sv_history.specs.Admission.{Stop, Fails, Awaits, device_wait, stop_of, admission}
use Rattle.sv_history.specs.Resuming.{resume_outcome, next_wait}
use Rattle.sv_history.specs.PolledStatus.{IsPolled}
use Rattle.sv_history.specs.History.{wants_memory}
use Rattle.sv_server.specs.declared.outcome.Outcome.{Outcome}
use Rattle.sv_server.specs.declared.outcome.Outcome.TheVariants as outcomes
use Rattle.sv_server.specs.declared.outcome.Answer.TheVariants.{Result as Told}
use Rattle.sv_server.specs.declared.device.resuming.WakeReason.{WakeReason}
use Rattle.sv_server.specs.declared.device.resuming.WakeReason.TheVariants as reasons
use Rattle.sv_server.specs.declared.device.admission.Admission.{Admission}
use Rattle.sv_server.specs.declared.device.admission.Admission.TheVariants as admissions
use Rattle.sv_server.specs.declared.device.admitted.Admitted.{Admitted}
use Rattle.sv_server.specs.declared.device.admitted.Admitted.TheVariants as admitted
use Rattle.sv_server.specs.Connection.Inside.Replies.{IsShort}
use Rattle.sv_server.specs.Device.Representation.{Device, IsDevice, HasPlace}

-- ---- whether a call is executed

-- The instrument can do the call now: it accepts a write, or it can answer a read.
abbrev pub IsReadyFor : LinkCall → Kept → Type 0
IsReadyFor (DeviceWrite io_timeout lock_timeout flags bytes) instrument = IsTrue (is_open instrument.layers.exchange)
IsReadyFor (DeviceRead request_size io_timeout lock_timeout flags term_char) instrument =
    IsTrue (is_something (shown_by instrument.layers.exchange) || is_open instrument.layers.exchange)
IsReadyFor _ instrument = ⊤

-- The device can execute the call now. A write isn't too long.
abbrev pub CanExecute : Admitted → Device → Type 0
CanExecute (admitted.OnLink lid call) kept = IsReadyFor (plain_call call) kept.instrument × (is_too_long (plain_call call) ≡ false)
CanExecute _ kept = ⊤

-- The call has these arguments.
abbrev pub IsCall : Admitted → Arguments → Type 0
IsCall (admitted.CreateLink lock_device) arguments = (client_id : ℤ) × (lock_timeout : ℕ) × (device : List ℕ)
    × (arguments ≡ CreateLink client_id lock_device lock_timeout device)
IsCall (admitted.OnLink lid call) arguments = arguments ≡ OnLink (pos lid) (plain_call call)
IsCall admitted.DestroyIntrChan arguments = arguments ≡ DestroyIntrChan

-- whether a call is create_link
abbrev pub makes_link : Admitted → Bool
makes_link (admitted.CreateLink lock_device) = true
makes_link _ = false

-- The call with these arguments is stopped as the code's `Admission` says.
abbrev pub StopsAs : Admission → Arguments → Option Stop → Type 0
StopsAs (admissions.Refused given) arguments stop =
    (error : ErrorCode) × (stop ≡ Some (Fails error)) × (plain_result given ≡ failure arguments error)
StopsAs (admissions.Suspended wait timeout) arguments stop = stop ≡ Some (Awaits wait timeout)
StopsAs (admissions.Admitted call) arguments stop = stop ≡ None

-- The result of a refused call has no data bytes. The device can execute an admitted call, which
-- has these arguments.
abbrev pub IsSound : Admission → Arguments → Device → Type 0
IsSound (admissions.Refused given) arguments kept = data_of (plain_result given) ≡ []
IsSound (admissions.Suspended wait timeout) arguments kept = ⊤
IsSound (admissions.Admitted call) arguments kept = IsCall call arguments × CanExecute call kept

-- ---- the outcome of a call

-- The device has the state that its acts determine, and a serial poll (device_readstb) after these
-- acts would return `polled`.
abbrev pub IsDeviceAt : Device → Config → ℕ → List DeviceAct → Type 0
IsDeviceAt kept config polled acts = IsDevice kept config acts × IsPolled polled acts

-- If the code already has an answer, its data fit in one reply.
abbrev pub IsBrief : Outcome → Type 0
IsBrief (outcomes.Reply answer) = IsShort answer
IsBrief _ = ⊤

-- The call has the result `result`. So the call isn't suspended.
abbrev pub IsResult : Option VxiOutcome → VxiOutcome → Type 0
IsResult (Some encoded) result = encoded ≡ result
IsResult None result = ⊥

-- The call has the result `given`, as `what` says, and the acts that `what` adds have happened to
-- the device.
abbrev pub GivesResult : VxiResult → Device → Config → List DeviceAct → CallOutcome → Type 0
GivesResult given device config acts what = IsResult what.result (plain_result given) × IsDevice device config (what.adds ++ acts)

-- The code's `Outcome` means the same as `what`. The acts that `what` adds have happened to the
-- device, unless the call reads the response: then these acts haven't happened yet, and the device
-- still has the whole response.
abbrev pub OutcomeIs : Outcome → Device → Config → List DeviceAct → CallOutcome → Type 0
OutcomeIs (outcomes.Reply (Told given)) device config acts what = GivesResult given device config acts what
OutcomeIs (outcomes.Response most term) device config acts what = (what ≡ reads (response (exchange_acts acts)) most term)
    × IsDevice device config acts
OutcomeIs outcomes.Suspended device config acts what = (what.result ≡ None) × IsDevice device config (what.adds ++ acts)
OutcomeIs _ device config acts what = ⊥

-- what the execution of a call does
abbrev pub executed : Config → ℕ → ℕ → Admitted → List DeviceAct → CallOutcome
executed config polled c (admitted.CreateLink lock_device) acts = make_link config c lock_device acts
executed config polled c (admitted.OnLink lid call) acts = link_call polled c lid (plain_call call) acts
executed config polled c admitted.DestroyIntrChan acts = own_call config polled c DestroyIntrChan acts

-- If the call is create_link, the device has a place and memory for the new link. If this
-- create_link also asks for the lock, no link holds the lock.
abbrev pub IsGranted : Arguments → Device → List DeviceAct → Type 0
IsGranted (CreateLink client_id lock_device lock_timeout device) kept acts =
    HasPlace kept acts × (lock_device ≡ true → is_locked_out (holder (link_acts acts)) None ≡ false)
IsGranted _ kept acts = ⊤

-- A call on a link needn't wait for the device.
abbrev pub NeedsNoWait : Admitted → List DeviceAct → Type 0
NeedsNoWait (admitted.OnLink lid call) acts = device_wait (plain_call call) acts ≡ None
NeedsNoWait _ acts = ⊤

-- A call on a link needn't wait for the device. For a create_link, there is a place and memory for
-- the new link, and if the call asks for the lock, no link holds it.
abbrev pub IsFree : Admitted → Device → List DeviceAct → Type 0
IsFree (admitted.CreateLink lock_device) kept acts = HasPlace kept acts
    × (lock_device ≡ true → is_locked_out (holder (link_acts acts)) None ≡ false)
IsFree (admitted.OnLink lid call) kept acts = device_wait (plain_call call) acts ≡ None
IsFree admitted.DestroyIntrChan kept acts = ⊤

-- ---- a call that begins

-- The call of connection `c` was suspended: the entry of this call was appended to the queue of
-- suspended calls. `makes` says whether the call is create_link. If it is, the entry says that the
-- call waits for the lock.
abbrev pub IsBehind : ℕ → Bool → List Entry → List Entry → Type 0
IsBehind c makes old new =
    (entry : Entry) × (entry.conn ≡ c) × (new ≡ without c old ++ entry ∷ []) × (makes ≡ true → creates entry ≡ true)

-- Either the queue of suspended calls is unchanged. Or `IsSuspended` holds, and the entry of
-- connection `c`'s call was appended to the queue.
abbrev pub MayWait : Type 0 → ℕ → Bool → List Entry → List Entry → Type 0
MayWait IsSuspended c makes old new = (new ≡ old) ⊎ (IsSuspended × IsBehind c makes old new)

-- Either the result is an outcome for which `IsSo` and `IsShort` hold. Or memory was refused,
-- nothing changed, and `Wants` holds.
pub record Does {O : Type 0} (IsSo : Config → ℕ → List DeviceAct → O → Type 0) (Wants : Config → ℕ → List DeviceAct → Type 0)
    (IsShort : O → Type 0) {E : Type 0} (result : Result O E) (old new : Device) : Type 0 where
  pub does : (config : Config) (polled : ℕ) (acts : List DeviceAct) → IsDeviceAt old config polled acts
      → IfOk result (λ outcome. IsSo config polled acts outcome)
  pub lacks : (config : Config) (polled : ℕ) (acts : List DeviceAct) → IsDeviceAt old config polled acts
      → OnErr result (Wants config polled acts)
  pub brief : IfOk result (λ outcome. IsShort outcome)
  pub err : OnErr result (new ≡ old)

-- What a function that begins a call does to the device, if `IsAt` holds of the acts that the
-- device did before the call. `Admits` (below) lets `IsAt` hold of any acts. `AdmitsAt` lets it
-- hold of the acts after which `stop` stops the call (nothing stops it if `stop` is `None`).
abbrev pub Begins : (List DeviceAct → Type 0) → {E : Type 0} → Result Outcome E → ℕ → Arguments → Device → Device → Type 0
Begins IsAt result c arguments old new =
    Does (λ config polled acts outcome. IsAt acts
    → OutcomeIs outcome new config acts (admission config polled c arguments (stop_of c arguments acts) acts)
    × MayWait (outcome ≡ outcomes.Suspended) c (is_create_link arguments) old.waiting new.waiting)
    (λ config polled acts. IsAt acts → wants_memory (admission config polled c arguments (stop_of c arguments acts) acts).adds ≡ true)
    IsBrief result old new

abbrev pub Admits : {E : Type 0} → Result Outcome E → ℕ → Arguments → Device → Device → Type 0
Admits result c arguments old new = Begins (λ acts. ⊤) result c arguments old new

abbrev pub AdmitsAt : Option Stop → {E : Type 0} → Result Outcome E → ℕ → Arguments → Device → Device → Type 0
AdmitsAt stop result c arguments old new = Begins (λ acts. stop_of c arguments acts ≡ stop) result c arguments old new

-- ---- a call that was suspended

-- If the suspended call is create_link, a place is reserved for its link, and the lock is now free.
abbrev pub MayMake : Arguments → ℕ → Device → List DeviceAct → Type 0
MayMake (CreateLink client_id lock_device lock_timeout device) c kept acts =
    (creations (without c kept.waiting) < creations kept.waiting) × (is_locked_out (holder (link_acts acts)) None ≡ false)
MayMake _ c kept acts = ⊤

-- The suspended call is read again as a call that can be executed and needn't wait for the device;
-- or, if it can't be executed, it fails with this error.
abbrev pub IsReady : Result Admitted ErrorCode → Arguments → List DeviceAct → Type 0
IsReady (Ok call) arguments acts = IsCall call arguments × NeedsNoWait call acts
IsReady (Err error) arguments acts =
    (config : Config) (polled c : ℕ) → own_call config polled c arguments acts ≡ only (failure arguments error)

-- How a resumed call continues. If the first argument is `Some` wait, the call is suspended again,
-- with this wait. If the first argument is `None`, the call leaves the queue and is executed.
abbrev pub ResumedAs : Option (Wait × ℕ) → Outcome → Device → Config → ℕ → ℕ → Arguments → List DeviceAct → Type 0
ResumedAs (Some wait) outcome device config polled c arguments acts =
    OutcomeIs outcome device config acts (resume_outcome config polled c arguments (Some wait) acts)
ResumedAs None outcome device config polled c arguments acts =
    OutcomeIs outcome device config (Waited (Left c) ∷ acts) (own_call config polled c arguments (Waited (Left c) ∷ acts))

-- The call leaves the queue; or `IsSuspended` holds, the call isn't a create_link, and it waits
-- again at its old place in the queue.
abbrev pub MayWaitAnew : Type 0 → ℕ → Bool → List Entry → List Entry → Type 0
MayWaitAnew IsSuspended c makes old new = (new ≡ without c old)
    ⊎ (IsSuspended × (wait : Wait) × (deadline : Option ℕ) × (new ≡ map (anew c wait deadline) old) × (makes ≡ false))

-- whether a suspended call continues because it got what it waits for
abbrev pub is_able : WakeReason → Bool
is_able (reasons.Able wait) = true
is_able _ = false

-- Steps are bounded as follows, if the suspended call got what it waits for: the bound on the steps
-- that this call can still take, plus the bound for all other suspended calls, is at most the bound
-- for the whole queue.
abbrev pub IsNearer : WakeReason → ℕ → List Entry → Type 0
IsNearer (reasons.Able wait) c old = queue_measure (without c old) + wait_measure wait ≤ queue_measure old
IsNearer _ c old = ⊤

-- What has to hold before a suspended call continues for this reason. For `Able`: the call is
-- suspended, and `HasPlaceOfLink` holds. For `Dialed`: the call waits until its peer is connected.
-- For `Failed`: nothing.
abbrev pub MayResume : WakeReason → ℕ → Type 0 → List DeviceAct → Type 0
MayResume (reasons.Able wait) c HasPlaceOfLink acts = (waits c (wait_acts acts) ≡ None → ⊥) × HasPlaceOfLink
MayResume (reasons.Dialed ok) c HasPlaceOfLink acts = is_dialing c (wait_acts acts) ≡ true
MayResume (reasons.Failed error) c HasPlaceOfLink acts = ⊤

abbrev pub ContinuesAs : WakeReason → Outcome → Device → Config → ℕ → ℕ → Arguments → List DeviceAct → Type 0
ContinuesAs (reasons.Able wait) outcome device config polled c arguments acts =
    ResumedAs (next_wait wait arguments acts) outcome device config polled c arguments acts
ContinuesAs (reasons.Dialed ok) outcome device config polled c arguments acts =
    OutcomeIs outcome device config (Waited (Left c) ∷ acts) (connect_outcome c ok arguments)
ContinuesAs (reasons.Failed error) outcome device config polled c arguments acts =
    OutcomeIs outcome device config (Waited (Left c) ∷ acts) (only (failure arguments error))

-- ---- a step of the instrument

-- If the flag is true, the instrument took a step for which `IsSuch` holds. If the flag is false,
-- no step for which `IsSuch` holds is possible, and the device is unchanged.
abbrev pub InstrumentSteps : (List InstrumentAct → List InstrumentAct → Type 0) → Bool → Config → List DeviceAct → Device → Device → Type 0
InstrumentSteps IsSuch true config acts old new = (adds : List InstrumentAct)
    × IsSuch (instrument_acts acts) (adds ++ instrument_acts acts) × IsDevice new config (map Applied adds ++ acts)
InstrumentSteps IsSuch false config acts old new =
    ((next : List InstrumentAct) → IsSuch (instrument_acts acts) next → ⊥) × (new ≡ old)
