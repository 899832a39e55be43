-- How a connection and the device change when a record that was taken is finished, or when a
-- suspended call continues.
use Rattle.std.specs.Prelude.{◌≡◌, ℕ, ◌<◌, List, [], ◌∷◌, ◌++◌, Bool, true, false, Option, None, Result}
use Rattle.sv_vxi.specs.Arguments.{is_create_link}
use Rattle.sv_links.specs.declared.waiting.Entry.{Entry}
use Rattle.sv_links.specs.Links.{holder, is_locked_out}
use Rattle.sv_links.specs.Queue.{creations, without}
use Rattle.sv_exchange.specs.Exchange.{response}
use Rattle.sv_history.specs.declared.event.Config.{Config}
use Rattle.sv_history.specs.Act.{ConnAct, DeviceAct, Faulted, Replied, link_acts, exchange_acts}
use Rattle.sv_history.specs.Effect.{Effect, call_effect}
use Rattle.sv_history.specs.CoreCall.{CoreCall, creates_link}
use Rattle.sv_history.specs.Request.{Request, CoreRequest}
use Rattle.sv_history.specs.CoreChannel.{reads}
use Rattle.sv_history.specs.Execution.{request_effect, aborts}
use Rattle.sv_history.specs.Resuming.{resume_effect, failure_effect, connect_effect}
use Rattle.sv_history.specs.History.{wants_memory}
use Rattle.sv_server.specs.declared.outcome.Outcome.{Outcome}
use Rattle.sv_server.specs.declared.outcome.Outcome.TheVariants as outcomes
use Rattle.sv_server.specs.declared.device.resuming.WakeReason.{WakeReason}
use Rattle.sv_server.specs.declared.device.resuming.WakeReason.TheVariants as reasons
use Rattle.sv_server.specs.Connection.Representation.{Connection, IsConnection}
use Rattle.sv_server.specs.Connection.Inside.Requests.{xid_of}
use Rattle.sv_server.specs.Connection.Inside.Replies.{answer_bytes}
use Rattle.sv_server.specs.Device.Representation.{Device, IsDevice}
use Rattle.sv_server.specs.Device.Inside.Outcome.{IsBrief, MayWait, MayWaitAnew, Does}

-- ---- how a call or a record ends

-- A record or call for which the code returns this `Outcome` has this effect. If the call reads the
-- response, the bytes aren't read yet: the device still has the whole response.
abbrev pub EndsAs : Outcome → ℕ → Device → Config → List DeviceAct → Effect → Type 0
EndsAs outcomes.Fault xid device config acts effect = (effect.own ≡ Faulted ∷ []) × IsDevice device config (effect.adds ++ acts)
EndsAs (outcomes.Reply answer) xid device config acts effect = (effect.own ≡ Replied (answer_bytes xid answer) ∷ [])
    × IsDevice device config (effect.adds ++ acts)
EndsAs (outcomes.Response most term) xid device config acts effect =
    (effect ≡ call_effect xid (reads (response (exchange_acts acts)) most term)) × IsDevice device config acts
EndsAs outcomes.Suspended xid device config acts effect = (effect.own ≡ []) × IsDevice device config (effect.adds ++ acts)

-- The call that was taken had this effect: the effect's acts were added to the acts of the
-- connection and of the device.
abbrev pub Concludes : Effect → Config → List ConnAct → List DeviceAct → Connection → Device → Type 0
Concludes effect config acts before connection device =
    IsConnection connection (effect.own ++ acts) × IsDevice device config (effect.adds ++ before)

-- ---- a record that was taken

-- whether a record is a call of create_link
abbrev pub asks_for_link : Request → Bool
asks_for_link (CoreRequest call) = is_create_link call.arguments
asks_for_link _ = false

-- The record is a call of the core channel, and the server suspended this call.
abbrev pub IsSuspended : Outcome → Request → Type 0
IsSuspended outcome request = (outcome ≡ outcomes.Suspended) × (call : CoreCall) × (request ≡ CoreRequest call)

-- Either the code executed the request of a record. Or memory that the execution needs was refused.
-- If it ends a suspended call, it says whose.
abbrev pub Executes : Request → {E : Type 0} → Result (Outcome × Option ℕ) E → ℕ → Device → Device → Type 0
Executes request result c old new =
    Does (λ config polled acts given. EndsAs given.0 (xid_of request) new config acts (request_effect config polled c request acts)
    × MayWait (IsSuspended given.0 request) c (asks_for_link request) old.waiting new.waiting
    × (given.1 ≡ aborts request acts))
    (λ config polled acts. wants_memory (request_effect config polled c request acts).adds ≡ true) (λ given. IsBrief given.0) result old new

-- ---- a call that was suspended

-- If the suspended call is create_link, a place is reserved for its link, and the lock is free.
abbrev pub HasPlaceOfLink : Option CoreCall → ℕ → Device → List DeviceAct → Type 0
HasPlaceOfLink call c kept acts = creates_link call ≡ true
    → (creations (without c kept.waiting) < creations kept.waiting) × (is_locked_out (holder (link_acts acts)) None ≡ false)

-- the effect of a suspended call that continues for this reason
abbrev pub continued : WakeReason → Config → ℕ → ℕ → Option CoreCall → List DeviceAct → Effect
continued (reasons.Able wait) config polled c call acts = resume_effect config polled c wait call acts
continued (reasons.Dialed ok) config polled c call acts = connect_effect c ok call
continued (reasons.Failed error) config polled c call acts = failure_effect error c call

-- The suspended call of connection `c` was resumed, with this effect. Now this call either has left
-- the queue of suspended calls, or waits in the queue again.
abbrev pub ConcludesResumed : Effect → ℕ → Option CoreCall → Config → List ConnAct → List DeviceAct → List Entry → Connection → Device
    → Type 0
ConcludesResumed effect c call config acts before old connection device =
    Concludes effect config acts before connection device × MayWaitAnew (effect.own ≡ []) c (creates_link call) old device.waiting
