-- How the outcome of a call, or of a suspended call that continues, becomes its effect on the
-- connection and the device.
use Rattle.std.proofs.Common.{◌≡◌, ℕ, ◌<◌, true, List, [], ◌∷◌, append_assoc, refl, ap, inl, inr, arith}
use Rattle.std.specs.Prelude.{Option, Some, None}
use Rattle.sv_vxi.specs.Results.{Outcome as VxiOutcome}
use Rattle.sv_history.specs.declared.event.Config.{Config}
use Rattle.sv_history.specs.Act.{DeviceAct, Replied, ConnAct, Waited}
use Rattle.sv_history.specs.CoreChannel.{own_call}
use Rattle.sv_history.specs.CallOutcome.{CallOutcome, only}
use Rattle.sv_history.specs.Effect.{Effect, result_reply, replies, call_effect}
use Rattle.sv_server.specs.declared.outcome.Outcome.{Outcome}
use Rattle.sv_server.specs.declared.outcome.Outcome.TheVariants as outcomes
use Rattle.sv_server.specs.declared.outcome.Answer.TheVariants.{Result as Told}
use Rattle.sv_server.specs.Device.Representation.{Device, IsDevice}
use Rattle.sv_vxi.specs.Arguments.{Arguments, is_create_link}
use Rattle.sv_links.specs.declared.waiting.Wait.{Wait}
use Rattle.sv_links.specs.declared.waiting.Wait.TheVariants.{Lock, Input, Response, Dial}
use Rattle.sv_links.specs.Queue.{without, queue_measure}
use Rattle.sv_links.specs.declared.waiting.Entry.{Entry}
use Rattle.sv_links.specs.Waiting.{Left}
use Rattle.sv_history.specs.CoreCall.{CoreCall, creates_link, failure}
use Rattle.sv_history.specs.Interrupts.{connect_outcome}
use Rattle.sv_history.specs.Resuming.{leaving, resume_outcome, next_wait}
use Rattle.sv_server.specs.declared.device.resuming.WakeReason.{WakeReason}
use Rattle.sv_server.specs.declared.device.resuming.WakeReason.TheVariants as reasons
use Rattle.sv_server.specs.Connection.Representation.{Connection, IsConnection}
use Rattle.sv_server.specs.Device.Inside.Outcome.{IsResult, OutcomeIs, MayMake, ResumedAs, MayWait, MayWaitAnew, MayResume, ContinuesAs, IsNearer, is_able}
use Rattle.sv_server.specs.Server.Inside.Ending.{EndsAs, Concludes, ConcludesResumed, HasPlaceOfLink, IsSuspended, asks_for_link, continued}
use Rattle.sv_server.proofs.OnDevice.Granted.{may_make_link}
use Rattle.sv_history.specs.Request.{CoreRequest}

replies_as : (xid : ℕ) (result : Option VxiOutcome) (encoded : VxiOutcome) → IsResult result encoded
    → replies xid result ≡ Replied (result_reply xid encoded) ∷ []
replies_as xid (Some result) encoded is = ap (λ (o : VxiOutcome). Replied (result_reply xid o) ∷ []) is
replies_as xid None encoded is = absurd is

pub outcome_ends : (outcome : Outcome) (xid : ℕ) (device : Device) (config : Config) (acts : List DeviceAct) (what : CallOutcome)
    → OutcomeIs outcome device config acts what → EndsAs outcome xid device config acts (call_effect xid what)
outcome_ends (outcomes.Reply (Told given)) xid device config acts what is = (replies_as xid what.result _ is.0, is.1)
outcome_ends (outcomes.Response most term) xid device config acts what is = (ap (call_effect xid) is.0, is.1)
outcome_ends outcomes.Suspended xid device config acts what is = (ap (replies xid) is.0, is.1)
outcome_ends _ xid device config acts what is = absurd is

-- The effect of a call that leaves the queue is leaving the queue and then the call's own effect.
left_concludes : (config : Config) (c xid : ℕ) (acts : List ConnAct) (before : List DeviceAct) (what : CallOutcome)
    (connection : Connection) (device : Device)
    → Concludes (call_effect xid what) config acts (Waited (Left c) ∷ before) connection device
    → Concludes (call_effect xid (leaving c what)) config acts before connection device
left_concludes config c xid acts before what connection device (mine, all) =
    (mine, rw (append_assoc what.adds (Waited (Left c) ∷ []) before) all)

-- A resumed call either is suspended again, or leaves the queue and is executed.
resumed_concludes : (next : Option (Wait × ℕ)) (outcome : Outcome) (device : Device) (config : Config) (polled c xid : ℕ)
    (arguments : Arguments) (acts : List ConnAct) (before : List DeviceAct) (connection : Connection) (new : Device)
    → ResumedAs next outcome device config polled c arguments before
    → ((log : List DeviceAct) (effect : Effect) → EndsAs outcome xid device config log effect
    → Concludes effect config acts log connection new)
    → Concludes (call_effect xid (resume_outcome config polled c arguments next before)) config acts before connection new
resumed_concludes (Some wait) outcome device config polled c xid arguments acts before connection new so ends =
    ends before _ (outcome_ends outcome xid device config before (resume_outcome config polled c arguments (Some wait) before) so)
resumed_concludes None outcome device config polled c xid arguments acts before connection new so ends =
    let log = Waited (Left c) ∷ before in
    let what = own_call config polled c arguments log in
    left_concludes config c xid acts before what connection new (ends log _ (outcome_ends outcome xid device config log what so))

-- A resumed call has left the queue, or it waits again at its old place and sends no reply yet.
resumed_leaves_or_waits : (next : Option (Wait × ℕ)) (outcome : Outcome) (device : Device) (config : Config) (polled c xid : ℕ)
    (call : CoreCall)
    (before : List DeviceAct) (old new : List Entry)
    → ResumedAs next outcome device config polled c call.arguments before
    → MayWaitAnew (outcome ≡ outcomes.Suspended) c (is_create_link call.arguments) old new
    → MayWaitAnew ((call_effect xid (resume_outcome config polled c call.arguments next before)).own ≡ []) c
    (creates_link (Some call)) old new
resumed_leaves_or_waits next outcome device config polled c xid call before old new so (inl left) = inl left
resumed_leaves_or_waits (Some for) outcome device config polled c xid call before old new so (inr (waits, wait, deadline, anew, other)) =
    inr (refl, wait, deadline, anew, other)
resumed_leaves_or_waits None outcome device config polled c xid call before old new so (inr (waits, wait, deadline, anew, other)) =
    inr (ap (replies xid) (rw waits at so).0, wait, deadline, anew, other)

-- ---- a suspended call that continues

pub may_resume : (reason : WakeReason) (c : ℕ) (call : CoreCall) (kept : Device) (acts : List DeviceAct)
    → MayResume reason c (HasPlaceOfLink (Some call) c kept acts) acts → MayResume reason c (MayMake call.arguments c kept acts) acts
may_resume (reasons.Able wait) c call kept acts (waits, makes) = (waits, may_make_link call.arguments kept acts c makes)
may_resume (reasons.Dialed ok) c call kept acts dials = dials
may_resume (reasons.Failed error) c call kept acts so = tt

pub continued_concludes : (reason : WakeReason) (outcome : Outcome) (device : Device) (config : Config) (polled c : ℕ) (call : CoreCall)
    (acts : List ConnAct) (before : List DeviceAct) (connection : Connection) (new : Device)
    → ContinuesAs reason outcome device config polled c call.arguments before
    → ((log : List DeviceAct) (effect : Effect) → EndsAs outcome call.xid device config log effect
    → Concludes effect config acts log connection new)
    → Concludes (continued reason config polled c (Some call) before) config acts before connection new
continued_concludes (reasons.Able wait) outcome device config polled c call acts before connection new so ends =
    resumed_concludes (next_wait wait call.arguments before) outcome device config polled c call.xid call.arguments acts before connection
    new so ends
continued_concludes (reasons.Dialed ok) outcome device config polled c call acts before connection new so ends =
    let log = Waited (Left c) ∷ before in
    let what = connect_outcome c ok call.arguments in
    left_concludes config c call.xid acts before what connection new
    (ends log (call_effect call.xid what) (outcome_ends outcome call.xid device config log what so))
continued_concludes (reasons.Failed error) outcome device config polled c call acts before connection new so ends =
    let log = Waited (Left c) ∷ before in
    let what = only (failure call.arguments error) in
    left_concludes config c call.xid acts before what connection new
    (ends log (call_effect call.xid what) (outcome_ends outcome call.xid device config log what so))

pub continued_leaves_or_waits : (reason : WakeReason) (outcome : Outcome) (device : Device) (config : Config) (polled c : ℕ)
    (call : CoreCall)
    (before : List DeviceAct) (old new : List Entry)
    → ContinuesAs reason outcome device config polled c call.arguments before
    → MayWaitAnew (outcome ≡ outcomes.Suspended) c (is_create_link call.arguments) old new
    → MayWaitAnew ((continued reason config polled c (Some call) before).own ≡ []) c (creates_link (Some call)) old new
continued_leaves_or_waits (reasons.Able wait) outcome device config polled c call before old new so waits =
    resumed_leaves_or_waits (next_wait wait call.arguments before) outcome device config polled c call.xid call before old new so waits
continued_leaves_or_waits (reasons.Dialed ok) outcome device config polled c call before old new so (inl left) = inl left
continued_leaves_or_waits (reasons.Dialed ok) outcome device config polled c call before old new so
    (inr (waits, wait, deadline, anew, other)) =
    inr (ap (replies call.xid) (rw waits at so).0, wait, deadline, anew, other)
continued_leaves_or_waits (reasons.Failed error) outcome device config polled c call before old new so (inl left) = inl left
continued_leaves_or_waits (reasons.Failed error) outcome device config polled c call before old new so
    (inr (waits, wait, deadline, anew, other)) =
    inr (ap (replies call.xid) (rw waits at so).0, wait, deadline, anew, other)

-- If the stored record holds no call, the queue's entry is only removed.
pub no_call_leaves_queue : (reason : WakeReason) (config : Config) (polled c : ℕ) (acts : List ConnAct) (before : List DeviceAct)
    (old : List Entry)
    (connection : Connection) (new : Device)
    → IsConnection connection acts → IsDevice new config (Waited (Left c) ∷ before) → new.waiting ≡ without c old
    → ConcludesResumed (continued reason config polled c None before) c None config acts before old connection new
no_call_leaves_queue (reasons.Able wait) config polled c acts before old connection new mine all left = ((mine, all), inl left)
no_call_leaves_queue (reasons.Dialed ok) config polled c acts before old connection new mine all left = ((mine, all), inl left)
no_call_leaves_queue (reasons.Failed error) config polled c acts before old connection new mine all left = ((mine, all), inl left)

-- Removing the entry lowers the bound on the remaining steps, if the call was able to continue.
pub no_call_lowers_measure : (reason : WakeReason) (c : ℕ) (old new : List Entry) → IsNearer reason c old → new ≡ without c old
    → is_able reason ≡ true
    → queue_measure new < queue_measure old
no_call_lowers_measure (reasons.Able Lock) c old new nearer left able = rw left (omega (arith, nearer))
no_call_lowers_measure (reasons.Able Input) c old new nearer left able = rw left (omega (arith, nearer))
no_call_lowers_measure (reasons.Able Response) c old new nearer left able = rw left (omega (arith, nearer))
no_call_lowers_measure (reasons.Able Dial) c old new nearer left able = rw left (omega (arith, nearer))
no_call_lowers_measure _ c old new nearer left able = absurd cc

-- A core call that is suspended is one that its record asked for.
pub suspended_was_asked : (outcome : Outcome) (c : ℕ) (call : CoreCall) (old new : List Entry)
    → MayWait (outcome ≡ outcomes.Suspended) c (is_create_link call.arguments) old new
    → MayWait (IsSuspended outcome (CoreRequest call)) c (asks_for_link (CoreRequest call)) old new
suspended_was_asked outcome c call old new (inl same) = inl same
suspended_was_asked outcome c call old new (inr (waits, behind)) = inr ((waits, call, refl), behind)
