-- The state in which a private function leaves the server, after the function applied an event or
-- took a step.
use Rattle.std.specs.Prelude.{◌≡◌, ℕ, ℤ, true, Bool, false, List, [], ◌∷◌, ◌++◌, Some, None, Result, Ok, Err, Option, ⊤}
use Rattle.sv_errors.specs.Limits.{is_channel}
use Rattle.sv_links.specs.declared.waiting.Entry.{Entry}
use Rattle.sv_history.specs.declared.event.Config.{Config}
use Rattle.sv_history.specs.declared.event.Did.{Did}
use Rattle.sv_history.specs.declared.event.Did.TheVariants.{Idle, Done}
use Rattle.sv_history.specs.declared.event.Refused.{Refused}
use Rattle.sv_history.specs.declared.event.Refused.TheVariants.{NoMemory}
use Rattle.sv_server.specs.declared.server.settling.Stepped.{Stepped}
use Rattle.sv_server.specs.declared.server.settling.Stepped.TheVariants.{Nothing, Instrument, Call}
use Rattle.sv_links.specs.Channels.{ChannelAct}
use Rattle.sv_history.specs.Event.{PlainEvent, Open, Bytes, Took}
use Rattle.sv_history.specs.Requests.{HearsOf}
use Rattle.sv_history.specs.Act.{Act, ConnAct, CallTaken, Replied, of, device_acts}
use Rattle.sv_history.specs.CoreCall.{CoreCall, creates_link}
use Rattle.sv_history.specs.Request.{Request, core_call, next_request}
use Rattle.sv_history.specs.Effect.{Effect}
use Rattle.sv_history.specs.Execution.{request_effect, aborts}
use Rattle.sv_history.specs.Connection.{next_call, is_idle}
use Rattle.sv_history.specs.PolledStatus.{IsPolled}
use Rattle.sv_history.specs.Settling.{IsNext, IsSettled, SettlesIn, Settles}
use Rattle.sv_history.specs.Refusing.{refusable, refused_reply}
use Rattle.sv_history.specs.History.{refusal, turn_refusal, refuse_refusal, own_acts, did, wants_memory, is_beyond, input_refusal}
use Rattle.sv_server.specs.Connection.Representation.{Connection, IsConnection}
use Rattle.sv_server.specs.Device.Representation.{Device, IsDevice}
use Rattle.sv_server.specs.Device.Inside.Outcome.{MayWait}
use Rattle.sv_server.specs.Server.State.{State, Represents}
use Rattle.sv_server.specs.Server.Inside.Ending.{Concludes}

-- `what` says why the server refuses the event; `None` if the event isn't refused.
abbrev pub IsRefusal : Config → PlainEvent → List Act → Option Refused → Type 0
IsRefusal config event log what = (channel_log : List ChannelAct) → HearsOf (device_acts log) channel_log
    → refusal config channel_log event log ≡ what

-- One of three cases holds: the event's own acts were added to the log, and the steps that are due
-- after the event aren't taken yet; the event is refused; or memory that the event needs was
-- refused.
abbrev pub Acts : Config → PlainEvent → List Act → Result Did Refused → State → Type 0
Acts config event log (Ok what) new = IsRefusal config event log None × (what ≡ did event log)
    × ((polled : ℕ) → IsPolled polled (device_acts log) → Represents new config (own_acts config polled event log ++ log))
Acts config event log (Err NoMemory) new = IsRefusal config event log None
    × ((polled : ℕ) → IsPolled polled (device_acts log) → wants_memory (device_acts (own_acts config polled event log)) ≡ true)
Acts config event log (Err refused) new = IsRefusal config event log (Some refused)

-- whether an event is an Open, a Bytes or a Took: after an event of these three kinds, no step is
-- due
abbrev pub is_quiet : PlainEvent → Bool
is_quiet (Open c role) = true
is_quiet (Bytes c piece) = true
is_quiet (Took port count) = true
is_quiet _ = false

-- The next call of connection `c` is `call`, which makes the request `request`. A Turn of this
-- connection would take this call, and `IsSo` holds of the effect that this Turn would have.
abbrev pub TakesCall : Config → ℕ → List Act → List ℕ → Request → (Effect → Type 0) → Type 0
TakesCall config c log call request IsSo = (next_call (of c log) ≡ Some call) × (next_request (of c log) ≡ Some request)
    × ((polled : ℕ) → IsPolled polled (device_acts log) → IsSo (request_effect config polled c request (device_acts log)))

-- A Turn of an open connection finds no call; or it takes the next call, and says whose suspended
-- call the taken call ends; or it is refused.
abbrev pub Turns : Config → ℕ → List Act → List Entry → Result (Did × Option ℕ) Refused → Connection → Device → Type 0
Turns config c log old (Ok (Idle, aborted)) connection device = (turn_refusal (of c log) ≡ None) × (is_idle (of c log) ≡ true)
    × (aborted ≡ None) × IsConnection connection (of c log) × IsDevice device config (device_acts log) × (device.waiting ≡ old)
Turns config c log old (Ok (Done, aborted)) connection device = (turn_refusal (of c log) ≡ None) × (is_idle (of c log) ≡ false)
    × (call : List ℕ) × (request : Request) × (aborted ≡ aborts request (device_acts log))
    × TakesCall config c log call request (λ effect. Concludes effect config (CallTaken call ∷ of c log) (device_acts log) connection device
    × MayWait (effect.own ≡ []) c (creates_link (core_call call)) old device.waiting)
Turns config c log old (Err NoMemory) connection device = (turn_refusal (of c log) ≡ None) × (call : List ℕ) × (request : Request)
    × TakesCall config c log call request (λ effect. wants_memory effect.adds ≡ true)
Turns config c log old (Err refused) connection device = turn_refusal (of c log) ≡ Some refused

-- The event Refuse of an open connection either takes the connection's next call and answers it
-- with an error, or is itself refused.
abbrev pub Refuses : List ConnAct → Result ⊤ Refused → Connection → Type 0
Refuses acts (Ok done) connection = (refuse_refusal acts ≡ None) × (bytes : List ℕ) × (call : CoreCall)
    × (next_call acts ≡ Some bytes) × (refusable acts ≡ Some call)
    × IsConnection connection (Replied (refused_reply call) ∷ CallTaken bytes ∷ acts)
Refuses acts (Err refused) connection = refuse_refusal acts ≡ Some refused

-- Either the event Input, which sets a channel's voltage, isn't refused. Or this event is refused,
-- and the result says why.
abbrev pub IsInput : ℕ → ℤ → Result Did Refused → Type 0
IsInput channel microvolts (Ok what) = (what ≡ Done) × (is_channel channel ≡ true) × (is_beyond microvolts ≡ false)
IsInput channel microvolts (Err refused) = Some refused ≡ input_refusal channel microvolts

-- If the flag is true, the server took a step for which `IsStep` holds. If the flag is false, no
-- step for which `IsStep` holds is possible, and the server is unchanged.
abbrev pub TakesStep : (Config → List Act → List Act → Type 0) → Bool → Config → List Act → State → State → Type 0
TakesStep IsStep true config log old new = (next : List Act) × IsStep config log next × Represents new config next
TakesStep IsStep false config log old new = ((next : List Act) → IsStep config log next → ⊥) × (new ≡ old)

-- Either the server took the step that was due. Or no step is due, and the server's state is still
-- the one that `log` determines.
abbrev pub Steps : Stepped → Config → List Act → State → Type 0
Steps Nothing config log new = IsSettled config log × Represents new config log
Steps Instrument config log new = (next : List Act) × IsNext config log next × Represents new config next
Steps Call config log new = (next : List Act) × IsNext config log next × Represents new config next

-- If the steps that are due after the log `mid` lead to a last log, after which no step is due, the
-- steps that are due after `log` lead to the same last log.
abbrev pub Reaches : Config → List Act → List Act → Type 0
Reaches config log mid = (n : ℕ) (new : List Act) → SettlesIn n config mid new → (m : ℕ) × SettlesIn m config log new

-- The server took some of the steps that were due, perhaps none. These steps lead to a log for
-- which `IsEnd` holds.
abbrev pub GoesTo : Config → List Act → (List Act → Type 0) → State → Type 0
GoesTo config log IsEnd new = (mid : List Act) × Reaches config log mid × IsEnd mid × Represents new config mid

-- The server took all steps that were due after `log`.
abbrev pub Settled : Config → List Act → State → Type 0
Settled config log new = (last : List Act) × Settles config log last × Represents new config last
