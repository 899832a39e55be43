-- The effect of a record that was taken.
use Rattle.std.specs.Prelude.{ℕ, List, [], ◌∷◌, Option, Some, None, Result, Ok, Err}
use Rattle.sv_xdr.specs.declared.garbage.Garbage.{Garbage}
use Rattle.sv_xdr.specs.Spelling.{Unsigned}
use Rattle.sv_rpc.specs.declared.reply.Reply.TheVariants.{Success, GarbageArgs}
use Rattle.sv_rpc.specs.Ports.{port_at}
use Rattle.sv_history.specs.declared.event.Config.{Config}
use Rattle.sv_history.specs.Act.{DeviceAct, Faulted}
use Rattle.sv_history.specs.Reply.{reply_record}
use Rattle.sv_history.specs.Effect.{Effect, result_reply, call_effect, only_reply}
use Rattle.sv_history.specs.Request.{Request, NoCall, Decided, CoreRequest, AbortRequest, PortRequest}
use Rattle.sv_history.specs.CoreCall.{lid_of}
use Rattle.sv_history.specs.Admission.{stop_of, admission}
use Rattle.sv_history.specs.AbortChannel.{owner_of, if_waiting, abort_result}

-- the port mapper's reply to a GETPORT (RFC 1833, section 3)
abbrev pub port_reply : ℕ → Result ℕ Garbage → List ℕ
port_reply xid (Ok port) = reply_record xid Success (Unsigned port ∷ [])
port_reply xid (Err garbage) = reply_record xid GarbageArgs []

-- The effect of a request, if a poll of the status byte would return `polled`. A record that isn't
-- a call puts its connection at fault.
abbrev pub request_effect : Config → ℕ → ℕ → Request → List DeviceAct → Effect
request_effect config polled c NoCall acts = record { own = Faulted ∷ []; adds = [] }
request_effect config polled c (Decided xid reply) acts = only_reply (reply_record xid reply [])
request_effect config polled c (CoreRequest call) acts =
    call_effect call.xid (admission config polled c call.arguments (stop_of c call.arguments acts) acts)
request_effect config polled c (AbortRequest xid lid) acts = only_reply (result_reply xid (abort_result (lid_of (Some lid)) acts))
request_effect config polled c (PortRequest xid args) acts =
    only_reply (port_reply xid (port_at (record { core = config.core; abort = config.abort }) args))

-- if this request is a device_abort that ends a suspended call: the connection of that call; else
-- `None`
abbrev pub aborts : Request → List DeviceAct → Option ℕ
aborts (AbortRequest xid lid) acts = if_waiting (owner_of (lid_of (Some lid)) acts) (lid_of (Some lid)) acts
aborts _ acts = None
