-- What a record requests (RFC 5531, section 9; VXI-11 revision 1.0, section B.6; RFC 1833, section
-- 3). The header of the record is checked first. After that the record is read as a call of the
-- program that its connection serves.
use Rattle.std.specs.Prelude.{ℕ, ℤ, ◌==◌, not, List, [], ◌∷◌, Option, Some, None, Result, Ok, Err, if◌then◌else◌}
use Rattle.sv_xdr.specs.declared.garbage.Garbage.{Garbage}
use Rattle.sv_rpc.specs.declared.reply.Reply.{Reply}
use Rattle.sv_rpc.specs.declared.reply.Reply.TheVariants.{Success, Mismatch, ProgUnavail, ProgMismatch, ProcUnavail, GarbageArgs}
use Rattle.sv_rpc.specs.declared.call.CallFault.{CallFault}
use Rattle.sv_rpc.specs.declared.call.CallFault.TheVariants.{BadHeader, Version}
use Rattle.sv_rpc.specs.Call.{PlainCall, call_at}
use Rattle.sv_vxi.specs.Arguments.{Arguments, OnLink, core_calls, abort_calls, is_one_of}
use Rattle.sv_vxi.specs.Reading.{arguments_at}
use Rattle.sv_history.specs.declared.event.Role.{Role}
use Rattle.sv_history.specs.declared.event.Role.TheVariants.{Core, Abort, Portmap}
use Rattle.sv_history.specs.Act.{ConnAct}
use Rattle.sv_history.specs.Connection.{next_call, open_role}
use Rattle.sv_history.specs.CoreCall.{CoreCall}

-- what a record requests. `NoCall`: the record isn't a call. `Decided`: the reply follows from the
-- call's header, or from arguments that can't be read. The others: a call of the core channel;
-- device_abort; GETPORT.
pub data Request : Type 0 where
  NoCall : Request
  Decided : (xid : ℕ) (reply : Reply) → Request
  CoreRequest : (call : CoreCall) → Request
  AbortRequest : (xid : ℕ) (lid : ℤ) → Request
  PortRequest : (xid : ℕ) (args : List ℕ) → Request

-- the program that a connection serves: its number, its version, and the numbers of its procedures
-- except the null procedure (0)
abbrev pub program_of : Role → ℕ × ℕ × List ℕ
program_of Core = (395183, 1, core_calls)
program_of Abort = (395184, 1, abort_calls)
program_of Portmap = (100000, 2, 3 ∷ [])

-- what a call of the core channel requests, given the arguments that were read; if they can't be
-- read, the call is answered with GARBAGE_ARGS
abbrev pub core_request : ℕ → Result Arguments Garbage → Request
core_request xid (Ok arguments) = CoreRequest (record { xid = xid; arguments = arguments })
core_request xid (Err garbage) = Decided xid GarbageArgs

-- what a call of the abort channel requests, given the arguments that were read; if they can't be
-- read, the call is answered with GARBAGE_ARGS
abbrev pub abort_request : ℕ → Result Arguments Garbage → Request
abort_request xid (Ok (OnLink lid call)) = AbortRequest xid lid
abort_request xid _ = Decided xid GarbageArgs

-- what a call requests, if the program that the connection serves has the call's procedure
abbrev pub procedure_request : Role → PlainCall → Request
procedure_request Core call = core_request call.xid (arguments_at call.proc call.args)
procedure_request Abort call = abort_request call.xid (arguments_at call.proc call.args)
procedure_request Portmap call = PortRequest call.xid call.args

-- What a call requests. The first of these that applies decides the reply: the call isn't for the
-- role's program; it isn't for the program's version; it is for the null procedure; it is for an
-- unknown procedure. If none applies, the procedure decides what the call requests.
abbrev pub call_request : Role → PlainCall → Request
call_request role call =
    let (program, version, procedures) = program_of role in
    if not (call.prog == program) then Decided call.xid ProgUnavail
    else (if not (call.vers == version) then Decided call.xid (ProgMismatch version version)
    else (if call.proc == 0 then Decided call.xid Success
    else (if not (is_one_of procedures call.proc) then Decided call.xid ProcUnavail else procedure_request role call)))

-- What a record requests, given the result of reading the record as a call. A call whose RPC
-- version isn't 2 is denied. A record with a bad header isn't a call.
abbrev pub request_of : Role → Result PlainCall CallFault → Request
request_of role (Ok call) = call_request role call
request_of role (Err (Version xid)) = Decided xid Mismatch
request_of role (Err BadHeader) = NoCall

-- what the next call of a connection requests, given the role of the connection and the bytes of
-- the call; `None` if there is no call
abbrev pub request_for : Option Role → Option (List ℕ) → Option Request
request_for (Some role) (Some bytes) = Some (request_of role (call_at bytes))
request_for _ _ = None

-- what the next call of a connection requests; `None` if there is no call
abbrev pub next_request : List ConnAct → Option Request
next_request acts = request_for (open_role acts) (next_call acts)

-- the call of the core channel that a request is; `None` for any other request
abbrev pub core_call_of : Request → Option CoreCall
core_call_of (CoreRequest call) = Some call
core_call_of _ = None

-- a record as a call of the core channel; `None` if the record isn't a call of the core channel
abbrev pub core_call : List ℕ → Option CoreCall
core_call bytes = core_call_of (request_of Core (call_at bytes))

-- a record as a call of the core channel; `None` if there is no record, or if the record isn't a
-- call of the core channel
abbrev pub core_call_in : Option (List ℕ) → Option CoreCall
core_call_in (Some bytes) = core_call bytes
core_call_in None = None
