-- The request that a received record makes, in terms of the code's types.
use Rattle.std.specs.Prelude.{ℕ}
use Rattle.sv_vxi.specs.Reading.{plain_arguments}
use Rattle.sv_history.specs.CoreCall.{CoreCall}
use Rattle.sv_history.specs.Request.{Request, NoCall, Decided, CoreRequest, AbortRequest, PortRequest}
use Rattle.sv_server.specs.declared.connection.request.CoreCall.{CoreCall as TakenCall}
use Rattle.sv_server.specs.declared.connection.request.Request.{Request as Asked}
use Rattle.sv_server.specs.declared.connection.request.Request.TheVariants as requests

-- a call of the core channel as plain data, given the code's value for the call
abbrev pub plain_core_call : TakenCall → CoreCall
plain_core_call call = record { xid = call.xid; arguments = plain_arguments call.args }

-- the request of a record as plain data, given the code's value for the request
abbrev pub plain_request : Asked → Request
plain_request requests.NoCall = NoCall
plain_request (requests.Decided xid reply) = Decided xid reply
plain_request (requests.Core call) = CoreRequest (plain_core_call call)
plain_request (requests.Abort xid lid) = AbortRequest xid lid
plain_request (requests.Port xid args) = PortRequest xid args.now

-- the xid of a request; 0 if the record isn't a call
abbrev pub xid_of : Request → ℕ
xid_of NoCall = 0
xid_of (Decided xid reply) = xid
xid_of (CoreRequest call) = call.xid
xid_of (AbortRequest xid lid) = xid
xid_of (PortRequest xid args) = xid
