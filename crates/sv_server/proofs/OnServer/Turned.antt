-- Turn on an open connection: the request that its next record holds, and the call that this may
-- suspend.
use Rattle.std.proofs.Common.{◌≡◌, ℕ, Bool, true, false, List, [], Option, Some, None, cond, nat_lt, refl, sym, ap, ◌∙◌, inl, inr}
use Rattle.std.specs.Prelude.{Result, Ok, Err}
use Rattle.sv_exchange.specs.declared.read.Read.{Read}
use Rattle.sv_exchange.specs.ReadGiven.{IsReadOf}
use Rattle.sv_vxi.specs.declared.error_code.ErrorCode.TheVariants.{NoError}
use Rattle.sv_xdr.specs.declared.garbage.Garbage.{Garbage}
use Rattle.sv_vxi.specs.Arguments.{Arguments, OnLink}
use Rattle.sv_vxi.specs.Results.{Read as ReadResult}
use Rattle.sv_history.specs.CoreChannel.{read_of}
use Rattle.sv_history.specs.declared.event.Config.{Config}
use Rattle.sv_links.specs.declared.waiting.Entry.{Entry}
use Rattle.sv_history.specs.Act.{DeviceAct, ConnAct}
use Rattle.sv_history.specs.Connection.{free, is_idle, next_call, open_role}
use Rattle.sv_history.specs.declared.event.Refused.TheVariants.{NoRoom}
use Rattle.sv_history.specs.History.{turn_refusal}
use Rattle.sv_history.specs.CoreCall.{CoreCall, creates_link}
use Rattle.sv_server.specs.Device.Representation.{Device}
use Rattle.sv_server.specs.Device.Inside.Outcome.{MayWait}
use Rattle.sv_server.specs.Server.Inside.Ending.{EndsAs, IsSuspended, asks_for_link}
use Rattle.sv_server.specs.Connection.Inside.Requests.{xid_of}
use Rattle.sv_server.specs.declared.outcome.Outcome.{Outcome}
use Rattle.sv_history.specs.Effect.{Effect}
use Rattle.sv_history.specs.Request.{Request, NoCall, Decided, CoreRequest, PortRequest, abort_request, request_of, core_call_of, core_call, request_for, next_request}
use Rattle.sv_history.proofs.Deciding.{request_unless_decided, header_reply, request_by_header}
use Rattle.sv_history.specs.declared.event.Role.{Role}
use Rattle.sv_history.specs.declared.event.Role.TheVariants.{Core, Abort, Portmap}
use Rattle.sv_history.specs.Limits.{longest_reply}
use Rattle.sv_rpc.specs.declared.reply.Reply.{Reply}
use Rattle.sv_rpc.specs.declared.reply.Reply.TheVariants.{Mismatch}
use Rattle.sv_rpc.specs.declared.call.CallFault.{CallFault}
use Rattle.sv_rpc.specs.declared.call.CallFault.TheVariants.{BadHeader, Version}
use Rattle.sv_rpc.specs.Call.{PlainCall, call_at}

pub read_is : (read : Read) (bytes : List ℕ) (most : ℕ) (term : Option ℕ) → IsReadOf read bytes most term
    → ReadResult NoError (record { request_count = read.request_count; character = read.character; end = read.end }) read.bytes.now
    ≡ read_of bytes most term
read_is read bytes most term is = rw (is.bytes, is.request_count, is.character, is.end) refl

if_none : (idle short : Bool) → short ≡ false → cond idle None (cond short (Some NoRoom) None) ≡ None
if_none true short e = refl
if_none false short e = rw e refl

-- Only a record on the core channel is a core call.
abort_is_no_core_call : (xid : ℕ) (read : Result Arguments Garbage) (call : CoreCall) → abort_request xid read ≡ CoreRequest call → ⊥
abort_is_no_core_call xid (Ok (OnLink lid on)) call e = cc
abort_is_no_core_call xid _ call e = cc

core_unless : (role : Role) (header : PlainCall) (reply : Option Reply) (call : CoreCall)
    → request_unless_decided role header reply ≡ CoreRequest call → role ≡ Core
core_unless role header (Some reply) call e = absurd (let z : Decided header.xid reply ≡ CoreRequest call = e in cc)
core_unless Core header None call e = refl
core_unless Abort header None call e = absurd (abort_is_no_core_call header.xid _ call e)
core_unless Portmap header None call e = absurd (let z : PortRequest header.xid header.args ≡ CoreRequest call = e in cc)

core_call_has_core_role : (role : Role) (read : Result PlainCall CallFault) (call : CoreCall) → request_of role read ≡ CoreRequest call
    → role ≡ Core
core_call_has_core_role role (Ok header) call e = core_unless role header (header_reply role header) call
    (sym (request_by_header role header) ∙ e)
core_call_has_core_role role (Err (Version xid)) call e = absurd (let z : Decided xid Mismatch ≡ CoreRequest call = e in cc)
core_call_has_core_role role (Err BadHeader) call e = absurd (let z : NoCall ≡ CoreRequest call = e in cc)

-- If the request was suspended, the connection sends no reply, and the queue has the call's entry.
pub suspended_sends_nothing : (outcome : Outcome) (c : ℕ) (role : Role) (bytes : List ℕ) (request : Request) (device : Device)
    (config : Config)
    (acts : List DeviceAct) (effect : Effect) (old new : List Entry)
    → request ≡ request_of role (call_at bytes) → EndsAs outcome (xid_of request) device config acts effect
    → MayWait (IsSuspended outcome request) c (asks_for_link request) old new
    → MayWait (effect.own ≡ []) c (creates_link (core_call bytes)) old new
suspended_sends_nothing outcome c role bytes request device config acts effect old new asks ends (inl same) = inl same
suspended_sends_nothing outcome c role bytes request device config acts effect old new asks ends (inr ((is, call, core), behind)) =
    let known = sym asks ∙ core in
    let read : core_call bytes ≡ Some call =
    ap (λ (r : Role). core_call_of (request_of r (call_at bytes))) (sym (core_call_has_core_role role (call_at bytes) call known))
    ∙ ap core_call_of known in
    inr ((rw is at ends).0, rw read (rw core at behind))

-- Turn isn't refused if the longest reply fits.
pub turn_not_refused : (acts : List ConnAct) → nat_lt (free acts) longest_reply ≡ false → turn_refusal acts ≡ None
turn_not_refused acts roomy = if_none (is_idle acts) (nat_lt (free acts) longest_reply) roomy

-- The request that Turn executes is the one that the log determines for the next record.
pub next_request_is : (acts : List ConnAct) (role : Role) (bytes : List ℕ) (request : Request) → open_role acts ≡ Some role
    → next_call acts ≡ Some bytes → request ≡ request_of role (call_at bytes) → next_request acts ≡ Some request
next_request_is acts role bytes request opened next is = ap (λ (r : Option Role). request_for r (next_call acts)) opened
    ∙ ap (λ (found : Option (List ℕ)). request_for (Some role) found) next ∙ ap (λ (r : Request). Some r) (sym is)
