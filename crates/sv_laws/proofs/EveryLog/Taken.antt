-- What is known of a call when it is taken: no other call is pending, and its request is for the
-- program of its connection.
use Rattle.std.proofs.Common.{◌≡◌, ℕ, ◌<◌, ◌≤◌, Bool, true, false, cond, List, nat_lt, Option, Some, None, refl, sym, ap, subst, ◌∙◌, arith}
use Rattle.std.specs.Prelude.{is_some, ◌||◌, ℤ, slice_get, Result, Ok, Err}
use Rattle.std.proofs.lemmas.Bool.{ltb-false}
use Rattle.sv_rpc.specs.declared.reply.Reply.{Reply}
use Rattle.sv_rpc.specs.declared.call.CallFault.{CallFault}
use Rattle.sv_rpc.specs.declared.call.CallFault.TheVariants.{BadHeader, Version}
use Rattle.sv_rpc.specs.Call.{PlainCall, call_at}
use Rattle.sv_rpc.specs.Stream.{records_of}
use Rattle.sv_xdr.specs.declared.garbage.Garbage.{Garbage}
use Rattle.sv_vxi.specs.Arguments.{Arguments, OnLink}
use Rattle.sv_vxi.specs.Reading.{arguments_at}
use Rattle.sv_history.specs.declared.event.Role.{Role}
use Rattle.sv_history.specs.declared.event.Role.TheVariants.{Core, Abort, Portmap}
use Rattle.sv_history.specs.declared.event.Refused.{Refused}
use Rattle.sv_history.specs.declared.event.Refused.TheVariants.{NoConn}
use Rattle.sv_history.specs.Act.{Act, ConnAct}
use Rattle.sv_history.specs.Connection.{next_call, open_role, pending_call, took_no_call, stream, records_ended}
use Rattle.sv_history.specs.CoreCall.{CoreCall}
use Rattle.sv_history.specs.Request.{Request, NoCall, Decided, CoreRequest, AbortRequest, PortRequest, core_request, abort_request, request_of, core_call_of, core_call, request_for, next_request}
use Rattle.sv_history.proofs.Deciding.{request_unless_decided, header_reply, request_by_header}
use Rattle.sv_history.specs.History.{unless_shut}
use Rattle.sv_laws.proofs.Facts.{some_injective}

-- ---- no other call is pending

free_by : (t : Bool) (call rest : Option (List ℕ)) (bytes : List ℕ) → cond (t || is_some call) None rest ≡ Some bytes → call ≡ None
free_by t None rest bytes e = refl
free_by true (Some call) rest bytes e = absurd cc
free_by false (Some call) rest bytes e = absurd cc

pub next_call_means_none_pending : (acts : List ConnAct) (bytes : List ℕ) → next_call acts ≡ Some bytes → pending_call acts ≡ None
next_call_means_none_pending acts bytes e =
    free_by (took_no_call acts) (pending_call acts) (slice_get (records_of (stream acts)) (records_ended acts)) bytes e

-- ---- a request is for the program of its connection, and has the xid of its record

-- The xid of a record; `None` if the record isn't a call.
abbrev pub xid_of : Result PlainCall CallFault → Option ℕ
xid_of (Ok call) = Some call.xid
xid_of (Err (Version xid)) = Some xid
xid_of (Err BadHeader) = None

abbrev pub xid_in : Request → Option ℕ
xid_in NoCall = None
xid_in (Decided xid reply) = Some xid
xid_in (CoreRequest call) = Some call.xid
xid_in (AbortRequest xid lid) = Some xid
xid_in (PortRequest xid args) = Some xid

-- The request is for the program of this role, and has this xid.
abbrev pub IsForRole : Role → Option ℕ → Request → Type 0
IsForRole role xid (CoreRequest call) = (role ≡ Core) × (xid ≡ Some call.xid)
IsForRole role xid (AbortRequest own lid) = (role ≡ Abort) × (xid ≡ Some own)
IsForRole role xid (PortRequest own args) = (role ≡ Portmap) × (xid ≡ Some own)
IsForRole role xid request = xid ≡ xid_in request

pub xid_is : (role : Role) (xid : Option ℕ) (request : Request) → IsForRole role xid request → xid ≡ xid_in request
xid_is role xid (CoreRequest call) h = h.1
xid_is role xid (AbortRequest own lid) h = h.1
xid_is role xid (PortRequest own args) h = h.1
xid_is role xid _ h = h

core_asks : (xid : ℕ) (arguments : Result Arguments Garbage) → IsForRole Core (Some xid) (core_request xid arguments)
core_asks xid (Ok arguments) = (refl, refl)
core_asks xid (Err garbage) = refl

abort_asks : (xid : ℕ) (read : Result Arguments Garbage) → IsForRole Abort (Some xid) (abort_request xid read)
abort_asks xid (Ok (OnLink lid call)) = (refl, refl)
abort_asks xid _ = refl

decided_asks : (role : Role) (call : PlainCall) (reply : Option Reply)
    → IsForRole role (Some call.xid) (request_unless_decided role call reply)
decided_asks role call (Some reply) = refl
decided_asks Core call None = core_asks call.xid (arguments_at call.proc call.args)
decided_asks Abort call None = abort_asks call.xid (arguments_at call.proc call.args)
decided_asks Portmap call None = (refl, refl)

-- The request that is read from a record is for the program of the role, and has the xid of the
-- record.
pub request_is_for_role : (role : Role) (found : Result PlainCall CallFault) (request : Request) → request_of role found ≡ request
    → IsForRole role (xid_of found) request
request_is_for_role role found request same = subst (IsForRole role (xid_of found)) same (by found)
  where
    by : (found : Result PlainCall CallFault) → IsForRole role (xid_of found) (request_of role found)
    by (Ok call) = subst (IsForRole role (Some call.xid)) (sym (request_by_header role call))
        (decided_asks role call (header_reply role call))
    by (Err (Version xid)) = refl
    by (Err BadHeader) = refl

pub is_core : (request : Request) (call : CoreCall) → core_call_of request ≡ Some call → request ≡ CoreRequest call
is_core (CoreRequest found) call e = ap CoreRequest (some_injective found call e)
is_core _ call e = absurd cc

-- ---- a call of the core channel is taken on a core channel, and is read from its record

core_asked : (role : Option Role) (bytes : List ℕ) (call : CoreCall) → request_for role (Some bytes) ≡ Some (CoreRequest call)
    → (role ≡ Some Core) × (core_call bytes ≡ Some call)
core_asked None bytes call e = absurd cc
core_asked (Some role) bytes call e =
    let same = some_injective (request_of role (call_at bytes)) (CoreRequest call) e in
    let core = (request_is_for_role role (call_at bytes) (CoreRequest call) same).0 in
    (ap Some core, ap (λ (r : Role). core_call_of (request_of r (call_at bytes))) (sym core) ∙ ap core_call_of same)

pub core_call_is_on_core_role : (acts : List ConnAct) (bytes : List ℕ) (call : CoreCall) → next_call acts ≡ Some bytes
    → next_request acts ≡ Some (CoreRequest call) → (open_role acts ≡ Some Core) × (core_call bytes ≡ Some call)
core_call_is_on_core_role acts bytes call next request =
    core_asked (open_role acts) bytes call (ap (request_for (open_role acts)) (sym next) ∙ request)

-- A core channel takes no device_abort.
pub core_role_takes_no_abort : (acts : List ConnAct) (xid : ℕ) (lid : ℤ) → open_role acts ≡ Some Core
    → next_request acts ≡ Some (AbortRequest xid lid) → ⊥
core_role_takes_no_abort acts xid lid = by (open_role acts) (next_call acts)
  where
    by : (role : Option Role) (found : Option (List ℕ)) → role ≡ Some Core → request_for role found ≡ Some (AbortRequest xid lid) → ⊥
    by (Some role) (Some bytes) core e =
        let abort : role ≡ Abort = (request_is_for_role role (call_at bytes) _ (some_injective (request_of role (call_at bytes)) _ e)).0 in
        let same : role ≡ Core = cc in
        let z : Abort ≡ Core = sym abort ∙ same in cc
    by (Some role) None core e = absurd cc
    by None found core e = absurd cc

-- ---- an event that isn't refused is of a connection from 0 to 15

within_by : (far shut : Bool) (other : Option Refused) → cond (far || shut) (Some NoConn) other ≡ None → (far ≡ false) × (shut ≡ false)
within_by true shut other e = absurd cc
within_by false true other e = absurd cc
within_by false false other e = (refl, refl)

pub unrefused_below_16 : (c : ℕ) (log : List Act) (other : Option Refused) → unless_shut c log other ≡ None → c < 16
unrefused_below_16 c log other e =
    let le : c ≤ 15 = ltb-false 15 c (within_by (nat_lt 15 c) _ other e).0 in omega (arith, le)
