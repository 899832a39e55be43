-- Which calls are answered from their header alone, before their arguments are read, and with which
-- reply.
use Rattle.std.proofs.Common.{◌≡◌, Bool, true, false, cond, Option, Some, None, refl}
use Rattle.std.specs.Prelude.{not, ◌==◌, if◌then◌else◌}
use Rattle.sv_rpc.specs.declared.reply.Reply.{Reply}
use Rattle.sv_rpc.specs.declared.reply.Reply.TheVariants.{Success, ProgUnavail, ProgMismatch, ProcUnavail}
use Rattle.sv_rpc.specs.Call.{PlainCall}
use Rattle.sv_vxi.specs.Arguments.{is_one_of}
use Rattle.sv_history.specs.declared.event.Role.{Role}
use Rattle.sv_history.specs.Request.{Request, Decided, program_of, procedure_request, call_request}

abbrev pub header_reply : Role → PlainCall → Option Reply
header_reply role call =
    if not (call.prog == (program_of role).0) then Some ProgUnavail
    else (if not (call.vers == (program_of role).1) then Some (ProgMismatch (program_of role).1 (program_of role).1)
    else (if call.proc == 0 then Some Success
    else (if not (is_one_of (program_of role).2 call.proc) then Some ProcUnavail else None)))

abbrev pub request_unless_decided : Role → PlainCall → Option Reply → Request
request_unless_decided role call (Some reply) = Decided call.xid reply
request_unless_decided role call None = procedure_request role call

pub request_by_header : (role : Role) (call : PlainCall) → call_request role call ≡ request_unless_decided role call
    (header_reply role call)
request_by_header role call = by (call.prog == (program_of role).0) (call.vers == (program_of role).1) (call.proc == 0)
    (is_one_of (program_of role).2 call.proc)
  where
    by : (program version null there : Bool)
        → cond (not program) (Decided call.xid ProgUnavail)
        (cond (not version) (Decided call.xid (ProgMismatch (program_of role).1 (program_of role).1))
        (cond null (Decided call.xid Success) (cond (not there) (Decided call.xid ProcUnavail) (procedure_request role call))))
        ≡ request_unless_decided role call (cond (not program) (Some ProgUnavail)
        (cond (not version) (Some (ProgMismatch (program_of role).1 (program_of role).1))
        (cond null (Some Success) (cond (not there) (Some ProcUnavail) None))))
    by false version null there = refl
    by true false null there = refl
    by true true true there = refl
    by true true false false = refl
    by true true false true = refl
