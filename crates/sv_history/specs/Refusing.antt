-- Refusing a call for lack of resources (VXI-11 revision 1.0, section B.5, error 9). The server can
-- refuse only a create_link or a create_intr_chan in this way, because only these two calls
-- allocate memory.
use Rattle.std.specs.Prelude.{ℕ, Bool, true, false, List, Option, Some, None, if◌then◌else◌}
use Rattle.sv_vxi.specs.declared.error_code.ErrorCode.TheVariants.{OutOfResources}
use Rattle.sv_vxi.specs.Arguments.{Arguments, CreateLink, CreateIntrChan}
use Rattle.sv_history.specs.Act.{ConnAct}
use Rattle.sv_history.specs.CoreCall.{CoreCall, failure}
use Rattle.sv_history.specs.Request.{Request, CoreRequest, next_request}
use Rattle.sv_history.specs.Effect.{result_reply}

-- whether a call can allocate memory: only a create_link or a create_intr_chan can do so
abbrev pub takes_memory : Arguments → Bool
takes_memory (CreateLink client_id lock_device lock_timeout device) = true
takes_memory (CreateIntrChan host_addr host_port prog_num prog_vers prog_family) = true
takes_memory _ = false

-- the call of a request, if the server can refuse this call for lack of resources; else `None`
abbrev pub refusable_call : Option Request → Option CoreCall
refusable_call (Some (CoreRequest call)) = if takes_memory call.arguments then Some call else None
refusable_call _ = None

-- the next call of a connection, if the server can refuse that call for lack of resources; else
-- `None`
abbrev pub refusable : List ConnAct → Option CoreCall
refusable acts = refusable_call (next_request acts)

-- the reply to a call that is refused for lack of resources: error 9
abbrev pub refused_reply : CoreCall → List ℕ
refused_reply call = result_reply call.xid (failure call.arguments OutOfResources)
