use Rattle.std.proofs.Common.{ap, ◌∙◌}
use Rattle.std.specs.Prelude.{option_map}
use Rattle.sv_history.specs.Request.{core_call_in}
use Rattle.sv_server.specs.Connection.Inside.Requests.{plain_core_call}
use Rattle.sv_server.proofs.connection.Connection.taken_call.Goals as goal

pub returns-in_err-taken : goal.returns-in_err-taken
returns-in_err-taken g c = λ acts is.
    ap (option_map plain_core_call) c.from_residual.ensures ∙ ap core_call_in (c.in_err-taken.ensures acts is)

pub returns : goal.returns
returns g c = λ acts is. c.core_call.ensures ∙ ap core_call_in (c.in_ok-taken.ensures acts is)
