use Rattle.sv_server.proofs.OnConnection.Connections.{idle_if_none_found}
use Rattle.sv_server.proofs.connection.Connection.is_idle.Goals as goal

pub returns : goal.returns
returns g c = λ acts is. idle_if_none_found _ c.is_none.result acts c.is_none.ensures (c.next_call.ensures.answer acts is)
