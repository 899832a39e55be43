use Rattle.sv_server.proofs.OnConnection.Connections.{took_call}
use Rattle.sv_server.proofs.connection.Connection.take_call.Goals as goal

pub returns : goal.returns
returns g c = λ acts call old next. took_call _ acts call (rw (← c.self.view_is) at old) next
