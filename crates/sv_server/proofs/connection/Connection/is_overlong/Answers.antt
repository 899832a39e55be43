use Rattle.std.proofs.Common.{◌∙◌}
use Rattle.sv_server.proofs.OnConnection.Connections.{overlong_is}
use Rattle.sv_server.proofs.connection.Connection.is_overlong.Goals as goal

pub returns : goal.returns
returns g c = λ acts is. c.is_overlong.ensures ∙ overlong_is _ acts (rw (← c.self.view_is) at is)
