use Rattle.std.proofs.Common.{◌∙◌}
use Rattle.sv_server.proofs.OnConnection.Connections.{kept_next_is_next}
use Rattle.sv_server.proofs.connection.Connection.next_call.Goals as goal

pub returns-clause-answer : goal.returns-clause-answer
returns-clause-answer g c = λ acts is. c.first_call.ensures ∙ kept_next_is_next c.args.self.now acts is
