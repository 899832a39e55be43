use Rattle.std.proofs.Common.{ap, ◌∙◌}
use Rattle.std.specs.Prelude.{is_some}
use Rattle.sv_server.proofs.OnConnection.Connections.{room_is, no_room}
use Rattle.sv_server.proofs.connection.Connection.room.Goals as goal

pub returns-in-Some-clause-answer : goal.returns-in-Some-clause-answer
returns-in-Some-clause-answer g c = λ acts old.
    let is = rw (← c.self.view_is) at old in c.room.ensures.value ∙ room_is _ acts is (ap is_some c.in-Some.is)

pub returns-in-None-clause-answer : goal.returns-in-None-clause-answer
returns-in-None-clause-answer g c = λ acts old. no_room _ acts (rw (← c.self.view_is) at old) c.in-None.is
