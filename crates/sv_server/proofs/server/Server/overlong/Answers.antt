use Rattle.sv_history.proofs.Unrecorded.{nothing_overlong}
use Rattle.sv_server.proofs.server.Server.overlong.Goals as goal

pub returns-in-Some : goal.returns-in-Some
returns-in-Some g c = λ config history s.
    (s.log, s.is_log, c.is_overlong.ensures _ (c.in-Some.ensures config s.log s.represents))

pub returns-in-None : goal.returns-in-None
returns-in-None g c = λ config history s.
    (s.log, s.is_log, nothing_overlong _ ((rw c.in-None.is at c.connection.ensures) config s.log s.represents))
