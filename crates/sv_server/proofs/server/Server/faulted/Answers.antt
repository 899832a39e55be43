use Rattle.sv_history.proofs.Unrecorded.{nothing_faulted}
use Rattle.sv_server.proofs.server.Server.faulted.Goals as goal

pub returns-in-Some : goal.returns-in-Some
returns-in-Some g c = λ config history s.
    (s.log, s.is_log, c.is_faulted.ensures _ (c.in-Some.ensures config s.log s.represents))

pub returns-in-None : goal.returns-in-None
returns-in-None g c = λ config history s.
    (s.log, s.is_log, nothing_faulted _ ((rw c.in-None.is at c.connection.ensures) config s.log s.represents))
