use Rattle.std.proofs.Common.{sym}
use Rattle.sv_server.proofs.OnConnection.Connections.{faulted_is, fault_means_faulted}
use Rattle.sv_server.proofs.connection.Connection.is_faulted.Goals as goal

pub returns-in-Ok : goal.returns-in-Ok
returns-in-Ok g c = λ acts is. rw (← c.in-Ok.ensures.value) at (faulted_is _ acts (rw (← c.self.view_is) at is))

pub returns-in-Err-RecordTooLong : goal.returns-in-Err-RecordTooLong
returns-in-Err-RecordTooLong g c = λ acts is.
    fault_means_faulted _ acts (rw (← c.self.view_is) at is) _ (sym c.in-Err-RecordTooLong.ensures.value)
