use Rattle.std.proofs.Common.{ap}
use Rattle.std.specs.Prelude.{is_some}
use Rattle.sv_history.specs.Act.{of, device_acts}
use Rattle.sv_server.specs.Server.State.{IsTaken}
use Rattle.sv_server.proofs.OnServer.Logs.{connection_of}
use Rattle.sv_server.proofs.OnServer.Taken.{holds_for_entry}
use Rattle.sv_server.proofs.OnServer.Going.{stands_after_resume, may_resume}
use Rattle.sv_server.proofs.server.Server.resume.Goals as goal

pub returns-clause-stands : goal.returns-clause-stands
returns-clause-stands g c = λ config polled log rep said able is_entry fewer.
    let entry = c.args.entry in
    let at = rw c.index.ensures at c.index_mut-connection.ensures.value in
    let state = rw (← c.self.view_is) at rep in
    let is = connection_of _ config log entry.conn c.index_mut-connection.result.now state c.requires.0 at in
    let (call, known, makes) = holds_for_entry (IsTaken log) entry.conn _ entry state.taken (rw (← c.self.view_is) at c.requires.1) in
    let may = may_resume c.self.inside.device entry log call able is_entry (rw (← c.self.view_is) at fewer) makes in
    let gone = c.continue_call.ensures.concludes config polled (of entry.conn log) (device_acts log) is (ap is_some known)
    (state.device, said)
    (rw known may) in
    rw (c.index.ensures, known)
    (stands_after_resume _ config log entry.conn call _ c.continue_call.new.connection c.continue_call.new.device state c.self.invariant
    c.requires.0 known (rw known at gone))
