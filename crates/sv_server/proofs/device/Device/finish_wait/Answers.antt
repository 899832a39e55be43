use Rattle.std.proofs.Common.{◌∷◌, sym}
use Rattle.sv_vxi.specs.Reading.{plain_arguments}
use Rattle.sv_links.specs.Waiting.{Left}
use Rattle.sv_history.specs.Act.{Waited, wait_acts}
use Rattle.sv_server.proofs.OnDevice.Parts.{device_left}
use Rattle.sv_server.proofs.OnDevice.Granted.{granted_left, executed_is, free_of}
use Rattle.sv_server.proofs.device.Device.finish_wait.Goals as goal

pub returns-in-Ok-clause-ends : goal.returns-in-Ok-clause-ends
returns-in-Ok-clause-ends g c = λ config polled acts known may.
    let is = rw (← c.self.view_is) at known.0 in
    let arguments = plain_arguments c.args.args.now in
    let log = Waited (Left c.args.conn.number) ∷ acts in
    let left = device_left _ c.leave.new.self config acts c.args.conn.number is
    (c.leave.ensures.stands (wait_acts acts) is.4) c.leave.ensures.value in
    let granted = granted_left arguments _ c.leave.new.self config acts c.args.conn.number is c.leave.ensures.value
    (rw (← c.self.view_is) at may) in
    let (called, needs) = c.in-Ok.ensures.answer config log left in
    rw (executed_is config polled c.args.conn.number c.in-Ok.call arguments log called)
    (c.execute.ensures.ends config polled log (left, known.1) (free_of c.in-Ok.call arguments _ log called granted needs))

pub returns-in-Err-clause-ends : goal.returns-in-Err-clause-ends
returns-in-Err-clause-ends g c = λ config polled acts known may.
    let is = rw (← c.self.view_is) at known.0 in
    let log = Waited (Left c.args.conn.number) ∷ acts in
    let left = device_left _ c.leave.new.self config acts c.args.conn.number is
    (c.leave.ensures.stands (wait_acts acts) is.4) c.leave.ensures.value in
    rw (c.in-Err.ensures.answer config log left config polled c.args.conn.number) (sym c.failure.ensures.result_is, left)
