use Rattle.sv_history.specs.Act.{wait_acts}
use Rattle.sv_server.proofs.OnDevice.Parts.{device_left}
use Rattle.sv_server.proofs.device.Device.end_wait.Goals as goal

pub returns-clause-stands : goal.returns-clause-stands
returns-clause-stands g c = λ config acts old.
    let is = rw (← c.self.view_is) at old in
    device_left _ c.leave.new.self config acts c.args.conn.number is (c.leave.ensures.stands (wait_acts acts) is.4) c.leave.ensures.value
