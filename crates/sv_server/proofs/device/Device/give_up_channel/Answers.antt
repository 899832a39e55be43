use Rattle.sv_history.specs.Act.{wait_acts}
use Rattle.sv_server.proofs.OnDevice.Parts.{device_left}
use Rattle.sv_server.proofs.OnDevice.Channeled.{device_left_same}
use Rattle.sv_server.proofs.device.Device.give_up_channel.Goals as goal

pub returns-clause-stands : goal.returns-clause-stands
returns-clause-stands g c = λ config acts old.
    let is = rw (← c.self.view_is) at old in
    let left = device_left _ c.leave.new.self config acts c.args.conn.number is
    (c.leave.ensures.stands (wait_acts acts) is.4) c.leave.ensures.value in
    device_left_same _ c.cancel.new.self config acts c.args.conn.number left c.cancel.ensures.stands c.cancel.ensures.enabled
    c.cancel.ensures.others
