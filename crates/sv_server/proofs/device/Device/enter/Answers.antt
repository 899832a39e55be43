use Rattle.sv_history.specs.Act.{wait_acts}
use Rattle.sv_server.proofs.OnDevice.Parts.{device_entered}
use Rattle.sv_server.proofs.device.Device.enter.Goals as goal

pub returns-clause-stands : goal.returns-clause-stands
returns-clause-stands g c = λ config acts old place.
    let is = rw (← c.self.view_is) at old in
    rw (← (c.deadline-deadline.ensures config acts old))
    (device_entered _ c.enter.new.self config acts
    (record { conn = c.args.conn.number; lid = c.args.lid; wait = c.args.wait; deadline = c.deadline-deadline.result }) is
    (c.enter.ensures.stands (wait_acts acts) is.4) c.enter.ensures.value (rw (← c.self.view_is) at place) c.requires)
