use Rattle.sv_history.specs.Act.{wait_acts}
use Rattle.sv_links.specs.Channels.{ChannelOpened}
use Rattle.sv_server.proofs.OnDevice.Parts.{device_left}
use Rattle.sv_server.proofs.OnDevice.Channeled.{device_opened}
use Rattle.sv_server.proofs.device.Device.open_channel.Goals as goal

pub returns-clause-stands : goal.returns-clause-stands
returns-clause-stands g c = λ config acts old dials.
    let is = rw (← c.self.view_is) at old in
    let left = device_left _ c.leave.new.self config acts c.args.conn.number is
    (c.leave.ensures.stands (wait_acts acts) is.4) c.leave.ensures.value in
    device_opened _ c.open.new.self config acts c.args.conn.number (ChannelOpened c.args.conn.number c.args.peer) left
    (c.open.ensures.stands (is.7 c.args.conn.number dials)) c.open.ensures.enabled c.open.ensures.others
