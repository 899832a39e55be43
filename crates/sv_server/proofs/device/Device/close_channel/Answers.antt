use Rattle.sv_links.specs.Channels.{ChannelClosed}
use Rattle.sv_server.proofs.OnDevice.Channeled.{device_channel}
use Rattle.sv_server.proofs.device.Device.close_channel.Goals as goal

pub returns-clause-stands : goal.returns-clause-stands
returns-clause-stands g c = λ config acts old.
    let is = rw (← c.self.view_is) at old in
    device_channel _ c.close.new.self config acts (ChannelClosed c.args.conn.number) is
    (λ channel_log tells are. c.close.ensures.stands channel_log are)
    (rw c.close.ensures.enabled is.6.3) (λ d dials. c.close.ensures.others d (is.7 d dials))
