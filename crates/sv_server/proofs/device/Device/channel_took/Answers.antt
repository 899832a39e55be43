use Rattle.std.proofs.Common.{◌∙◌}
use Rattle.sv_links.specs.Channels.{ChannelTaken}
use Rattle.sv_history.proofs.Telling.{channel_open_by_channel_log}
use Rattle.sv_server.proofs.OnDevice.Channeled.{device_channel}
use Rattle.sv_server.proofs.device.Device.channel_took.Goals as goal

pub returns-clause-stands : goal.returns-clause-stands
returns-clause-stands g c = λ config acts old there.
    let is = rw (← c.self.view_is) at old in
    device_channel _ c.take.new.self config acts (ChannelTaken c.args.conn.number c.args.count) is
    (λ channel_log tells are. c.take.ensures.stands channel_log are (channel_open_by_channel_log c.args.conn.number acts channel_log tells
    ∙ there))
    (rw c.take.ensures.enabled is.6.3) (λ d dials. c.take.ensures.ready d (is.7 d dials))
