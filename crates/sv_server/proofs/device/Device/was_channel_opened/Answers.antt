use Rattle.std.proofs.Common.{List, subst}
use Rattle.sv_links.specs.Channels.{ChannelAct}
use Rattle.sv_links.specs.ChannelRepresentation.{AreChannels}
use Rattle.sv_history.proofs.Telling.{channel_log_unique}
use Rattle.sv_server.proofs.device.Device.was_channel_opened.Goals as goal

pub returns : goal.returns
returns g c = λ config acts channel_log old tells.
    let is = rw (← c.self.view_is) at old in
    c.was_opened.ensures channel_log
    (subst (λ (l : List ChannelAct). AreChannels c.self.inside.intr l) (channel_log_unique acts is.6.0 channel_log is.6.1 tells) is.6.2)
