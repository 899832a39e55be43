use Rattle.std.proofs.Common.{◌∙◌}
use Rattle.sv_history.proofs.Telling.{channel_open_by_channel_log}
use Rattle.sv_server.proofs.device.Device.has_channel.Goals as goal

pub returns : goal.returns
returns g c = λ config acts old.
    let is = rw (← c.self.view_is) at old in
    let (channel_log, tells, are, owned) = is.6 in
    c.is_open.ensures channel_log are ∙ channel_open_by_channel_log c.args.conn.number acts channel_log tells
