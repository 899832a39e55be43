use Rattle.std.proofs.Common.{◌∷◌, ◌++◌}
use Rattle.sv_links.specs.Links.{closing}
use Rattle.sv_links.specs.Waiting.{Left}
use Rattle.sv_history.specs.Act.{Waited, Linked, link_acts, wait_acts}
use Rattle.std.specs.Prelude.{map}
use Rattle.sv_server.proofs.OnDevice.Parts.{device_left, device_closed}
use Rattle.sv_server.proofs.OnDevice.Channeled.{device_cancelled}
use Rattle.sv_server.proofs.device.Device.close_connection.Goals as goal

pub returns-clause-stands : goal.returns-clause-stands
returns-clause-stands g c = λ config acts old.
    let is = rw (← c.self.view_is) at old in
    let left = device_left _ c.leave.new.self config acts c.args.conn.number is
    (c.leave.ensures.stands (wait_acts acts) is.4) c.leave.ensures.value in
    let closed = device_closed _ c.close_connection.new.self c.disable_connection.new.self config (Waited (Left c.args.conn.number) ∷ acts)
    c.args.conn.number left (c.close_connection.ensures.stands (link_acts acts) is.0) c.close_connection.ensures.spare
    c.disable_connection.ensures.stands c.disable_connection.ensures.enabled c.disable_connection.ensures.ready in
    let links = closing c.args.conn.number (link_acts acts) in
    c.close_channel.ensures.stands config (map Linked links ++ Waited (Left c.args.conn.number) ∷ acts)
    (device_cancelled _ c.cancel.new.self config acts links c.args.conn.number closed c.cancel.ensures.stands
    c.cancel.ensures.enabled c.cancel.ensures.others)
