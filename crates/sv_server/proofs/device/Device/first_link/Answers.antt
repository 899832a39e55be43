use Rattle.std.proofs.Common.{◌∙◌}
use Rattle.sv_links.specs.Links.{live}
use Rattle.sv_history.specs.Act.{link_acts}
use Rattle.sv_server.proofs.OnShown.Links.{first_zero, first_other}
use Rattle.sv_server.proofs.device.Device.first_link.Goals as goal

pub returns-in-Some : goal.returns-in-Some
returns-in-Some g c = λ config acts old.
    let is = rw (← c.self.view_is) at old in
    first_zero (live (link_acts acts)) _ c.in-Some.conn is.0.rising (c.in-Some.ensures (link_acts acts) is.0)

pub returns-in-None : goal.returns-in-None
returns-in-None g c = λ config acts old.
    let is = rw (← c.self.view_is) at old in
    c.after.ensures (link_acts acts) is.0
    ∙ first_other (live (link_acts acts)) _ is.0.rising (c.in-None.ensures (link_acts acts) is.0)
