use Rattle.sv_history.specs.Act.{link_acts}
use Rattle.sv_server.proofs.OnDevice.Parts.{lids_there, made_ends, not_refused}
use Rattle.sv_server.proofs.device.Device.make_free.Goals as goal

pub returns-clause-ends : goal.returns-clause-ends
returns-clause-ends g c = λ config acts old place.
    let is = rw (← c.self.view_is) at old in
    let (number, table) = c.in-Ok.ensures.ok (link_acts acts) is.0 in
    let left = lids_there (link_acts acts) (λ none. not_refused c.in-Ok.lid ((c.in-Ok.ensures.refused (link_acts acts) is.0).1 none)) in
    made_ends _ c.create.new.self config acts c.args.conn.number c.in-Ok.lid _ is (rw (← c.self.view_is) at place) left number table
    c.in-Ok.ensures.spare c.told_link.ensures.told
