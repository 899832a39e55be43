use Rattle.std.proofs.Common.{◌∙◌, ap, ◌∷◌}
use Rattle.std.specs.Prelude.{not}
use Rattle.sv_links.specs.Links.{Made, holder}
use Rattle.sv_history.specs.Act.{link_acts}
use Rattle.sv_server.proofs.OnDevice.Granted.{free_lock_excludes_nobody}
use Rattle.sv_server.proofs.OnDevice.Parts.{lids_there, locked_ends, not_refused}
use Rattle.sv_server.proofs.device.Device.make_locked.Goals as goal

pub returns-clause-ends : goal.returns-clause-ends
returns-clause-ends g c = λ config acts old place free.
    let is = rw (← c.self.view_is) at old in
    let (number, table) = c.in-Ok.ensures.ok (link_acts acts) is.0 in
    let left = lids_there (link_acts acts) (λ none. not_refused c.in-Ok.lid ((c.in-Ok.ensures.refused (link_acts acts) is.0).1 none)) in
    let log = Made c.in-Ok.lid c.args.conn.number ∷ link_acts acts in
    let granted = c.lock.ensures.answer log table ∙ ap not (free_lock_excludes_nobody (holder (link_acts acts)) c.in-Ok.lid free) in
    locked_ends _ c.create.new.self c.lock.new.self config acts c.args.conn.number c.in-Ok.lid _ is
    (rw (← c.self.view_is) at place) left number table
    (c.lock.ensures.stands granted log table) c.in-Ok.ensures.spare c.lock.ensures.spare c.told_link.ensures.told
