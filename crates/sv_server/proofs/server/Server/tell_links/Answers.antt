use Rattle.std.proofs.Common.{subst, sym}
use Rattle.sv_history.specs.Act.{device_acts}
use Rattle.sv_explain.specs.declared.shown.LinksShown.{LinksShown}
use Rattle.sv_explain.specs.Shown.{AreLinks}
use Rattle.sv_server.proofs.server.Server.tell_links.Goals as goal

pub returns : goal.returns
returns g c = λ config log rep.
    let held = rw (← c.self.view_is) at rep in
    let acts = device_acts log in (
      subst (λ (shown : LinksShown). AreLinks shown acts) (sym c.update.ensures.value) (record {
        links = c.list_links.ensures config acts held.device;
        lock = c.lock_holder.ensures config acts held.device;
        asking = λ channel_log tells. c.list_asking_links.ensures config acts channel_log held.device tells;
      }),
      c.update.ensures.lines,
    )
