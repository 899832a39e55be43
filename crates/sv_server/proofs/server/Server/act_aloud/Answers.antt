use Rattle.sv_history.specs.Event.{plain}
use Rattle.sv_server.proofs.OnReplay.Explained.{told_applied, refused_event_is_explained}
use Rattle.sv_server.proofs.server.Server.act_aloud.Goals as goal

pub returns-in-Ok-clause-told : goal.returns-in-Ok-clause-told
returns-in-Ok-clause-told g c = λ config log rep.
    rw c.in-Ok.is (told_applied c.args.line config (plain c.args.event) log c.in-Ok.field-0 c.args.self.now c.act-done.new.self
    c.tell_settling.new.self c.list_all.new.shown _ _ _ _ _ _ _ _ _ _ _ rep (c.in-Ok.ensures.acts config log rep)
    (c.list_all.ensures config log rep (c.unlisted-shown.ensures config log rep)) (c.tell_before.ensures config log rep)
    c.tell_tick.ensures c.tell.ensures c.tell_settling.ensures)

pub returns-in-Err-clause-told : goal.returns-in-Err-clause-told
returns-in-Err-clause-told g c = λ config log rep.
    rw c.in-Err.is (refused_event_is_explained c.args.line config (plain c.args.event) log c.in-Err.field-0 c.args.self.now
    c.act-done.new.self
    _ _ _ _ _ _ rep (c.in-Err.ensures.acts config log rep) c.in-Err.ensures.err (c.tell_before.ensures config log rep) c.tell_tick.ensures)
