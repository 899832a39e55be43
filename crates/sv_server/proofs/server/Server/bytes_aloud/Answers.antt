use Rattle.sv_history.specs.Act.{device_acts}
use Rattle.sv_server.proofs.OnReplay.Explained.{head_told, bytes_applied, bytes_refused}
use Rattle.sv_server.proofs.server.Server.bytes_aloud.Goals as goal

pub returns-in-Ok-clause-told : goal.returns-in-Ok-clause-told
returns-in-Ok-clause-told g c = λ config log rep.
    let device = (rw (← c.self.view_is) at rep).device in
    let head = head_told c.args.line _ config log _ _ _ _ (c.time.ensures.answer config (device_acts log) device) c.put_head.ensures in
    rw c.in-Ok.is (bytes_applied c.args.line config c.args.conn.number c.args.piece.now log c.in-Ok.field-0 c.args.self.now
    c.act-done.new.self c.settle.new.self c.conn_shown-before.result c.conn_shown-after.result _ _ _ _ _ _ rep
    (c.in-Ok.ensures.acts config log rep) (c.conn_shown-before.ensures config log rep) head c.conn_shown-after.ensures
    c.put_conn.ensures c.settle.ensures)

pub returns-in-Err-clause-told : goal.returns-in-Err-clause-told
returns-in-Err-clause-told g c = λ config log rep.
    let device = (rw (← c.self.view_is) at rep).device in
    let head = head_told c.args.line _ config log _ _ _ _ (c.time.ensures.answer config (device_acts log) device) c.put_head.ensures in
    rw c.in-Err.is (bytes_refused c.args.line config c.args.conn.number c.args.piece.now log c.in-Err.field-0 c.args.self.now
    c.act-done.new.self _ _ _ _ (c.in-Err.ensures.acts config log rep) c.in-Err.ensures.err head)
