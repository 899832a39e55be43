use Rattle.std.proofs.Common.{ap}
use Rattle.sv_explain.specs.declared.shown.ConnShown.{ConnShown}
use Rattle.sv_explain.specs.Changes.{conn_lines}
use Rattle.sv_print.proofs.Taking.{prints_equal_text}
use Rattle.sv_server.proofs.server.Server.tell_conn.Goals as goal

pub returns-in-Some : goal.returns-in-Some
returns-in-Some g c = rw (← c.in-Some.ensures) (
  c.conn_shown-new.result,
  c.put_in-old.ensures.put,
  prints_equal_text _ _ _ _ _ _
      (ap (λ (x : ConnShown). conn_lines c.in-Some.conn.number x c.conn_shown-new.result) c.put_in-old.ensures.before)
      (rw (← c.in-Some.ensures) at c.put_conn.ensures),
  c.conn_shown-new.ensures,
)
