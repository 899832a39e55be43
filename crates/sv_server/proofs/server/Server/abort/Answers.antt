use Rattle.sv_server.proofs.OnServer.Going.{suspended_is_below_16}
use Rattle.sv_server.proofs.server.Server.abort.Goals as goal

pub returns-in-Some-new : goal.returns-in-Some-new
returns-in-Some-new g c = λ config log rep does.
    rw (c.in-Some.is, ← c.in-Some-new.ensures) (c.give_up.ensures.stands config log rep
    (rw (← c.in-Some-new.ensures) at (does c.in-Some.number c.in-Some.is)))

pub returns-in_default-new : goal.returns-in_default-new
returns-in_default-new g c = λ config log rep does.
    absurd {0} (suspended_is_below_16 _ config log c.in-Some.number rep (does c.in-Some.number c.in-Some.is) c.in_default-new.ensures)
