use Rattle.sv_server.proofs.server.Server.tell_statuses.Goals as goal

pub returns : goal.returns
returns g c = λ config log rep. (c.statuses_shown-now.ensures config log rep, c.put_statuses.ensures)
