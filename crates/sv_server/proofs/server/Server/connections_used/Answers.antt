use Rattle.sv_server.proofs.server.Server.connections_used.Goals as goal

pub returns : goal.returns
returns g c = λ config history s. let state = rw (← c.self.view_is) at s.represents in (s.log, s.is_log, state.connections_used)
