use Rattle.sv_server.proofs.server.Server.is_open.Goals as goal

pub returns-in-Conn : goal.returns-in-Conn
returns-in-Conn g c = λ config history s. (s.log, s.is_log, rw c.in-Conn.is (c.is_connected.ensures config s.log s.represents))

pub returns-in-Intr : goal.returns-in-Intr
returns-in-Intr g c = λ config history s. (s.log, s.is_log, rw c.in-Intr.is (c.has_channel.ensures config s.log s.represents))
