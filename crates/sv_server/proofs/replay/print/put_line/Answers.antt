use Rattle.std.proofs.Common.{sym}
use Rattle.sv_server.proofs.OnReplay.Ports.{line_of_waiting_bytes}
use Rattle.sv_server.proofs.replay.print.put_line.Goals as goal

pub returns-in-Conn : goal.returns-in-Conn
returns-in-Conn g c = rw (line_of_waiting_bytes c.args.port c.args.bytes.now (sym c.if-is_empty.ensures), c.in-Conn.is) c.put_bytes.ensures

pub returns-in-Intr : goal.returns-in-Intr
returns-in-Intr g c = rw (line_of_waiting_bytes c.args.port c.args.bytes.now (sym c.if-is_empty.ensures), c.in-Intr.is)
    c.put_bytes-in-Intr.ensures
