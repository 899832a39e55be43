use Rattle.std.proofs.Common.{sym, ap}
use Rattle.sv_server.proofs.OnServer.Logs.{is_open_by_role, open_known}
use Rattle.sv_history.specs.Connection.{is_open}
use Rattle.sv_server.proofs.server.Server.is_connected.Goals as goal

pub returns-in-Some : goal.returns-in-Some
returns-in-Some g c = λ config log rep.
    open_known _ config log c.args.conn c.is_open.result rep
    (is_open_by_role _ _ c.is_open.result (c.in-Some.ensures config log rep) (sym c.is_open.ensures.value))

pub returns-in-None : goal.returns-in-None
returns-in-None g c = λ config log rep.
    open_known _ config log c.args.conn _ rep (ap is_open ((rw c.in-None.is at c.connection.ensures) config log rep))
