use Rattle.std.proofs.Common.{ℕ, ap, ◌∙◌}
use Rattle.std.specs.Prelude.{slice_index_or}
use Rattle.sv_server.proofs.OnServer.Logs.{connection_of}
use Rattle.sv_server.proofs.server.Server.connection.Goals as goal

pub returns : goal.returns
returns g c = λ config log rep.
    let conn = c.in_ok-conn.conn in
    rw (← c.in_ok-conn.ensures) (connection_of c.args.self.now config log conn.number c.index-2.result.now rep conn.within
    (rw (← c.self.view_is) (c.index-2.ensures ∙ ap
    (λ (n : ℕ). slice_index_or c.self.inside.connections.items n c.index-2.result.now) c.index.ensures)))
