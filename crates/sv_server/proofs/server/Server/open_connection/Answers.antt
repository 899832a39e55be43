use Rattle.std.proofs.Common.{ℕ, true, false, is_some, refl, sym, ap, ◌∙◌, arith}
use Rattle.std.specs.Prelude.{slice_index_or}
use Rattle.std.proofs.lemmas.Bool.{lt-ltb}
use Rattle.sv_server.proofs.OnServer.Logs.{connection_of, is_open_by_role, shut_is}
use Rattle.sv_server.proofs.server.Server.open_connection.Goals as goal

pub returns-in_default-clause-answer : goal.returns-in_default-clause-answer
returns-in_default-clause-answer g c = λ config log rep.
    (refl, rw (lt-ltb 15 c.args.conn (omega (arith, c.in_default.ensures))) refl)

pub returns-in-Some-role-clause-answer : goal.returns-in-Some-role-clause-answer
returns-in-Some-role-clause-answer g c = λ config log rep.
    let number = c.in-Some.number in
    let is = connection_of c.args.self.now config log number.number c.index-2.result.now rep number.within
    (rw (← c.self.view_is) (c.index-2.ensures ∙ ap
    (λ (n : ℕ). slice_index_or c.self.inside.connections.items n c.index-2.result.now) c.index.ensures)) in
    let unshut = is_open_by_role c.index-2.result.now _ _ is (ap is_some (sym c.role.ensures ∙ c.in-Some-role.is)) in
    rw (← c.in-Some.ensures) (shut_is number.number log true number.within unshut)

pub returns-in-None-clause-answer : goal.returns-in-None-clause-answer
returns-in-None-clause-answer g c = λ config log rep.
    let number = c.in-Some.number in
    let is = connection_of c.args.self.now config log number.number c.index-2.result.now rep number.within
    (rw (← c.self.view_is) (c.index-2.ensures ∙ ap
    (λ (n : ℕ). slice_index_or c.self.inside.connections.items n c.index-2.result.now) c.index.ensures)) in
    let shut = is_open_by_role c.index-2.result.now _ _ is (ap is_some (sym c.role.ensures ∙ c.in-None.is)) in
    (refl, rw (← c.in-Some.ensures) (shut_is number.number log false number.within shut))
