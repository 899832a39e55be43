use Rattle.std.proofs.Common.{◌≤◌, arith}
use Rattle.std.proofs.lemmas.Bool.Decides.{nat_tests}
use Rattle.sv_serve.proofs.driver.Driver.is_unused.Goals as goal

pub returns : goal.returns
returns g c = λ so config history stands.
    let (log, is_log, connections_used) = c.connections_used.ensures config history (rw (← c.self.view_is) at stands) in
    let low : c.connections_used.result ≤ c.args.conn = grind (arith, nat_tests, so) in
    (log, is_log, λ d above. connections_used.0 d (omega (arith, low, above)))
