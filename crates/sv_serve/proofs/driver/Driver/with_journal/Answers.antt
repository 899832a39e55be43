use Rattle.std.proofs.Common.{rules, refl, arith}
use Rattle.sv_serve.proofs.Unused.{nobody}
use Rattle.sv_serve.proofs.driver.Driver.with_journal.Goals as goal

pub returns : goal.returns
returns g c = search rules

pub invariant_of-result : goal.invariant_of-result
invariant_of-result g c = (refl, omega arith, (λ n le. nobody 16 n), search rules)
