use Rattle.std.proofs.Common.{arith}
use Rattle.std.proofs.lemmas.Bool.Decides.{nat_tests}
use Rattle.sv_scan.proofs.scanner.Scanner.count.Goals as goal

pub returns-clause-answer : goal.returns-clause-answer
returns-clause-answer g c acts is = let h = rw (← c.self.view_is) at is in h.count

pub returns-clause-bounded : goal.returns-clause-bounded
returns-clause-bounded g c = grind (arith, nat_tests, c.self.invariant.count)
