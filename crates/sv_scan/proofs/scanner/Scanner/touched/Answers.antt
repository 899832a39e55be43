use Rattle.std.proofs.Common.{refl}
use Rattle.sv_scan.proofs.scanner.Scanner.touched.Goals as goal

pub returns-clause-value : goal.returns-clause-value
returns-clause-value g c = rw (← c.self.view_is) refl

pub returns-clause-stands : goal.returns-clause-stands
returns-clause-stands g c acts is = let held = rw (← c.self.view_is) at is in held.touched
