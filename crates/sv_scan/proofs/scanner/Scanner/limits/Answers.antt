use Rattle.sv_scan.proofs.scanner.Scanner.limits.Goals as goal

pub returns : goal.returns
returns g c acts is = let h = rw (← c.self.view_is) at is in h.limits
