use Rattle.sv_scan.proofs.scanner.Scanner.monitor.Goals as goal

pub returns-clause-answer : goal.returns-clause-answer
returns-clause-answer g c acts is = let h = rw (← c.self.view_is) at is in h.monitor

pub returns-clause-bounded : goal.returns-clause-bounded
returns-clause-bounded g c = c.self.invariant.monitor
