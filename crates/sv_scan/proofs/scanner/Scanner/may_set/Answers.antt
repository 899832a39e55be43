use Rattle.std.proofs.Common.{rules}
use Rattle.sv_scan.proofs.scanner.Scanner.may_set.Goals as goal

pub returns-then-not-is_idle-clause-answer : goal.returns-then-not-is_idle-clause-answer
returns-then-not-is_idle-clause-answer g c = search rules

pub returns-clause-answer : goal.returns-clause-answer
returns-clause-answer g c = search rules
