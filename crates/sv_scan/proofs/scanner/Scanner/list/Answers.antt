use Rattle.std.proofs.Common.{rules}
use Rattle.sv_scan.proofs.scanner.Scanner.list.Goals as goal

pub returns-clause-answer : goal.returns-clause-answer
returns-clause-answer g c = search rules
