use Rattle.std.proofs.Common.{rules}
use Rattle.sv_scan.proofs.scanner.Scanner.may_read.Goals as goal

pub returns-then-is_same : goal.returns-then-is_same
returns-then-is_same g c = search rules
