use Rattle.std.proofs.Common.{rules}
use Rattle.sv_scan.proofs.scanner.Scanner.may_init.Goals as goal

pub returns-then-not-is_idle : goal.returns-then-not-is_idle
returns-then-not-is_idle g c = search rules
