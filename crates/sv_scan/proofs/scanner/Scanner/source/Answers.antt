use Rattle.std.proofs.Common.{rules}
use Rattle.sv_scan.proofs.scanner.Scanner.source.Goals as goal

pub returns : goal.returns
returns g c = search rules
