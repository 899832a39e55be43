use Rattle.std.proofs.Common.{rules}
use Rattle.sv_scan.proofs.scan_list.ScanList.of.Goals as goal

pub returns : goal.returns
returns c = search rules
