use Rattle.std.proofs.Common.{rules}
use Rattle.sv_scan.proofs.scan_list.ScanList.channels.Goals as goal

pub returns-clause-same : goal.returns-clause-same
returns-clause-same c = search rules
