use Rattle.sv_laws.proofs.OneLog.{one_log}
use Rattle.sv_laws.proofs.laws.one_log.Goals as goal

pub returns : goal.returns
returns c = one_log
