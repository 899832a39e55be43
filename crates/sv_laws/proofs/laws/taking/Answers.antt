use Rattle.sv_laws.proofs.NoneRefused.{none_refused}
use Rattle.sv_laws.proofs.Taking.{taking}
use Rattle.sv_laws.proofs.laws.taking.Goals as goal

pub returns-clause-same : goal.returns-clause-same
returns-clause-same c = taking

pub returns-clause-none_refused : goal.returns-clause-none_refused
returns-clause-none_refused c = none_refused
