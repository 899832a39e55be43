use Rattle.sv_laws.proofs.NoneLate.{none_late}
use Rattle.sv_laws.proofs.laws.none_late.Goals as goal

pub returns : goal.returns
returns c = none_late
