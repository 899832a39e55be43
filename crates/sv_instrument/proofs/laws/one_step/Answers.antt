use Rattle.sv_instrument.proofs.OneStep.{one_step}
use Rattle.sv_instrument.proofs.laws.one_step.Goals as goal

pub returns : goal.returns
returns c = one_step
