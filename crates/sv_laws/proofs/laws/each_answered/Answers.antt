use Rattle.sv_laws.proofs.EachAnswered.{each_answered}
use Rattle.sv_laws.proofs.laws.each_answered.Goals as goal

pub returns : goal.returns
returns c = each_answered
