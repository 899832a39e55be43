use Rattle.sv_laws.proofs.TurnAnswered.{turn_answered}
use Rattle.sv_laws.proofs.laws.turn_answered.Goals as goal

pub returns : goal.returns
returns c = turn_answered
