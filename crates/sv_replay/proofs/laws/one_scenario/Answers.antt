use Rattle.sv_replay.specs.Script.{parts}
use Rattle.sv_replay.proofs.Scenarios.{tells_unique}
use Rattle.sv_replay.proofs.laws.one_scenario.Goals as goal

pub returns : goal.returns
returns c = λ text. tells_unique 0 (parts text)
