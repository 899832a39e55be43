use Rattle.sv_replay.specs.Script.{parts}
use Rattle.sv_replay.proofs.TellsInOrder.{told_entries_are_scenario}
use Rattle.sv_replay.proofs.laws.told_in_order.Goals as goal

pub returns : goal.returns
returns c = λ text entries tells. told_entries_are_scenario 0 (parts text) entries tells
