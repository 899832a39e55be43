use Rattle.sv_laws.proofs.SoundEvents.{waits_while_held}
use Rattle.sv_laws.proofs.Holding.{oldest_gets}
use Rattle.sv_laws.proofs.Passing.{oldest_passes}
use Rattle.sv_laws.proofs.Overtaking.{none_overtakes}
use Rattle.sv_laws.proofs.laws.lock_fair.Goals as goal

pub returns-clause-held : goal.returns-clause-held
returns-clause-held c = waits_while_held

pub returns-clause-passes : goal.returns-clause-passes
returns-clause-passes c = oldest_passes

pub returns-clause-gets : goal.returns-clause-gets
returns-clause-gets c = oldest_gets

pub returns-clause-overtakes : goal.returns-clause-overtakes
returns-clause-overtakes c = none_overtakes
