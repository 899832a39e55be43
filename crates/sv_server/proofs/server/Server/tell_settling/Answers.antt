use Rattle.sv_server.proofs.OnReplay.Telling.{no_step_told, told_more, told_all}
use Rattle.sv_server.proofs.server.Server.tell_settling.Goals as goal

pub loop-init : goal.loop-init
loop-init g c = no_step_told _ _ _ _

pub loop-preserved : goal.loop-preserved
loop-preserved g c = told_more _ _ _ _ _ _ _ _ _ _ _ _ c.loop.invariant c.loop-test.ensures.tells

pub returns : goal.returns
returns g c = told_all _ _ _ _ _ _ _ _ _ _ _ c.loop.invariant c.loop-test.ensures.tells
