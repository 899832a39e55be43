use Rattle.sv_net.proofs.Running.{hands_same, hands_then}
use Rattle.sv_net.proofs.serving.stimulate.Goals as goal

pub loop-init : goal.loop-init
loop-init g c = hands_same _ _ _ _ _

pub loop-preserved : goal.loop-preserved
loop-preserved g c = hands_then c.loop.invariant c.stimulate_once.ensures

pub returns-then-not-stimulate_once : goal.returns-then-not-stimulate_once
returns-then-not-stimulate_once g c = hands_then c.loop.invariant c.stimulate_once.ensures
