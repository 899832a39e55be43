use Rattle.sv_net.proofs.Running.{hands_no_stimulus, hands_stimulus}
use Rattle.sv_net.proofs.serving.stimulate_once.Goals as goal

pub returns-in-Some : goal.returns-in-Some
returns-in-Some g c = hands_stimulus _ _ _ _ _ _ c.in-Some.stimulus _ _ c.in-Some.is c.stimulus.ensures.asked
    (rw c.in-Some.is at c.stimulus.ensures.accepted) c.stimulate.ensures

pub returns-in-None : goal.returns-in-None
returns-in-None g c = hands_no_stimulus _ _ _ _ _ _ _ c.in-None.is c.stimulus.ensures.asked
