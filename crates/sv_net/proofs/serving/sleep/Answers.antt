use Rattle.sv_net.proofs.Pausing.{one_wait}
use Rattle.sv_net.proofs.serving.sleep.Goals as goal

pub returns-clause-pauses : goal.returns-clause-pauses
returns-clause-pauses g c = one_wait _ _ _ _ _ _ _ _ _ _ _ _ c.sleep_time-limit.ensures c.in_ok-ended.ensures.answers
