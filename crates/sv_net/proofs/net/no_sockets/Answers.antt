use Rattle.std.proofs.Common.{arith, rules}
use Rattle.std.proofs.lemmas.Grind.{common_steps}
use Rattle.sv_net.proofs.net.no_sockets.Goals as goal

pub loop-init : goal.loop-init
loop-init g c = search rules

pub returns : goal.returns
returns g c = grind (arith, common_steps)
