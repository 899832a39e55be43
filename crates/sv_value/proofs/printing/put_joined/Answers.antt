use Rattle.std.proofs.Common.{arith}
use Rattle.std.proofs.lemmas.Grind.{common_steps}
use Rattle.sv_value.proofs.printing.put_joined.Goals as goal

pub loop-channel-init : goal.loop-channel-init
loop-channel-init g c = grind (arith, common_steps)

pub loop-channel-preserved : goal.loop-channel-preserved
loop-channel-preserved g c = grind (arith, common_steps)

pub returns : goal.returns
returns g c = grind (arith, common_steps)
