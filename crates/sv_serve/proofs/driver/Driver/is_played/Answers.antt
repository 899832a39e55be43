use Rattle.std.proofs.Common.{arith}
use Rattle.std.proofs.lemmas.Grind.{common_steps}
use Rattle.sv_serve.proofs.driver.Driver.is_played.Goals as goal

pub returns : goal.returns
returns g c = grind (arith, common_steps)
