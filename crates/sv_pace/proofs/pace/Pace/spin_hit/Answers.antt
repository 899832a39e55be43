use Rattle.std.proofs.Common.{refl}
use Rattle.sv_pace.proofs.pace.Pace.spin_hit.Goals as goal

pub returns-clause-stands : goal.returns-clause-stands
returns-clause-stands c = λ waits. record { missed = refl; pause = refl; left = refl }
