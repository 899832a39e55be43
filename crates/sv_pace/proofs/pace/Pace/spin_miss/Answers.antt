use Rattle.sv_pace.proofs.Counted.{one_missed}
use Rattle.sv_pace.proofs.pace.Pace.spin_miss.Goals as goal

pub returns-clause-stands : goal.returns-clause-stands
returns-clause-stands c = λ waits stands.
    one_missed _ _ _ _ _ _ waits (rw (← c.self.view_is) at stands) c.longer-self-inside.ensures.value
