use Rattle.sv_pace.proofs.Counted.{one_slept}
use Rattle.sv_pace.proofs.pace.Pace.sleep.Goals as goal

pub returns-clause-stands : goal.returns-clause-stands
returns-clause-stands c = λ waits stands.
    one_slept _ _ _ _ _ _ waits (rw (← c.self.view_is) at stands) c.saturating_sub-self-inside.ensures
