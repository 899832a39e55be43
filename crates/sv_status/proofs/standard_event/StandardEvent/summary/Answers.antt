use Rattle.sv_status.proofs.Words.{some_enabled_bit}
use Rattle.sv_status.proofs.standard_event.StandardEvent.summary.Goals as goal

pub returns : goal.returns
returns c acts is = let kept = rw (← c.self.view_is) at is in some_enabled_bit _ _ _ kept.enable kept.event
