use Rattle.sv_status.proofs.StandardEvents.{stands_for_cleared}
use Rattle.sv_status.proofs.standard_event.StandardEvent.clear.Goals as goal

pub returns : goal.returns
returns c acts is = stands_for_cleared _ acts (rw (← c.self.view_is) at is)
