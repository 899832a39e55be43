use Rattle.sv_status.proofs.StandardEvents.{stands_for_occurred}
use Rattle.sv_status.proofs.standard_event.StandardEvent.occur.Goals as goal

pub returns : goal.returns
returns c acts is = stands_for_occurred _ acts c.args.bits (rw (← c.self.view_is) at is)
