use Rattle.sv_status.proofs.StandardEvents.{stands_for_enable}
use Rattle.sv_status.proofs.standard_event.StandardEvent.set_enable.Goals as goal

pub returns : goal.returns
returns c acts is = stands_for_enable _ acts c.args.enable (rw (← c.self.view_is) at is)
