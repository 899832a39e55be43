use Rattle.sv_status.proofs.StandardEvents.{stands_for_new}
use Rattle.sv_status.proofs.standard_event.StandardEvent.new.Goals as goal

pub returns : goal.returns
returns c = stands_for_new
