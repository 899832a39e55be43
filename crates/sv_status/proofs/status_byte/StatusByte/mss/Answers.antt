use Rattle.sv_status.proofs.StatusBytes.{master_is}
use Rattle.sv_status.proofs.status_byte.StatusByte.mss.Goals as goal

pub returns : goal.returns
returns c acts is = master_is c.asking.result _ acts (rw (← c.self.view_is) at is) c.asking.ensures
