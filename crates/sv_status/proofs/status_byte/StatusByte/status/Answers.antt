use Rattle.sv_logs.proofs.Since.{iff_transitive}
use Rattle.sv_status.proofs.StatusBytes.{master_bit}
use Rattle.sv_status.proofs.status_byte.StatusByte.status.Goals as goal

pub returns : goal.returns
returns c acts is k =
    iff_transitive (c.with_bit_6.ensures k) (master_bit _ acts k c.mss.result (rw (← c.self.view_is) at is) (c.mss.ensures acts is))
