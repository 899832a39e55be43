use Rattle.sv_print.proofs.Taking.{prints_then}
use Rattle.sv_explain.proofs.changes.put_statuses.Goals as goal

pub returns : goal.returns
returns g c =
    prints_then _ _ _ _ _ _ _ _ c.put_register.ensures (
    prints_then _ _ _ _ _ _ _ _ c.put_register-2.ensures (
    prints_then _ _ _ _ _ _ _ _ c.put_register-3.ensures c.put_status.ensures))
