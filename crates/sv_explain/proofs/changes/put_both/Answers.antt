use Rattle.sv_print.proofs.Taking.{prints_then}
use Rattle.sv_explain.proofs.changes.put_both.Goals as goal

pub returns : goal.returns
returns g c =
    prints_then _ _ _ _ _ _ _ _ c.put_own.ensures c.put_channel.ensures
