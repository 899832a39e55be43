use Rattle.sv_print.proofs.Taking.{prints_then}
use Rattle.sv_explain.proofs.links.put_links.Goals as goal

pub returns : goal.returns
returns g c =
    prints_then _ _ _ _ _ _ _ _ c.put_all_left.ensures c.put_all_come.ensures
