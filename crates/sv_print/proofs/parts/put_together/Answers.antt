use Rattle.sv_print.proofs.Taking.{second_text_decides}
use Rattle.sv_print.proofs.parts.put_together.Goals as goal

pub returns : goal.returns
returns g c = second_text_decides _ _ _ _ _ _ c.in_ok-put_parts.ensures c.put_parts-2.ensures
