use Rattle.std.proofs.Common.{◌∷◌}
use Rattle.std.specs.Prelude.{codes, decimal}
use Rattle.sv_explain.specs.Lines.{links_lines}
use Rattle.sv_print.proofs.Taking.{prints_then}
use Rattle.sv_explain.proofs.Printing.{prints_of_equals}
use Rattle.sv_explain.proofs.shown.LinksShown.update.Goals as goal

pub returns-clause-lines : goal.returns-clause-lines
returns-clause-lines g c =
    prints_then _ _ _ _ _ _ _ _
    (prints_of_equals (links_lines (codes "link.") (codes "none") (λ link. 99 ∷ decimal link.conn)) _ _ _ _ _ _ _ _
    c.as_slice-old.ensures.value c.as_slice-new.ensures.value c.put_links.ensures)
    (prints_then _ _ _ _ _ _ _ _ c.put_lock.ensures
    (prints_of_equals (links_lines (codes "srq.") (codes "off") (λ link. codes "on")) _ _ _ _ _ _ _ _
    c.as_slice-old-2.ensures.value c.as_slice-new-2.ensures.value c.put_links-2.ensures))
