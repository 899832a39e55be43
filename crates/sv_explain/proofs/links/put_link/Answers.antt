use Rattle.std.proofs.Common.{ap, ℕ, ◌∷◌, ◌++◌, [], decimal}
use Rattle.sv_print.specs.Parts.{parts_text}
use Rattle.sv_explain.specs.Inside.Names.{list_name}
use Rattle.sv_print.proofs.Taking.{prints_then, prints_equal_text}
use Rattle.sv_explain.proofs.Printing.{link_line_text}
use Rattle.sv_explain.proofs.links.put_link.Goals as goal

pub returns : goal.returns
returns g c =
    prints_equal_text _ _ _ _ _ _
    (link_line_text (list_name c.args.of) c.name.result.now (decimal c.args.lid) (parts_text c.args.text.now) c.name.ensures)
    (prints_then _ _ _ _ _ _ _ _
    (prints_equal_text _ _ _ _ _ _ (ap (λ (n : ℕ). 61 ∷ 32 ∷ (c.name.result.now ++ (decimal n ++ 32 ∷ []))) c.from.ensures) c.put.ensures)
    (prints_then _ _ _ _ _ _ _ _ c.put-2.ensures c.put-3.ensures))
