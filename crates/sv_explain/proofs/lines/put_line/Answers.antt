use Rattle.std.proofs.Common.{◌≡◌, ◌++◌, ◌∷◌, [], ◌∙◌, List, ℕ, ap}
use Rattle.sv_explain.specs.Value.{value_text}
use Rattle.sv_explain.specs.Inside.Names.{owner_text}
use Rattle.sv_print.proofs.Taking.{prints_equal_text}
use Rattle.sv_explain.proofs.Printing.{value_line_text}
use Rattle.sv_explain.proofs.lines.put_line.Goals as goal

both : (a b c d : List ℕ) → a ≡ c → b ≡ d → a ++ b ≡ c ++ d
both a b c d e f = ap (λ (l : List ℕ). l ++ b) e ∙ ap (λ (l : List ℕ). c ++ l) f

pub returns : goal.returns
returns g c =
    prints_equal_text _ _ _ _ _ _ (both _ _ _ _ c.name_parts-before.ensures c.value_parts-text.ensures
    ∙ value_line_text (owner_text c.args.owner) c.args.name.now (value_text c.args.value)) c.put_two.ensures
