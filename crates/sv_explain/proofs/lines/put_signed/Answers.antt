use Rattle.std.proofs.Common.{ap, append-nil, List, ℕ, ℤ, [], ◌∷◌, ◌++◌, ◌∙◌, w16, w64}
use Rattle.std.proofs.lemmas.Int.{to_z-of_z}
use Rattle.std.specs.Fmt.{signed_decimal}
use Rattle.sv_print.proofs.Taking.{prints_equal_text}
use Rattle.sv_explain.proofs.lines.put_signed.Goals as goal

pub returns : goal.returns
returns g c =
    prints_equal_text _ _ _ _ _ _
    (ap (λ (n : ℤ). 32 ∷ (signed_decimal n ++ []))
    (to_z-of_z w64 c.from.result (record { sfits = c.from.type_inv }) ∙ c.from.ensures ∙ to_z-of_z w16 c.args.number c.ranges.number)
    ∙ ap (λ (l : List ℕ). 32 ∷ l) (append-nil (signed_decimal c.args.number))) c.put.ensures
