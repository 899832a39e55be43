use Rattle.std.proofs.Common.{◌∷◌, ap, ℤ, pos, slice_index_or, SFits, w16, rules}
use Rattle.std.proofs.lemmas.Int.{to_z-of_z}
use Rattle.std.specs.Fmt.{signed_decimal}
use Rattle.sv_print.proofs.Taking.{prints_none, prints_more, prints_equal_text}
use Rattle.sv_explain.proofs.Printing.{prints_all}
use Rattle.sv_explain.proofs.lines.put_each.Goals as goal

pub loop-number-init : goal.loop-number-init
loop-number-init g c = prints_none _ _

pub loop-number-preserved : goal.loop-number-preserved
loop-number-preserved g c =
    let fits : SFits w16 (slice_index_or c.args.numbers.now c.loop-number.number-index (pos 0)) = search rules in
    prints_more (λ n. 32 ∷ signed_decimal n) c.args.numbers.now c.loop-number.number-index (pos 0) _ _ _ _ _ _ c.loop-number-test.true
    c.loop-number.invariant
    (prints_equal_text _ _ _ _ _ _ (ap (λ (n : ℤ). 32 ∷ signed_decimal n) (to_z-of_z w16 _ fits)) c.put_signed.ensures)

pub returns : goal.returns
returns g c =
    prints_all (λ n. 32 ∷ signed_decimal n) c.args.numbers.now c.loop-number.number-index _ _ _ _ c.loop-number-test.false
    c.loop-number.invariant
