use Rattle.std.proofs.Common.{not, arith}
use Rattle.std.specs.Prelude.{◌==◌}
use Rattle.std.proofs.lemmas.List.{length-append}
use Rattle.sv_value.proofs.Runs.{position_in_first_part, position_in_second_part}
use Rattle.sv_value.proofs.amount.significant.Goals as goal

pub returns-then-zeros-whole : goal.returns-then-zeros-whole
returns-then-zeros-whole c =
    let z = c.zeros_in-zeros.ensures.value in
    let all = length-append c.args.whole.now c.args.fraction.now in
    let first = position_in_first_part (λ b. not (b == 48)) c.args.whole.now c.args.fraction.now (rw z at c.if-zeros-whole.true) in
    omega (arith, z, all, first, c.zeros_in-zeros.ensures.within)

pub returns-else-zeros-whole : goal.returns-else-zeros-whole
returns-else-zeros-whole c =
    let z = c.zeros_in-zeros.ensures.value in
    let f = c.zeros_in.ensures.value in
    let all = length-append c.args.whole.now c.args.fraction.now in
    let first = position_in_second_part (λ b. not (b == 48)) c.args.whole.now c.args.fraction.now (rw z at c.if-zeros-whole.false) in
    omega (arith, z, f, all, first)
