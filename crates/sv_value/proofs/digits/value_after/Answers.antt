use Rattle.std.proofs.Common.{◌∙◌, ◌+◌, ◌*◌, ap, min, arith}
use Rattle.sv_value.proofs.Capped.{capped_digit}
use Rattle.sv_value.proofs.digits.value_after.Goals as goal

pub loop-rest-preserved : goal.loop-rest-preserved
loop-rest-preserved c =
    let digit = c.from-in-len1-up.ensures ∙ c.value_of.ensures.value in
    let next = c.min-value.ensures ∙ ap (λ n. min 1000000000000000000 (c.loop-rest.value * n + c.from-in-len1-up.result)) c.from.ensures
    ∙ ap (λ n. min 1000000000000000000 (c.loop-rest.value * c.args.base + n)) digit in
    record {
      value = c.loop-rest.invariant.value ∙ capped_digit c.args.base 1000000000000000000 c.loop-rest.value c.min-value.result
          c.loop-rest.rest.now c.requires.some c.in-len1-up.len_at_least next;
      most = omega (arith, c.min-value.ensures);
    }
