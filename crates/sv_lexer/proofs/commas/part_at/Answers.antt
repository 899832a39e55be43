use Rattle.std.proofs.Common.{◌∙◌, ◌+◌, refl, ap, sym, length, arith}
use Rattle.sv_lexer.proofs.Standing.{stands_self, stands_after_byte, stands_transitive}
use Rattle.sv_lexer.proofs.Cuts.{last_part_index, remaining_after, part_place_next}
use Rattle.sv_lexer.proofs.commas.part_at.Goals as goal

pub loop-passed-init : goal.loop-passed-init
loop-passed-init c = record { left = refl; place = refl; stands = stands_self c.args.text.now; few = omega arith }

pub returns-in_err-rest : goal.returns-in_err-rest
returns-in_err-rest c =
    let last = rw c.in_err-rest.was at c.first_outside.ensures.parts in
    let size = last_part_index c.loop-passed.passed _ _ (c.loop-passed.invariant.left ∙ last) in
    rw (c.from_residual.ensures) (omega (arith, size, c.loop-passed-test.true))

pub loop-passed-preserved : goal.loop-passed-preserved
loop-passed-preserved c =
    let more = c.loop-passed.invariant.left ∙ (rw c.in_ok-rest.was at c.first_outside.ensures.parts) in
    let whole = rw c.in_ok-rest.was at c.first_outside.ensures.whole in
    record {
      left = remaining_after c.loop-passed.passed _ _ _ more;
      place = ap (λ n. n + (length c.first_outside.result.0.now + 1)) c.loop-passed.invariant.place
          ∙ sym (part_place_next c.loop-passed.passed _ _ _ more);
      stands = stands_transitive c.args.text.now c.loop-passed.rest.now c.in_ok-rest.rest.now c.loop-passed.place _
          c.loop-passed.invariant.stands
          (stands_after_byte c.loop-passed.rest.now c.first_outside.result.0.now c.in_ok-rest.rest.now 44 _ whole refl);
      few = omega (arith, c.loop-passed-test.true);
    }
