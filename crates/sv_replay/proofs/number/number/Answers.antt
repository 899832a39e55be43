-- Each turn of the loop reads one digit, or finds that the text is no number of at most `most`.
use Rattle.std.proofs.Common.{length, sym, ◌∙◌, arith}
use Rattle.std.proofs.lemmas.Bool.{eqb-true, eqb-false}
use Rattle.sv_replay.proofs.Steps.{number_at_first_digit, number_at_no_digits, digits_end, digits_at_non_digit, digits_above, digits_next}
use Rattle.sv_replay.proofs.number.number.Goals as goal

pub returns-then-is_empty-clause-exact : goal.returns-then-is_empty-clause-exact
returns-then-is_empty-clause-exact c = number_at_no_digits c.args.most c.args.digits.now
    (eqb-true (length c.args.digits.now) 0 (sym c.if-is_empty.ensures))

pub loop-digit-init : goal.loop-digit-init
loop-digit-init c = (
  number_at_first_digit c.args.most c.args.digits.now (λ e. eqb-false (length c.args.digits.now) 0 (sym c.if-is_empty.ensures) (sym e)),
  omega arith,
)

pub returns-then-not-is_ascii_digit-clause-exact : goal.returns-then-not-is_ascii_digit-clause-exact
returns-then-not-is_ascii_digit-clause-exact c =
    sym (digits_at_non_digit c.args.most c.loop-digit.value c.args.digits.now c.loop-digit.digit-index c.loop-digit-test.true
    (sym c.if-not-is_ascii_digit.ensures.value)) ∙ c.loop-digit.invariant.0

pub returns-then-most-value-clause-exact : goal.returns-then-most-value-clause-exact
returns-then-most-value-clause-exact c =
    sym (digits_above c.args.most c.loop-digit.value c.args.digits.now c.loop-digit.digit-index c.loop-digit-test.true
    (sym c.if-not-is_ascii_digit.ensures.value) (omega arith)) ∙ c.loop-digit.invariant.0

pub loop-digit-preserved : goal.loop-digit-preserved
loop-digit-preserved c =
    let e = digits_next c.args.most c.loop-digit.value c.args.digits.now c.loop-digit.digit-index c.loop-digit-test.true
    (sym c.if-not-is_ascii_digit.ensures.value) (omega arith) in
    (rw c.from.ensures (sym e ∙ c.loop-digit.invariant.0), omega arith)

pub returns-clause-exact : goal.returns-clause-exact
returns-clause-exact c =
    sym (digits_end c.args.most c.loop-digit.value c.args.digits.now c.loop-digit.digit-index (omega arith)) ∙ c.loop-digit.invariant.0
