use Rattle.std.proofs.Common.{◌∙◌, ap, not, length, unwrap_or}
use Rattle.std.specs.Prelude.{◌==◌}
use Rattle.sv_text.proofs.Places.{position_or_length, position_within_length}
use Rattle.sv_value.proofs.amount.zeros_in.Goals as goal

pub returns-clause-value : goal.returns-clause-value
returns-clause-value c = c.unwrap_or.ensures ∙ ap (λ o. unwrap_or o (length c.args.digits.now)) c.zeros_end.ensures
    ∙ position_or_length (λ b. not (b == 48)) c.args.digits.now

pub returns-clause-within : goal.returns-clause-within
returns-clause-within c = rw (returns-clause-value c) (position_within_length (λ b. not (b == 48)) c.args.digits.now)
