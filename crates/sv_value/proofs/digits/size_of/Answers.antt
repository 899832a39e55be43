use Rattle.std.proofs.Common.{◌∙◌, ap, not, length, unwrap_or}
use Rattle.std.specs.Char.{is_ascii_digit}
use Rattle.sv_text.proofs.Places.{position_or_length, position_within_length}
use Rattle.sv_value.proofs.digits.size_of.Goals as goal

pub returns-clause-value : goal.returns-clause-value
returns-clause-value c = c.unwrap_or.ensures ∙ ap (λ o. unwrap_or o (length c.args.text.now)) c.end_of.ensures
    ∙ position_or_length (λ b. not (is_ascii_digit b)) c.args.text.now

pub returns-clause-within : goal.returns-clause-within
returns-clause-within c = rw (returns-clause-value c) (position_within_length (λ b. not (is_ascii_digit b)) c.args.text.now)
