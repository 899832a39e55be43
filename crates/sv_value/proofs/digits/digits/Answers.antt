use Rattle.std.proofs.Common.{◌∙◌, ap, take}
use Rattle.std.specs.Char.{is_ascii_digit}
use Rattle.std.specs.List.{list_all}
use Rattle.sv_value.proofs.Runs.{prefix_passes_test}
use Rattle.sv_value.proofs.digits.digits.Goals as goal

pub returns-clause-all : goal.returns-clause-all
returns-clause-all c = ap (list_all is_ascii_digit) (c.split_at.ensures.front ∙ ap (λ n. take n c.args.text.now) c.size_of.ensures.value)
    ∙ prefix_passes_test is_ascii_digit c.args.text.now
