use Rattle.std.proofs.Common.{◌∙◌, ◌∷◌, ap, sym}
use Rattle.sv_text.specs.Cut.{cut_at}
use Rattle.sv_text.proofs.Parts.{at_least_one_part}
use Rattle.sv_value.specs.Channels.{span_of}
use Rattle.sv_value.specs.Plain.{ends_up_to}
use Rattle.sv_value.proofs.Spans.{span_has_at_most_two_parts}
use Rattle.sv_value.proofs.channels.two_ends.Goals as goal

pub returns-in_default-Some : goal.returns-in_default-Some
returns-in_default-Some c =
    let parts = rw c.in_default-Some.is-1 at c.first_part.ensures.parts in
    sym (ap (λ ps. ends_up_to (span_of (c.args.front.now ∷ ps))) parts
    ∙ ap ends_up_to (span_has_at_most_two_parts c.args.front.now c.first_part.result.0.now (cut_at 58 c.in_default-Some.field-0-1.now)
    (at_least_one_part 58 c.in_default-Some.field-0-1.now)))
